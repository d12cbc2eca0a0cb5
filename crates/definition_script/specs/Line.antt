-- One line of the listing. 01 "Script program", line. 32 is a space, 10 a newline.
use Rattle.std.specs.Prelude.{ℕ, ◌+◌, zero, suc, ◌/◌, ◌%◌, ◌*◌, List, ◌∷◌, [], ◌++◌, ltb, ℤ, pos, negsuc}
use Rattle.definition.specs.Status.{Answer}
use Rattle.definition.specs.Signal.{SignalWord}
use Rattle.std.specs.declared.option.Option.TheVariants.{None, Some}
use Rattle.definition.specs.declared.SocketInfo.{SocketInfo}
use Rattle.definition.specs.declared.PortPacket.{PortPacket}
use Rattle.definition.specs.declared.Record.{Record}
use Rattle.definition.specs.declared.Record.TheVariants.{Empty, Count, Info, Limits, Packet}
use Rattle.std.specs.declared.result.Result.TheVariants.{Ok, Err}
use Rattle.definition.specs.Status.{pick, answer_word}

-- ---- numbers and bytes as text

-- the ASCII code of a digit below 16: `0` to `9`, then `a` to `f`
unfoldable pub digit_of : ℕ → ℕ
digit_of d = pick (ltb d 10) (48 + d) (87 + d)

-- the last k digits of n in a base, before the text behind them
unfoldable pub digits_of : (base k n : ℕ) → (behind : List ℕ) → List ℕ
digits_of base zero n behind = behind
digits_of base (suc k) n behind = digits_of base k (n / base) (digit_of (n % base) ∷ behind)

-- how many decimal digits n has, at most k + 1; p is the least number with two digits more than have been counted
unfoldable pub width_by : (k p n : ℕ) → ℕ
width_by zero p n = 1
width_by (suc k) p n = pick (ltb n p) 1 (1 + width_by k (p * 10) n)

-- a number of 64 bits has 20 digits at most
unfoldable pub width_of : ℕ → ℕ
width_of n = width_by 19 10 n

-- a number of 64 bits in decimal
unfoldable pub decimal_of : ℕ → List ℕ
decimal_of n = digits_of 10 (width_of n) n []

-- the last k hexadecimal digits of n
unfoldable pub hex_of : (k n : ℕ) → List ℕ
hex_of k n = digits_of 16 k n []

-- bytes, two hexadecimal digits each
unfoldable pub hex_bytes_of : List ℕ → List ℕ
hex_bytes_of [] = []
hex_bytes_of (b ∷ bs) = digit_of (b / 16) ∷ digit_of (b % 16) ∷ hex_bytes_of bs

-- a signed number in decimal; 45 is the minus sign
unfoldable pub signed_of : ℤ → List ℕ
signed_of (pos n) = decimal_of n
signed_of (negsuc n) = 45 ∷ decimal_of (n + 1)

-- the word of an answer in decimal
unfoldable pub word_of : Answer → List ℕ
word_of a = signed_of (answer_word a)

-- `stop`, a space, the number, a newline
unfoldable pub stop_of : ℕ → List ℕ
stop_of n = (115 ∷ 116 ∷ 111 ∷ 112 ∷ 32 ∷ []) ++ (decimal_of n ++ (10 ∷ []))

-- ---- the line

-- a number behind a space, in decimal, and as its last k hexadecimal digits
unfoldable pub number_text : ℕ → List ℕ
number_text n = 32 ∷ decimal_of n

unfoldable pub hex_text : (k n : ℕ) → List ℕ
hex_text k n = 32 ∷ hex_of k n

-- the signal word of an end: 8 hexadecimal digits, or `-` if it is closed or was never made
unfoldable pub signal_text : SignalWord → List ℕ
signal_text None = 45 ∷ []
signal_text (Some w) = hex_of 8 w

-- info adds its six numbers
unfoldable pub own_text : SocketInfo → List ℕ
own_text i = number_text i.options ++ (number_text i.rx_buf_max ++ number_text i.rx_buf_size)

unfoldable pub rest_text : SocketInfo → List ℕ
rest_text i = number_text i.rx_buf_available ++ (number_text i.tx_buf_max ++ number_text i.tx_buf_size)

unfoldable pub info_text : SocketInfo → List ℕ
info_text i = own_text i ++ rest_text i

-- take adds key, trigger and observed
unfoldable pub packet_text : PortPacket → List ℕ
packet_text k = hex_text 16 k.key ++ (hex_text 8 k.trigger ++ hex_text 8 k.observed)

-- a read adds the delivered bytes, if any
unfoldable pub bytes_text : List ℕ → List ℕ
bytes_text [] = []
bytes_text (b ∷ bs) = 32 ∷ hex_bytes_of (b ∷ bs)

-- what a done call adds; only a read has delivered bytes
unfoldable pub record_text : Record → (delivered : List ℕ) → List ℕ
record_text Empty bs = []
record_text (Count n) bs = bytes_text bs
record_text (Info i) bs = info_text i
record_text (Limits t) bs = []
record_text (Packet k) bs = packet_text k

-- a refused call adds nothing
unfoldable pub added_text : Answer → (delivered : List ℕ) → List ℕ
added_text (Ok d) bs = record_text d bs
added_text (Err s) bs = []

-- the record's number and the answer's word
unfoldable pub front_text : (number : ℕ) → Answer → List ℕ
front_text number a = decimal_of number ++ (32 ∷ word_of a ++ (32 ∷ []))

-- both signal words
unfoldable pub signals_text : (one two : SignalWord) → List ℕ
signals_text one two = signal_text one ++ (32 ∷ signal_text two)

-- 01 "Script program", line: the number, the word, both signal words, what the call adds, a newline
unfoldable pub line_of : (number : ℕ) → Answer → (one two : SignalWord) → (delivered : List ℕ) → List ℕ
line_of number a one two bs = front_text number a ++ (signals_text one two ++ (added_text a bs ++ (10 ∷ [])))
