-- A line is no longer than LINE, where at most 4096 bytes are delivered. Assumes nothing.
use Prim.Native.Nat.{ℕ, ◌+◌, ◌*◌, ◌≤◌}
use native.Mathlib.Omega.{arith}
use mathlib.Core.Path.{◌≡◌}
use mathlib.Core.List.{List, [], ◌∷◌, ◌++◌}
use lib.ListN.{length, length-append}
use lib.IntN.{ℤ, pos, negsuc}
use Rattle.definition.specs.declared.SocketInfo.{SocketInfo}
use Rattle.definition.specs.declared.PortPacket.{PortPacket}
use Rattle.definition.specs.declared.Record.TheVariants.{Empty, Count, Info, Limits, Packet}
use Rattle.definition.specs.Status.{Answer}
use Rattle.std.specs.declared.result.Result.TheVariants.{Ok, Err}
use Rattle.definition.specs.Status.{answer_word}
use Rattle.definition.specs.Signal.{SignalWord}
use Rattle.std.specs.declared.option.Option.TheVariants.{None, Some}
use Rattle.definition_script.specs.Line.{width_of, decimal_of, hex_of, signed_of, word_of, stop_of, number_text, hex_text, signal_text, own_text, rest_text, info_text, packet_text, bytes_text, record_text, added_text, front_text, signals_text, line_of}
use Rattle.text.proofs.Spelling.{digits_length, width_most, hex_bytes-length}
use Rattle.line.specs.line.LineDone.{LINE}

decimal_most : (n : ℕ) → length (decimal_of n) ≤ 20
unfolding decimal_of
decimal_most n = omega (arith, digits_length 10 (width_of n) n [], width_most n)

hex-length : (k n : ℕ) → length (hex_of k n) ≡ k
unfolding hex_of
hex-length k n = omega (arith, digits_length 16 k n [])

signed_most : (w : ℤ) → length (signed_of w) ≤ 21
unfolding signed_of
signed_most (pos n) = omega (arith, decimal_most n)
signed_most (negsuc n) = omega (arith, decimal_most (n + 1))

-- `stop`, a space, the number, a newline
pub stop-most : (n : ℕ) → length (stop_of n) ≤ 26
unfolding stop_of
stop-most n = omega (arith, decimal_most n, length-append (decimal_of n) (10 ∷ []))

front-most : (number : ℕ) (a : Answer) → length (front_text number a) ≤ 43
unfolding front_text word_of
front-most number a =
    let w : List ℕ = signed_of (answer_word a) in
    omega (arith, decimal_most number, signed_most (answer_word a), length-append (decimal_of number) (32 ∷ w ++ (32 ∷ [])), length-append w (32 ∷ []))

signal_most : (w : SignalWord) → length (signal_text w) ≤ 8
unfolding signal_text
signal_most None = omega arith
signal_most (Some w) = omega (arith, hex-length 8 w)

signals-most : (one two : SignalWord) → length (signals_text one two) ≤ 17
unfolding signals_text
signals-most one two = omega (arith, signal_most one, signal_most two, length-append (signal_text one) (32 ∷ signal_text two))

number-most : (n : ℕ) → length (number_text n) ≤ 21
unfolding number_text
number-most n = omega (arith, decimal_most n)

three-most : (a b c : ℕ) → length (number_text a ++ (number_text b ++ number_text c)) ≤ 63
three-most a b c =
    omega (
      arith,
      number-most a,
      number-most b,
      number-most c,
      length-append (number_text a) (number_text b ++ number_text c),
      length-append (number_text b) (number_text c),
    )

info-most : (i : SocketInfo) → length (info_text i) ≤ 126
unfolding info_text own_text rest_text
info-most i =
    let x : List ℕ = number_text i.options ++ (number_text i.rx_buf_max ++ number_text i.rx_buf_size) in
    let y : List ℕ = number_text i.rx_buf_available ++ (number_text i.tx_buf_max ++ number_text i.tx_buf_size) in
    omega (
      arith,
      three-most i.options i.rx_buf_max i.rx_buf_size,
      three-most i.rx_buf_available i.tx_buf_max i.tx_buf_size,
      length-append x y,
    )

packet_most : (k : PortPacket) → length (packet_text k) ≤ 35
unfolding packet_text hex_text
packet_most k =
    let x : List ℕ = 32 ∷ hex_of 16 k.key in
    let y : List ℕ = 32 ∷ hex_of 8 k.trigger in
    let z : List ℕ = 32 ∷ hex_of 8 k.observed in
    omega (arith, hex-length 16 k.key, hex-length 8 k.trigger, hex-length 8 k.observed, length-append x (y ++ z), length-append y z)

bytes_most : (bs : List ℕ) → length (bytes_text bs) ≤ 1 + 2 * length bs
unfolding bytes_text
bytes_most [] = omega arith
bytes_most (b ∷ bs) = omega (arith, hex_bytes-length (b ∷ bs))

added-most : (a : Answer) (bs : List ℕ) → length bs ≤ 4096 → length (added_text a bs) ≤ 8193
unfolding added_text record_text
added-most (Ok Empty) bs h = omega arith
added-most (Ok (Count n)) bs h = omega (arith, bytes_most bs)
added-most (Ok (Info i)) bs h = omega (arith, info-most i)
added-most (Ok (Limits t)) bs h = omega arith
added-most (Ok (Packet k)) bs h = omega (arith, packet_most k)
added-most (Err s) bs h = omega arith

pub line-most : (number : ℕ) (a : Answer) (one two : SignalWord) (bs : List ℕ) → length bs ≤ 4096 → length (line_of number a one two bs) ≤ LINE
unfolding line_of
line-most number a one two bs h =
    let f : List ℕ = front_text number a in
    let s : List ℕ = signals_text one two in
    let d : List ℕ = added_text a bs in
    omega (
      arith,
      front-most number a,
      signals-most one two,
      added-most a bs h,
      length-append f (s ++ (d ++ (10 ∷ []))),
      length-append s (d ++ (10 ∷ [])),
      length-append d (10 ∷ []),
    )
