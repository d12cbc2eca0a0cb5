-- The signal word of an end: its bits and one change of it. 01 "Signal word and packets".
use Rattle.std.specs.Prelude.{ℕ, ◌-◌, ◌^◌, Bool, not, eqb, ltb, leb}
use Rattle.std.specs.Int.Bits.{bit_and, bit_or}
use Rattle.std.specs.declared.option.Option.{Option}
use Rattle.definition.specs.Status.{pick, ◌and◌}

-- the signals' bits, those of the public header
abbrev pub READABLE : ℕ
READABLE = 0x1

abbrev pub WRITABLE : ℕ
WRITABLE = 0x2

abbrev pub PEER_CLOSED : ℕ
PEER_CLOSED = 0x4

abbrev pub PEER_WRITE_DISABLED : ℕ
PEER_WRITE_DISABLED = 0x10

abbrev pub WRITE_DISABLED : ℕ
WRITE_DISABLED = 0x20

abbrev pub READ_THRESHOLD : ℕ
READ_THRESHOLD = 0x400

abbrev pub WRITE_THRESHOLD : ℕ
WRITE_THRESHOLD = 0x800

-- 01 "Signal word and packets": a change clears bits of the 32-bit word, then sets bits
unfoldable pub changed_word : ℕ → ℕ → ℕ → ℕ
changed_word clear set w = bit_or (bit_and w (2 ^ 32 - 1 - clear)) set

-- 01 "Signal word and packets": a mask meets a word if some bit of the mask is in the word
unfoldable pub meets : ℕ → ℕ → Bool
meets w mask = not (eqb (bit_and w mask) 0)

-- what an end shows: its signal word; none once it is closed
abbrev pub SignalWord : Type 0
SignalWord = Option ℕ

-- ---- bits by a test

-- a bit if the test holds, else none
unfoldable pub bit_if : Bool → ℕ → ℕ
bit_if b bit = pick b bit 0

-- a threshold above 0 that n reaches
unfoldable pub reached : (threshold n : ℕ) → Bool
reached threshold n = ltb 0 threshold and leb threshold n

-- a threshold above 0 that n is below
unfoldable pub missed : (threshold n : ℕ) → Bool
missed threshold n = ltb 0 threshold and ltb n threshold
