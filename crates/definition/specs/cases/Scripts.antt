-- Scripts of calls on a new pair with C = 8, each with what the lines of the listing show: how their calls and lines are written.
-- 01 "At the edges", "Script program".
use Rattle.std.specs.Prelude.{ℕ, List, [], ◌∷◌, map, false, ◌≡◌, replicate, ℤ, pos, neg_ℤ}
use Rattle.std.proofs.Math.Option.{Option, none, some}
use Rattle.definition.specs.declared.Record.{Record}
use Rattle.definition.specs.Signal.{SignalWord}
use Rattle.std.specs.declared.option.Option.TheVariants.{Some, None}
use Rattle.definition.specs.declared.Record.TheVariants.{Packet}
use Rattle.definition.specs.Calls.{Call, Input, input, Control, control, write, read, plain_write, plain_read, Create, Slices}
use Rattle.definition.specs.cases.Lines.{ShownLine, lines_of}

-- ---- calls

abbrev pub stream_kind : ℕ
stream_kind = 0

abbrev pub datagram_kind : ℕ
datagram_kind = 1

-- memory is 16 bytes at 4096, the letters a to p
abbrev pub letters : List ℕ
letters = 97 ∷ 98 ∷ 99 ∷ 100 ∷ 101 ∷ 102 ∷ 103 ∷ 104 ∷ 105 ∷ 106 ∷ 107 ∷ 108 ∷ 109 ∷ 110 ∷ 111 ∷ 112 ∷ []

abbrev pub on : Call → Input
on c = input c 4096 letters

abbrev pub c : Control → Input
c x = on (control x)

-- n bytes written from an address, or read to 4096, without a count; the same plain
abbrev pub w : (handle address n : ℕ) → Input
w h address n = on (write h 0 address n 0)

abbrev pub r : (handle n : ℕ) → Input
r h n = on (read h 0 4096 n 0)

abbrev pub wp : (handle : ℕ) → (bytes : List ℕ) → Input
wp h bytes = input (plain_write h) 0 bytes

abbrev pub rp : (handle n : ℕ) → Input
rp h n = input (plain_read h false) 0 (replicate n 0)

-- ---- expected lines: the word, then the signal words of ends 1 and 2

abbrev pub line : ℤ → SignalWord → SignalWord → List ℕ → Option Record → ShownLine
line n u v bytes d = record { word = n; end1 = u; end2 = v; bytes = bytes; holds = d }

-- done with n
abbrev pub yes : (n u v : ℕ) → ShownLine
yes n u v = line (pos n) (Some u) (Some v) [] none

-- refused with −n
abbrev pub no : (n u v : ℕ) → ShownLine
no n u v = line (neg_ℤ (pos n)) (Some u) (Some v) [] none

-- a read that delivers these bytes
abbrev pub got : (n u v : ℕ) → List ℕ → ShownLine
got n u v bytes = line (pos n) (Some u) (Some v) bytes none

-- a packet of this key, trigger and observed word
abbrev pub packet_line : (key trigger observed u v : ℕ) → ShownLine
packet_line key trigger observed u v =
    line (pos 0) (Some u) (Some v) [] (some (Packet (record { key = key; trigger = trigger; observed = observed; count = 1; timestamp = 0 })))

-- the same with end 2 closed
abbrev pub yes1 : (n u : ℕ) → ShownLine
yes1 n u = line (pos n) (Some u) None [] none

abbrev pub no1 : (n u : ℕ) → ShownLine
no1 n u = line (neg_ℤ (pos n)) (Some u) None [] none

-- ---- scripts

-- a create with C = 8 and one rights word for both ends, the calls, and the lines that they show
pub record Script : Type 0 where
  pub kind : ℕ
  pub rights : ℕ
  pub calls : List Input
  pub lines : List ShownLine

abbrev pub script_of : (kind rights : ℕ) → List Input → List ShownLine → Script
script_of kind rights is ls = record { kind = kind; rights = rights; calls = is; lines = ls }

abbrev pub create : (kind rights : ℕ) → Create
create kind rights = record { kind = kind; capacity = 8; rights1 = rights; rights2 = rights }

-- each end's ring and table
abbrev pub new_slices : Slices
new_slices = record { ring = replicate 8 0; table = replicate 8 0 }

unfoldable pub script_lines : Script → List ShownLine
unfolding lines_of
script_lines s = lines_of (create s.kind s.rights) new_slices new_slices s.calls

-- create is done and both words are WRITABLE, then the calls show the script's lines
abbrev pub Show : List Script → Type 0
Show ss = map script_lines ss ≡ map (λ (s : Script). yes 0 0x2 0x2 ∷ s.lines) ss
