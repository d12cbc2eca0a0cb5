-- The bytes that a read adds to its line, and a line that is put or not. Assumes nothing.
use Prim.Native.Nat.{ℕ, ◌≤◌}
use native.Mathlib.Omega.{arith}
use mathlib.Core.Path.{◌≡◌, refl, sym}
use mathlib.Core.Bool.{true, false}
use lib.Dec.{eqb}
use borrow.Author.Tests.{eqb-true}
use Rattle.std.proofs.lemmas.Bool.{false≢true}
use mathlib.Core.List.{List, [], ◌∷◌}
use lib.ListN.{length}
use Rattle.definition.specs.Status.{Answer}
use Rattle.definition.specs.Signal.{SignalWord}
use Rattle.text.specs.declared.Writer.{Writer}
use Rattle.text.specs.Puts.{Puts}
use Rattle.definition_script.specs.Line.{hex_bytes_of, bytes_text, line_of}
use Rattle.line.specs.line.LineDone.{LINE}
use Rattle.line.specs.line.LineWritten.{LineWritten}

-- the bytes of a read that delivers none, and of one that delivers some
pub bytes-none : (bs : List ℕ) → true ≡ eqb (length bs) 0 → [] ≡ bytes_text bs
unfolding bytes_text
bytes-none [] h = refl
bytes-none (b ∷ bs) h = absurd (let z : length (b ∷ bs) ≡ 0 = eqb-true _ _ (sym h) in omega arith)

pub bytes-some : (bs : List ℕ) → false ≡ eqb (length bs) 0 → (32 ∷ hex_bytes_of bs) ≡ bytes_text bs
unfolding bytes_text
bytes-some [] h = absurd (false≢true h)
bytes-some (b ∷ bs) h = refl

-- a line that was put, or for which there was no room
pub line_written : {number : ℕ} {a : Answer} {one two : SignalWord} {bs : List ℕ} {w w' : Writer} → length bs ≤ 4096
    → Puts LINE (line_of number a one two bs) w w' → LineWritten number a one two bs w w'
line_written h p =
    record {
      done = record { put = λ g. record { fit = p.appends.fit; kept = p.kept }; none = λ g. absurd (let z : ⊥ = omega arith in z) };
      same_slice = p.appends.same_slice;
    }
