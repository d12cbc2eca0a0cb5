-- A call that leaves the pair as it is and puts its record into an array, put together from its parts. Assumes nothing.
use mathlib.Core.Path.{◌≡◌, refl}
use mathlib.Core.Bool.{Bool, true, false}
use mathlib.Core.List.{List}
use Prim.Native.Nat.{ℕ}
use Rattle.definition.specs.declared.Record.{Record}
use Rattle.definition.specs.Status.{Answer}
use Rattle.definition.specs.Status.{pick, is_done}
use Rattle.definition.specs.declared.Pair.{Pair}
use Rattle.definition.specs.declared.Step.{Step}
use Rattle.definition.specs.Tests.{Steps}
use Rattle.definition_runs.specs.Exported.{array_of, Recorded}

-- the next pair of such a call is the old one, refused or not
same : (b : Bool) (p : Pair) → p ≡ pick b p p
unfolding pick
same true p = refl
same false p = refl

pub recorded : (numbers : Record → List ℕ → List ℕ) (p : Pair) (a : Answer) (out out' : List ℕ) (s : Step)
    → Steps p a p s → out' ≡ array_of numbers s.answer out → Recorded numbers (Steps p a p) out out' (record { pair = p; answer = s.answer })
recorded numbers p a out out' s e f =
    record { step = record { answer = e.answer; pair = same (is_done a) p }; array = f }
