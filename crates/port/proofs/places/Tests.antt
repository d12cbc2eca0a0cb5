-- The tests of the two counts without their sum. Assumes nothing.
use Prim.Native.Nat.{◌+◌, ◌≤◌}
use mathlib.Core.Path.{◌≡◌, ◌∙◌}
use mathlib.Core.Bool.{Bool, true, false}
use borrow.Author.Tests.{le-leb}
use Rattle.definition.specs.Status.{◌and◌}
use Rattle.definition.specs.declared.Places.{Places}
use Rattle.endpoint.proofs.answer.Rules.{and_off}
use Rattle.definition.specs.Port.{used, sound}

-- a table with no more than 128 used places is sound
pub sound_below : (t : Places) → used t ≤ 128 → sound t ≡ true
sound_below t h = le-leb (t.packets + t.waits) 128 h

-- where the first of two tests fails, both come to what it gave
pub first_fails : (a b x : Bool) → a ≡ false → x ≡ a → x ≡ (a and b)
first_fails a b x e f = f ∙ e ∙ and_off a b e
