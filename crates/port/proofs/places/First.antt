-- A table of which the first place alone is used, or none: its record by its two counts. Assumes nothing.
use Prim.Native.Nat.{ℕ}
use mathlib.Core.Path.{◌≡◌, refl, ap, ◌∙◌}
use mathlib.Core.Bool.{Bool, true}
use lib.Dec.{eqb}
use borrow.Author.Tests.{eqb-true}
use Rattle.definition.specs.Status.{pick, ◌and◌}
use Rattle.endpoint.proofs.answer.Chains.{both}
use Rattle.definition.specs.declared.Places.{Places}

-- the counts of a table, put into its record
pub counted : (t : Places) (a b : ℕ) → (eqb t.packets a and eqb t.waits b) ≡ true → t ≡ record { packets = a; waits = b; table = t.table }
counted t a b e =
    let w = both _ _ e in
    ap (λ (n : ℕ). record { packets = n; waits = t.waits; table = t.table }) (eqb-true t.packets a w.0)
    ∙ ap (λ (n : ℕ). record { packets = a; waits = n; table = t.table }) (eqb-true t.waits b w.1)

pub both-on : (a b : Bool) → a ≡ true → b ≡ true → (a and b) ≡ true
unfolding ◌and◌
both-on a b e f = rw (e, f) refl

pub pick_true : {A : Type 0} (b : Bool) (x y : A) → b ≡ true → pick b x y ≡ x
unfolding pick
pick_true b x y e = rw e refl
