-- Where create is done, an end holds the rights word that it was given. Assumes nothing.
use Prim.Native.Nat.{ℕ}
use mathlib.Core.Path.{◌≡◌, refl}
use mathlib.Core.Bool.{Bool, true, false}
use lib.Dec.{ltb}
use Rattle.endpoint.proofs.answer.Chains.{then_both, refuse_passed}
use Rattle.definition.specs.declared.Status.TheVariants.{InvalidArgs}
use Rattle.definition.specs.Status.{pick, refuse_if, ◌then◌, is_done}
use Rattle.definition.specs.Create.{numbers_answer, create_answer}
use Rattle.answers.specs.create.Held.{held_rights}

held_off : (r : ℕ) → ltb 7 r ≡ false → held_rights r ≡ r
unfolding held_rights pick
held_off r e = rw e refl

module _ (kind C r s ring1 table1 ring2 table2 : ℕ) where
  -- the tests of the two rights words, with which those of the numbers end
  rights-done : is_done (create_answer kind C r s ring1 table1 ring2 table2) ≡ true → is_done (refuse_if (ltb 7 r) InvalidArgs then refuse_if (ltb 7 s) InvalidArgs) ≡ true
  unfolding create_answer numbers_answer
  rights-done e = (then_both _ _ (then_both _ _ (then_both _ _ (then_both _ _ e).0).1).1).1

  held_one : is_done (create_answer kind C r s ring1 table1 ring2 table2) ≡ true → held_rights r ≡ r
  held_one e = held_off r (refuse_passed _ _ (then_both _ _ (rights-done e)).0)

  held_two : is_done (create_answer kind C r s ring1 table1 ring2 table2) ≡ true → held_rights s ≡ s
  held_two e = held_off s (refuse_passed _ _ (then_both _ _ (rights-done e)).1)

  -- what is made of the two words where create is done
  pub held-made : {A : Type 0} (f : ℕ → ℕ → A) (x : A) → pick (is_done (create_answer kind C r s ring1 table1 ring2 table2)) (f (held_rights r) (held_rights s)) x ≡ pick (is_done (create_answer kind C r s ring1 table1 ring2 table2)) (f r s) x
  unfolding pick
  held-made f x = go (is_done (create_answer kind C r s ring1 table1 ring2 table2)) refl
    where
      go : (b : Bool) → is_done (create_answer kind C r s ring1 table1 ring2 table2) ≡ b → pick b (f (held_rights r) (held_rights s)) x ≡ pick b (f r s) x
      go true e = rw (held_one e, held_two e) refl
      go false e = refl
