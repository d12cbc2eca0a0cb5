-- A disposition by numbers of which one is above 2 is refused. Assumes nothing.
use Prim.Native.Nat.{ℕ}
use mathlib.Core.Path.{◌≡◌, refl, sym, ap}
use mathlib.Core.Bool.{true, false}
use lib.Dec.{ltb}
use Rattle.std.specs.declared.result.Result.TheVariants.{Ok, Err}
use Rattle.definition.specs.declared.Status.TheVariants.{InvalidArgs}
use Rattle.definition.specs.declared.Ends.{Ends}
use Rattle.definition.specs.Status.{Answer, is_done, ◌then◌}
use Rattle.definition.specs.Disposition.{user_dispose_answer}
use Rattle.endpoint.proofs.answer.Rules.{refuse_on}

-- a refusal behind a test
not_behind : (g a : Answer) → is_done a ≡ false → is_done (g then a) ≡ false
unfolding is_done ◌then◌
not_behind (Ok d) a e = e
not_behind (Err s) a e = refl

module _ (e : Ends) (h a b : ℕ) where
  pub first_refused : ltb 2 a ≡ true → is_done (user_dispose_answer e h a b) ≡ false
  unfolding user_dispose_answer is_done
  first_refused w = not_behind _ _ (ap is_done (sym (refuse_on (ltb 2 a) InvalidArgs _ w)))

  pub second_refused : ltb 2 b ≡ true → is_done (user_dispose_answer e h a b) ≡ false
  unfolding user_dispose_answer is_done
  second_refused w = not_behind _ _ (not_behind _ _ (ap is_done (sym (refuse_on (ltb 2 b) InvalidArgs _ w))))
