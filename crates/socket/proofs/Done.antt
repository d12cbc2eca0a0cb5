-- Whether an answer is done is whether it is `Ok`. Assumes nothing.
use mathlib.Core.Path.{◌≡◌, refl, sym, ◌∙◌}
use mathlib.Core.Bool.{Bool}
use Rattle.std.specs.Result.{is_ok}
use Rattle.std.specs.declared.result.Result.TheVariants.{Ok, Err}
use Rattle.definition.specs.Status.{Answer, is_done}

pub is_ok_done : (a : Answer) → is_ok a ≡ is_done a
unfolding is_done
is_ok_done (Ok d) = refl
is_ok_done (Err s) = refl

-- by the test r of the code, which was taken or left
pub done_as : (a : Answer) {r t : Bool} → r ≡ is_ok a → r ≡ t → is_done a ≡ t
done_as a p q = sym (is_ok_done a) ∙ sym p ∙ q
