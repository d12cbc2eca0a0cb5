-- A call that is lent nothing, put together from its answer and its next pair. Assumes nothing.
use mathlib.Core.Path.{◌≡◌, refl, sym, ap, ◌∙◌}
use mathlib.Core.Bool.{Bool, true, false}
use Rattle.definition.specs.Status.{Answer}
use Rattle.definition.specs.Status.{pick, is_done}
use Rattle.endpoint.proofs.answer.Rules.{pick-on, pick_off}
use Rattle.definition.specs.declared.Pair.{Pair}
use Rattle.definition.specs.Tests.{Steps}

pub steps-refused : (p p' q : Pair) (a x : Answer) → x ≡ a → is_done x ≡ false → p' ≡ p → Steps p a q (record { pair = p'; answer = x })
steps-refused p p' q a x e f g =
    record { answer = e; pair = pick_off _ _ _ _ _ (ap is_done (sym e) ∙ f) g }

pub steps-done : (p q q' : Pair) (a x : Answer) → x ≡ a → is_done x ≡ true → q' ≡ q → Steps p a q (record { pair = q'; answer = x })
steps-done p q q' a x e f g =
    record { answer = e; pair = pick-on _ _ _ _ _ (ap is_done (sym e) ∙ f) g }

pub steps-same : (p : Pair) (a x : Answer) → x ≡ a → Steps p a p (record { pair = p; answer = x })
unfolding pick
steps-same p a x e = record { answer = e; pair = same (is_done a) }
  where
    same : (b : Bool) → p ≡ pick b p p
    same true = refl
    same false = refl
