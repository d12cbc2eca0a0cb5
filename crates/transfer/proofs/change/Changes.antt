-- What a call changes: nothing, or the effect of the call; and the outcome that is made of it. Assumes nothing.
use Prim.Native.Nat.{ℕ}
use mathlib.Core.Path.{◌≡◌, refl, ap}
use mathlib.Core.Bool.{Bool, true, false}
use Rattle.std.specs.declared.option.Option.{Option}
use Rattle.std.specs.declared.option.Option.TheVariants.{None, Some}
use Rattle.definition.specs.Status.{Answer}
use Rattle.definition.specs.declared.Ends.{Ends}
use Rattle.definition.specs.Effect.{Effect}
use Rattle.definition.specs.Status.{pick}
use Rattle.endpoint.specs.ends.Outcome.{outcome_of, unchanged_ends}
use Rattle.transfer.specs.declared.change.Exchange.{Exchange}
use Rattle.transfer.specs.change.Changes.{transfer_outcome, Changes}

module _ (none : Bool) (stands : Exchange → Effect) (effect : Effect) where
  pub kept-changes : none ≡ true → Changes none stands effect None
  unfolding pick
  kept-changes n = rw n refl

  pub moved-changes : (x : Exchange) → none ≡ false → stands x ≡ effect → Changes none stands effect (Some x)
  unfolding pick
  moved-changes x o e = rw o (ap (λ (f : Effect). Some f) e)

pub outcome-answer : (e : Ends) (h : ℕ) (a : Answer) (f : Option Effect) → a ≡ (transfer_outcome e h a f).answer
unfolding transfer_outcome outcome_of unchanged_ends
outcome-answer e h a None = refl
outcome-answer e h a (Some f) = refl
