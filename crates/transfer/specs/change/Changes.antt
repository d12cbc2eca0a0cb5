-- How the code goes: a write and a read give what changes, an `Exchange`, which stands for an effect; the outcome of the call is made of that effect.
-- 01 "Delivered bytes", write, read.
use Rattle.std.specs.Prelude.{ℕ, Bool, ◌≡◌}
use Rattle.std.specs.Option.{option_map}
use Rattle.std.specs.declared.option.Option.{Option}
use Rattle.std.specs.declared.option.Option.TheVariants.{None, Some}
use Rattle.definition.specs.Status.{Answer}
use Rattle.definition.specs.declared.Ends.{Ends}
use Rattle.definition.specs.Effect.{Effect}
use Rattle.definition.specs.Pair.{is_one}
use Rattle.definition.specs.Status.{pick}
use Rattle.endpoint.specs.declared.ends.EndsOutcome.{EndsOutcome}
use Rattle.endpoint.specs.ends.AtOnce.{moved_by}
use Rattle.endpoint.specs.ends.Outcome.{no_visits, outcome_of, unchanged_ends}
use Rattle.transfer.specs.declared.change.Exchange.{Exchange}
use Rattle.transfer.specs.declared.change.Transfer.{Transfer}

-- a call that changes nothing
unfoldable pub kept_transfer : Answer → Transfer
kept_transfer a = record { change = None; answer = a }

-- the outcome of a call by the end of handle h with the answer a, whose effect is f, if it has one
unfoldable pub transfer_outcome : Ends → (h : ℕ) → (a : Answer) → (f : Option Effect) → EndsOutcome
transfer_outcome e h a None = unchanged_ends e a
transfer_outcome e h a (Some f) = outcome_of e.waits (is_one h) a (moved_by (is_one h) f) no_visits

-- what a call says that gives the change c: where it moves none, that there is none; else that the effect that c stands for is the call's effect by
-- the definition
abbrev pub Changes : (none : Bool) → (stands : Exchange → Effect) → (effect : Effect) → (c : Option Exchange) → Type 0
Changes none stands effect c = option_map stands c ≡ pick none None (Some effect)
