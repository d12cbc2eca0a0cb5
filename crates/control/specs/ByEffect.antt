-- How the code goes: what a call leaves of the two ends, by its effect alone. What each call does stands in crates/definition/specs, and the crate
-- socket has the law that the pair is the one of the effect once the waits are visited.
use Rattle.std.specs.Prelude.{ℕ, Bool, not, eqb}
use Rattle.definition.specs.Status.{Answer}
use Rattle.definition.specs.declared.Endpoint.{Endpoint}
use Rattle.definition.specs.declared.Ends.{Ends}
use Rattle.definition.specs.Status.{pick, is_done}
use Rattle.definition.specs.Signal.{changed_word}
use Rattle.definition.specs.Pair.{with_signals, is_one}
use Rattle.definition.specs.Effect.{WordChange, no_change, own_word, peer_word, Effect}
use Rattle.endpoint.specs.declared.ends.Pending.{Pending}
use Rattle.endpoint.specs.declared.ends.Moved.{Moved}
use Rattle.endpoint.specs.declared.ends.EndsOutcome.{EndsOutcome}
use Rattle.endpoint.specs.ends.Outcome.{no_visit, outcome_of, unchanged_ends}
use Rattle.endpoint.specs.ends.AtOnce.{moved_by, more_by}

-- ---- one change

-- the visit of a change at end t, whose word is w
unfoldable pub visit_at : Bool → (word : ℕ) → WordChange → Pending
visit_at t w no_change = no_visit
visit_at t w (own_word clear set) = record { one = t; word = w; clear = clear; set = set }
visit_at t w (peer_word clear set) = record { one = t; word = w; clear = clear; set = set }

-- the end with its word changed as a visit says
unfoldable pub changed_end : Pending → Endpoint → Endpoint
changed_end v e = with_signals (changed_word v.clear v.set v.word) e

-- ---- the outcome of a call

-- the two ends after a call with this effect, and its third and fourth visits: those of a disposition's peer target
unfoldable pub moved_last : Bool → Effect → Moved
moved_last t e = record { own = (moved_by t e).own; peer = (moved_by t e).peer; visits = more_by t e }

-- The outcome of a call that is done. Where it drops waits, it looks at the table wherever there are any.
unfoldable pub done_outcome : (waits : ℕ) → Bool → Answer → Effect → EndsOutcome
done_outcome waits t a e =
    let r : EndsOutcome = outcome_of waits t a (moved_by t e) (more_by t e) in
    record { one = r.one; two = r.two; answer = r.answer; fires = pick e.drops (not (eqb waits 0)) r.fires; visits = r.visits; more = r.more }

-- the outcome of a call by its answer: a refused call changes nothing
unfoldable pub moved_if : Ends → (h : ℕ) → Answer → Effect → EndsOutcome
moved_if ends h a e = pick (is_done a) (done_outcome ends.waits (is_one h) a e) (unchanged_ends ends a)
