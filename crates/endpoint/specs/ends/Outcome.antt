-- How the code goes: what a call leaves of the two ends, the changes of their words, and whether a wait can fire.
use Rattle.std.specs.Prelude.{ℕ, true, Bool, false, not, eqb}
use Rattle.endpoint.specs.declared.ends.Pending.{Pending}
use Rattle.endpoint.specs.declared.ends.Visits.{Visits}
use Rattle.definition.specs.Status.{Answer}
use Rattle.endpoint.specs.declared.ends.Moved.{Moved}
use Rattle.endpoint.specs.declared.ends.EndsOutcome.{EndsOutcome}
use Rattle.definition.specs.declared.Endpoint.{Endpoint}
use Rattle.definition.specs.declared.Ends.{Ends}
use Rattle.definition.specs.Signal.{changed_word}
use Rattle.definition.specs.Status.{pick, ◌or◌}

-- no change of a word
abbrev pub no_visit : Pending
no_visit = record { one = true; word = 0; clear = 0; set = 0 }

abbrev pub no_visits : Visits
no_visits = record { first = no_visit; second = no_visit }

-- whether a change leaves the word as it is
unfoldable pub keeps_word : Pending → Bool
keeps_word a = eqb (changed_word a.clear a.set a.word) a.word

-- whether a visit can fire a wait: there are waits, and a word has changed
unfoldable pub can_fire : (waits : ℕ) → Visits → Bool
can_fire waits v = pick (eqb waits 0) false (pick (keeps_word v.first) (not (keeps_word v.second)) true)

-- whether one of all changes can
unfoldable pub any_can_fire : (waits : ℕ) → (visits more : Visits) → Bool
any_can_fire waits v more = can_fire waits v or can_fire waits more

-- the outcome of a call by end t: its own end and its peer, put back by the handle, and the changes, `more` last
unfoldable pub outcome_of : (waits : ℕ) → Bool → Answer → Moved → (more : Visits) → EndsOutcome
outcome_of waits t a d more =
    record {
      one = pick t d.own d.peer;
      two = pick t d.peer d.own;
      answer = a;
      fires = any_can_fire waits d.visits more;
      visits = d.visits;
      more = more;
    }

-- a call that changes nothing
unfoldable pub kept_ends : (own peer : Endpoint) → Moved
kept_ends a b = record { own = a; peer = b; visits = no_visits }

-- its outcome
unfoldable pub unchanged_ends : Ends → Answer → EndsOutcome
unchanged_ends e a =
    record { one = e.one; two = e.two; answer = a; fires = false; visits = no_visits; more = no_visits }
