-- How the code goes: the waits of a call's changes, visited after all words have changed. 01 "Signal word and packets": a change of a word visits the
-- end's waits. That the visits can wait is proved in the crate socket.
use Rattle.std.specs.Prelude.{Bool, false, List, [], ◌∷◌}
use Rattle.definition.specs.declared.Places.{Places}
use Rattle.endpoint.specs.declared.ends.Pending.{Pending}
use Rattle.endpoint.specs.declared.ends.EndsOutcome.{EndsOutcome}
use Rattle.definition.specs.Status.{pick, ◌or◌}
use Rattle.definition.specs.Signal.{changed_word}
use Rattle.definition.specs.Port.{fires_of, change_of}
use Rattle.endpoint.specs.ends.Outcome.{keeps_word}

-- 01 "Signal word and packets": whether a change fires a wait: the word becomes another, and a wait of its end meets the new one
unfoldable pub due : Pending → Places → Bool
due a t = pick (keeps_word a) false (fires_of a.one (changed_word a.clear a.set a.word) t)

-- 01 "Signal word and packets": the table after the waits of a change are visited
unfoldable pub visited : Pending → Places → Places
visited a t = (change_of a.one a.word a.clear a.set t).places

-- all changes of a call, in their order
unfoldable pub changes_of : EndsOutcome → List Pending
changes_of r = r.visits.first ∷ r.visits.second ∷ r.more.first ∷ r.more.second ∷ []

-- whether one of all changes of a call fires a wait
unfoldable pub any_due : EndsOutcome → Places → Bool
any_due r t = due r.visits.first t or due r.visits.second t or due r.more.first t or due r.more.second t

-- the table after the waits of all changes of a call are visited
unfoldable pub visited_each : EndsOutcome → Places → Places
visited_each r t = visited r.more.second (visited r.more.first (visited r.visits.second (visited r.visits.first t)))
