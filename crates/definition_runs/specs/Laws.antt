-- Laws of all calls: a refused call changes nothing, memory at exit, and no call of a run meets a record that no run leaves. And of cancel: how many
-- places it frees. 01 "Status and answer word", "Calls over user memory"; 02 (i).
use Rattle.std.specs.Prelude.{◌≡◌, [], List, Bool, true, false, length, ℕ, ◌+◌, ◌≤◌}
use Rattle.definition.specs.declared.Status.{Status}
use Rattle.std.specs.declared.result.Result.TheVariants.{Ok, Err}
use Rattle.definition.specs.declared.Status.TheVariants.{Internal}
use Rattle.definition.specs.Calls.{Input, State, Outcome, memory_after, own_slices, Create, Slices, Seen}
use Rattle.definition_runs.specs.Run.{Does, Run}
use Rattle.definition.specs.Tests.{short_slices, first_length, bad_first, sound_ends}
use Rattle.definition.specs.Pair.{own, ends_of}
use Rattle.definition.specs.Status.{is_done}
use Rattle.definition.specs.declared.Pair.{Pair}
use Rattle.definition.specs.declared.Step.{Step}
use Rattle.definition.specs.declared.Record.TheVariants.{Count}
use Rattle.definition.specs.Port.{used, Cancels}

pub record Unchanged (s : State) (i : Input) (s' : State) (o : Outcome) : Type 0 where
  -- pair, rings and tables
  pub state : s' ≡ s
  pub memory : o.memory ≡ i.memory
  pub delivers : o.delivered ≡ []

-- of any state, damaged ones and short slices too, and any call of the code
abbrev pub RefusedChangesNothing : Type 0
RefusedChangesNothing =
    (s : State) (i : Input) (s' : State) (o : Outcome) → Does s i s' o → (e : Status) → o.seen.answer ≡ Err e → Unchanged s i s' o

-- of any state and any call of the code: memory at exit is told by memory at entry, the call, its answer and the bytes delivered. 01 "Calls over
-- user memory", "Two runs".
abbrev pub MemoryAtExit : Type 0
MemoryAtExit =
    (s : State) (i : Input) (s' : State) (o : Outcome) → Does s i s' o
    → o.memory ≡ memory_after i.base i.memory i.call o.seen.answer o.delivered

-- a state on which the tests of the record, of the slices and of the first lengths are passed, and no call is INTERNAL
pub record Sound (s : State) : Type 0 where
  pub sound : sound_ends (ends_of s.pair) ≡ true
  pub long : (t : Bool) → short_slices s.pair.datagram s.pair.capacity (length (own_slices t s).ring) (length (own_slices t s).table) ≡ false
  pub first : (t : Bool) → bad_first s.pair.datagram (own t (ends_of s.pair)).queue (first_length s.pair.datagram (own t (ends_of s.pair)).queue (own_slices t s).table) ≡ false
  pub answers : (i : Input) (s' : State) (o : Outcome) → Does s i s' o → o.seen.answer ≡ Err Internal → ⊥

-- From a done create on, every state of every run is so: a state of a run is the last one of the run of the calls before it.
abbrev pub RunsAreSound : Type 0
RunsAreSound =
    (c : Create) (one two : Slices) (is : List Input) (x : Seen) (os : List Outcome) (s : State)
    → Run c one two is x os s → is_done x.answer ≡ true
    → Sound s

-- 02 (i): a done cancel frees as many places as it answers, of any pair whose table has a place for each that it counts as used
abbrev pub CancelFrees : Type 0
CancelFrees =
    (p : Pair) (h key n : ℕ) (r : Step) → used p.places ≤ length p.places.table → Cancels p h key r → r.answer ≡ Ok (Count n)
    → used r.pair.places + n ≡ used p.places
