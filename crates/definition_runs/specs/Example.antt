-- One run with two memories, computed through the claim on two runs: other bytes are delivered, from the same sources, and all else is the same.
-- 01 "Two runs".
use Rattle.std.specs.Prelude.{ℕ, false, true, List, [], ◌∷◌, ◌++◌, map, ◌≡◌, replicate, get_or, eqb}
use Rattle.definition.specs.Calls.{write, read, plain_write, plain_read, close, control, wait, cancel, Input, input, Slices, Outcome, outcomes, state_created, State, after_all, Seen, seen_of, created_by, pair_created}
use Rattle.std.specs.declared.result.Result.TheVariants.{Ok}
use Rattle.definition.specs.declared.Record.TheVariants.{Count}
use Rattle.definition.specs.Status.{ok}
use Rattle.definition.specs.cases.Lines.{lines_of}
use Rattle.definition.specs.cases.Scripts.{create, datagram_kind, stream_kind}
use Rattle.definition_runs.specs.TwoRuns.{Origin, origins, flat, added, shrunk, removed, lines_after, source_of, sources_from, sources, answers, calls, deliveries, Alike}
use Rattle.definition_runs.specs.Run.{Run}

-- A row of 3 bytes and one of 2 are written. The first is peeked at, and read into 2 bytes, so that its tail is dropped. The second is read
-- with its count put over it. Then a plain row goes the other way, and an end closes with a row queued.
abbrev pub datagram_calls : (memory row : List ℕ) → List Input
datagram_calls memory row =
    input (write 1 0 4096 3 0) 4096 memory
    ∷ input (write 1 0 4099 2 4104) 4096 memory
    ∷ input (read 2 8 4096 4 0) 4096 memory
    ∷ input (read 2 0 4100 2 0) 4096 memory
    ∷ input (read 2 0 4096 8 4096) 4096 memory
    ∷ input (plain_write 2) 0 row
    ∷ input (plain_read 1 false) 0 row
    ∷ input (plain_write 1) 0 row
    ∷ input (close 2) 0 []
    ∷ []

-- On a stream end 2 has two waits of one key. 6 bytes are written, which fires one of them; a cancel removes its packet and the other. 4 bytes are
-- read. The write of 8 then takes 6, which run past the ring's end of 8 and continue at its start. A peek and a plain read into 5 and 3 bytes go over
-- both writes; a read of 0 consumes nothing. The rest is read, over the ring's end, with the count put over it. Then a plain row goes the other way and
-- is peeked at, its writer closes, and it is read.
abbrev pub stream_calls : (memory row : List ℕ) → List Input
stream_calls memory row =
    input (control (wait 2 5 1 0)) 0 []
    ∷ input (control (wait 2 5 4 0)) 0 []
    ∷ input (write 1 0 4096 6 0) 4096 memory
    ∷ input (control (cancel 2 5)) 0 []
    ∷ input (read 2 0 4104 4 0) 4096 memory
    ∷ input (write 1 0 4100 8 4104) 4096 memory
    ∷ input (read 2 8 4100 5 0) 4096 memory
    ∷ input (plain_read 2 false) 0 (0 ∷ row)
    ∷ input (read 2 0 4096 0 4096) 4096 memory
    ∷ input (read 2 0 4096 8 4098) 4096 memory
    ∷ input (plain_write 2) 0 row
    ∷ input (plain_read 1 true) 0 row
    ∷ input (close 2) 0 []
    ∷ input (plain_read 1 false) 0 row
    ∷ []

-- a salary and a filler
abbrev pub salary : List Input
salary = datagram_calls (49 ∷ 50 ∷ 51 ∷ 52 ∷ 53 ∷ replicate 11 0) (55 ∷ 56 ∷ [])

abbrev pub filler : List Input
filler = datagram_calls (replicate 16 42) (42 ∷ 42 ∷ [])

abbrev pub stream_salary : List Input
stream_salary = stream_calls (49 ∷ 50 ∷ 51 ∷ 52 ∷ 53 ∷ 54 ∷ 55 ∷ 56 ∷ 57 ∷ 58 ∷ replicate 6 0) (65 ∷ 66 ∷ [])

abbrev pub stream_filler : List Input
stream_filler = stream_calls (replicate 16 42) (42 ∷ 42 ∷ [])

-- rings and tables that hold other things before create
abbrev pub empty_slices : Slices
empty_slices = record { ring = replicate 8 0; table = replicate 8 0 }

abbrev pub used_slices : Slices
used_slices = record { ring = replicate 8 7; table = replicate 8 9 }

unfoldable pub outcomes_of : (kind : ℕ) → Slices → List Input → List Outcome
unfolding lines_of
outcomes_of kind l is = outcomes (state_created (create kind 7) l l) is

unfoldable pub last_of : (kind : ℕ) → Slices → List Input → State
unfolding lines_of
last_of kind l is = after_all (state_created (create kind 7) l l) is

unfoldable pub create_of : (kind : ℕ) → Slices → Seen
unfolding lines_of
create_of kind l = seen_of (created_by (create kind 7) l l) (pair_created (create kind 7) (created_by (create kind 7) l l))

unfoldable pub sources_of : (kind : ℕ) → List Input → List Outcome → List (List Origin)
unfolding lines_of origins flat added shrunk removed lines_after source_of sources_from sources
sources_of kind is os = sources (eqb kind 1) (calls is) (answers os)

-- the ring of end 2 after each call
abbrev pub rings_of : List Outcome → List (List ℕ)
rings_of os = map (λ (o : Outcome). o.two.ring) os

abbrev pub from : (call offset : ℕ) → Origin
from call offset = record { call = call; offset = offset }

-- The runs of is and js: both are runs of the code, and alike. The first delivers ds, the second ds', both from the sources os.
pub record Differ (kind : ℕ) (is js : List Input) (ds ds' : List (List ℕ)) (os : List (List Origin)) : Type 0 where
  pub run1 : Run (create kind 7) empty_slices empty_slices is (create_of kind empty_slices) (outcomes_of kind empty_slices is) (last_of kind empty_slices is)
  pub run2 : Run (create kind 7) used_slices used_slices js (create_of kind used_slices) (outcomes_of kind used_slices js) (last_of kind used_slices js)
  pub alike : Alike (eqb kind 1) is js (create_of kind empty_slices) (create_of kind used_slices) (outcomes_of kind empty_slices is) (outcomes_of kind used_slices js)
  pub first : deliveries (outcomes_of kind empty_slices is) ≡ ds
  pub second : deliveries (outcomes_of kind used_slices js) ≡ ds'
  pub sources : sources_of kind is (outcomes_of kind empty_slices is) ≡ os

abbrev pub OnDatagrams : Type 0
OnDatagrams =
    Differ datagram_kind salary filler
    ([] ∷ [] ∷ (49 ∷ 50 ∷ 51 ∷ []) ∷ (49 ∷ 50 ∷ []) ∷ (52 ∷ 53 ∷ []) ∷ [] ∷ (55 ∷ 56 ∷ []) ∷ [] ∷ [] ∷ [])
    ([] ∷ [] ∷ (42 ∷ 42 ∷ 42 ∷ []) ∷ (42 ∷ 42 ∷ []) ∷ (42 ∷ 42 ∷ []) ∷ [] ∷ (42 ∷ 42 ∷ []) ∷ [] ∷ [] ∷ [])
    ([]
    ∷ []
    ∷ (from 0 0 ∷ from 0 1 ∷ from 0 2 ∷ [])
    ∷ (from 0 0 ∷ from 0 1 ∷ [])
    ∷ (from 1 0 ∷ from 1 1 ∷ [])
    ∷ []
    ∷ (from 5 0 ∷ from 5 1 ∷ [])
    ∷ []
    ∷ []
    ∷ [])

abbrev pub OnStreams : Type 0
OnStreams =
    Differ stream_kind stream_salary stream_filler
    ([]
    ∷ []
    ∷ []
    ∷ []
    ∷ (49 ∷ 50 ∷ 51 ∷ 52 ∷ [])
    ∷ []
    ∷ (53 ∷ 54 ∷ 53 ∷ 54 ∷ 55 ∷ [])
    ∷ (53 ∷ 54 ∷ 53 ∷ [])
    ∷ []
    ∷ (54 ∷ 55 ∷ 56 ∷ 57 ∷ 58 ∷ [])
    ∷ []
    ∷ (65 ∷ 66 ∷ [])
    ∷ []
    ∷ (65 ∷ 66 ∷ [])
    ∷ [])
    ([]
    ∷ []
    ∷ []
    ∷ []
    ∷ replicate 4 42
    ∷ []
    ∷ replicate 5 42
    ∷ replicate 3 42
    ∷ []
    ∷ replicate 5 42
    ∷ []
    ∷ replicate 2 42
    ∷ []
    ∷ replicate 2 42
    ∷ [])
    ([]
    ∷ []
    ∷ []
    ∷ []
    ∷ (from 2 0 ∷ from 2 1 ∷ from 2 2 ∷ from 2 3 ∷ [])
    ∷ []
    ∷ (from 2 4 ∷ from 2 5 ∷ from 5 0 ∷ from 5 1 ∷ from 5 2 ∷ [])
    ∷ (from 2 4 ∷ from 2 5 ∷ from 5 0 ∷ [])
    ∷ []
    ∷ (from 5 1 ∷ from 5 2 ∷ from 5 3 ∷ from 5 4 ∷ from 5 5 ∷ [])
    ∷ []
    ∷ (from 10 0 ∷ from 10 1 ∷ [])
    ∷ []
    ∷ (from 10 0 ∷ from 10 1 ∷ [])
    ∷ [])

-- the ring of the stream's end 2: from the sixth call on it holds 6 bytes of the second write, from place 6 on and then from its start
abbrev pub wrapped : List ℕ
wrapped = 55 ∷ 56 ∷ 57 ∷ 58 ∷ 53 ∷ 54 ∷ 53 ∷ 54 ∷ []

pub record Examples : Type 0 where
  pub datagrams : OnDatagrams
  pub streams : OnStreams
  pub rings :
      rings_of (outcomes_of stream_kind empty_slices stream_salary)
      ≡ replicate 2 (replicate 8 0) ++ (replicate 3 (49 ∷ 50 ∷ 51 ∷ 52 ∷ 53 ∷ 54 ∷ 0 ∷ 0 ∷ []) ++ replicate 9 wrapped)
  -- 02 (i): the cancel answers 2 in both runs
  pub cancels : get_or (answers (outcomes_of stream_kind empty_slices stream_salary)) 3 ok ≡ Ok (Count 2)
  pub cancels' : get_or (answers (outcomes_of stream_kind used_slices stream_filler)) 3 ok ≡ Ok (Count 2)
