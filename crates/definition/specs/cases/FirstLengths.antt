-- First lengths that no run leaves: single calls on a datagram pair with C = 8 and 3 queued bytes, whose first length is 0, 1, 3 or 4, by each
-- call that is lent a table, with either handle. 01 "Status and answer word".
use Rattle.std.specs.Prelude.{List, ◌++◌, [], ◌∷◌, map, false, ◌≡◌, replicate}
use Rattle.definition.specs.Calls.{write, read, State, get_info, Call, plain_write, plain_read, control}
use Rattle.definition.specs.cases.States.{on_stream, on_datagram, opened, closed_with, lent_slices, none, first, Row, queued, empty_queue, is, refused_with, row_word}
use Rattle.definition.specs.cases.LentCalls.{each, writes_to, writes, reads, infos, done_word, refused_word, lent, no_such_end, other_calls}

unfoldable pub first_rows : List Row
first_rows =
    writes opened on_datagram (lent_slices 8 (first 0)) (refused_word 1) ++ writes opened on_datagram (lent_slices 8 (first 1)) (done_word 3)
    ++ writes opened on_datagram (lent_slices 8 (first 3)) (done_word 3) ++ writes opened on_datagram (lent_slices 8 (first 4)) (refused_word 1)
    ++ reads opened on_datagram (lent_slices 8 (first 0)) (refused_word 1) ++ reads opened on_datagram (lent_slices 8 (first 1)) (done_word 1)
    ++ reads opened on_datagram (lent_slices 8 (first 3)) (done_word 3) ++ reads opened on_datagram (lent_slices 8 (first 4)) (refused_word 1)
    ++ infos opened on_datagram (first 0) (refused_word 1) ++ infos opened on_datagram (first 1) (done_word 0)
    ++ infos opened on_datagram (first 3) (done_word 0) ++ infos opened on_datagram (first 4) (refused_word 1)
    -- before the handle, a closed peer and the arguments
    ++ writes closed_with on_datagram (lent_slices 8 (first 0)) (refused_word 1) ++ writes closed_with on_datagram (lent_slices 8 (first 4)) (refused_word 1)
    ++ reads closed_with on_datagram (lent_slices 8 (first 0)) (refused_word 1) ++ reads closed_with on_datagram (lent_slices 8 (first 4)) (refused_word 1)
    ++ infos closed_with on_datagram (first 0) (refused_word 1) ++ infos closed_with on_datagram (first 4) (refused_word 1)
    ++ writes_to opened closed_with on_datagram (lent_slices 8 (first 0)) (refused_word 1) ++ writes_to opened closed_with on_datagram (lent_slices 8 (first 4)) (refused_word 1)
    ++ each opened opened on_datagram none (lent_slices 8 (first 4)) (refused_word 1) (λ h. write h 1 0 1 0)
    ++ each opened opened on_datagram (lent_slices 8 (first 4)) none (refused_word 1) (λ h. read h 5 0 1 0)
    -- after the slices
    ++ writes opened on_datagram (lent_slices 7 (first 0)) (refused_word 10) ++ reads opened on_datagram (lent_slices 7 (first 4)) (refused_word 10)
    -- not on stream pairs
    ++ writes opened on_stream (lent_slices 8 (first 0)) (done_word 3) ++ reads opened on_stream (lent_slices 8 (first 0)) (done_word 3) ++ infos opened on_stream (first 0) (done_word 0)

-- a first length of 0 at both ends; and two empty queues, with 0 where they start
abbrev zero_first : State
zero_first = lent on_datagram (queued on_datagram) (lent_slices 8 (first 0))

abbrev nothing : State
nothing = lent on_datagram empty_queue (lent_slices 8 (replicate 8 0))

unfoldable pub untested_firsts : List Row
untested_firsts =
    -- a handle other than 1 or 2, and calls that are lent no slice
    no_such_end zero_first ++ map (λ (c : Call). is zero_first c 0) (other_calls 1 ++ other_calls 2)
    -- where no length is queued, there is no first one
    ++ (is nothing (plain_write 1) 3 ∷ is nothing (write 2 0 4096 3 0) 3 ∷ refused_with nothing (plain_read 1 false) 22 ∷ refused_with nothing (read 2 0 4096 3 0) 22
    ∷ is nothing (control (get_info 1)) 0 ∷ [])

pub record FirstLengths : Type 0 where
  pub rows : map row_word first_rows ≡ map (λ (r : Row). r.word) first_rows
  pub untested : map row_word untested_firsts ≡ map (λ (r : Row). r.word) untested_firsts
