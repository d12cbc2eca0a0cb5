-- Slices that are lent too short: single calls with C = 8, on stream and datagram pairs, with slices of C entries and of C − 1, by each call that
-- is lent a slice, with either handle. 01 "Status and answer word".
use Rattle.std.specs.Prelude.{ℕ, List, [], ◌∷◌, ◌++◌, map, false, ◌≡◌, replicate}
use Rattle.definition.specs.cases.States.{on_stream, on_datagram, opened, closed_with, lent_slices, first, Row, queue, queued, none, is, refused_with, row_word}
use Rattle.definition.specs.cases.LentCalls.{writes_to, writes, reads, infos, done_word, refused_word, lent, no_such_end, other_calls, other_refusals}
use Rattle.definition.specs.Calls.{get_info, Call, plain_write, plain_read, control}

-- a table of 7 entries
abbrev seven : List ℕ
seven = replicate 7 3

unfoldable pub short_rows : List Row
short_rows =
    -- write: the peer's ring, on datagram pairs its table
    writes opened on_stream (lent_slices 8 []) (done_word 3) ++ writes opened on_stream (lent_slices 7 []) (refused_word 10)
    ++ writes opened on_datagram (lent_slices 8 (first 3)) (done_word 3) ++ writes opened on_datagram (lent_slices 7 (first 3)) (refused_word 10)
    ++ writes opened on_datagram (lent_slices 8 seven) (refused_word 10)
    -- read: its own
    ++ reads opened on_stream (lent_slices 8 []) (done_word 3) ++ reads opened on_stream (lent_slices 7 []) (refused_word 10)
    ++ reads opened on_datagram (lent_slices 8 (first 3)) (done_word 3) ++ reads opened on_datagram (lent_slices 7 (first 3)) (refused_word 10)
    ++ reads opened on_datagram (lent_slices 8 seven) (refused_word 10)
    -- info: its own table on datagram pairs
    ++ infos opened on_stream [] (done_word 0) ++ infos opened on_datagram (first 3) (done_word 0) ++ infos opened on_datagram seven (refused_word 10)
    -- longer slices are as good
    ++ writes opened on_datagram (lent_slices 9 (first 3 ++ (0 ∷ []))) (done_word 3) ++ reads opened on_datagram (lent_slices 9 (first 3 ++ (0 ∷ []))) (done_word 3)
    -- a closed handle: the slices first
    ++ writes closed_with on_stream (lent_slices 8 []) (refused_word 11) ++ writes closed_with on_stream (lent_slices 7 []) (refused_word 10)
    ++ writes closed_with on_datagram (lent_slices 8 (first 3)) (refused_word 11) ++ writes closed_with on_datagram (lent_slices 8 seven) (refused_word 10)
    ++ reads closed_with on_stream (lent_slices 8 []) (refused_word 11) ++ reads closed_with on_stream (lent_slices 7 []) (refused_word 10)
    ++ reads closed_with on_datagram (lent_slices 8 (first 3)) (refused_word 11) ++ reads closed_with on_datagram (lent_slices 8 seven) (refused_word 10)
    ++ infos closed_with on_datagram (first 3) (refused_word 11) ++ infos closed_with on_datagram seven (refused_word 10)
    -- a closed peer's slices
    ++ writes_to opened closed_with on_stream (lent_slices 8 []) (refused_word 24) ++ writes_to opened closed_with on_stream (lent_slices 7 []) (refused_word 10)
    ++ writes_to opened closed_with on_datagram (lent_slices 8 (first 3)) (refused_word 24) ++ writes_to opened closed_with on_datagram (lent_slices 8 seven) (refused_word 10)

unfoldable pub untested_rows : List Row
untested_rows =
    no_such_end (lent on_stream (queued on_stream) none) ++ no_such_end (lent on_datagram (queued on_datagram) none)
    ++ map (λ (c : Call). is (lent on_stream (queued on_stream) none) c 0) (other_calls 1 ++ other_calls 2)
    ++ map (λ (c : Call). is (lent on_datagram (queued on_datagram) none) c 0) (other_calls 1 ++ other_calls 2)
    ++ other_refusals (lent on_stream (queued on_stream) none) ++ other_refusals (lent on_datagram (queued on_datagram) none)
    -- the record comes before the slices
    ++ (refused_with (lent on_stream (queue 8 3 0 0) none) (plain_write 1) 1 ∷ refused_with (lent on_datagram (queue 8 3 7 1) none) (plain_read 2 false) 1
    ∷ refused_with (lent on_datagram (queue 8 3 7 1) none) (control (get_info 1)) 1 ∷ [])

pub record LentSlices : Type 0 where
  pub short : map row_word short_rows ≡ map (λ (r : Row). r.word) short_rows
  pub untested : map row_word untested_rows ≡ map (λ (r : Row). r.word) untested_rows
