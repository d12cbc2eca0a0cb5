-- What a line of the listing shows of a call, and the lines of a run, computed. 01 "Script program", line. `lines_of` unfolds all that a call computes with.
use Rattle.std.specs.Prelude.{ℕ, List, [], ◌∷◌, map, ℤ}
use Rattle.std.proofs.Math.Option.{Option, none, some}
use Rattle.definition.specs.declared.Record.{Record}
use Rattle.definition.specs.Signal.{SignalWord}
use Rattle.definition.specs.declared.Record.TheVariants.{Empty, Count, Info, Limits, Packet}
use Rattle.definition.specs.Status.{Answer}
use Rattle.std.specs.declared.result.Result.TheVariants.{Ok, Err}
use Rattle.definition.specs.Calls.{Seen, Outcome, Create, Input, Slices, seen_of, created_by, state_created, control_answer, answer_to, controlled, pair_after, memory_after, written, state_after, landed, delivered_in, after, outcome, outcomes, pair_created, State, answer_of}
use Rattle.definition.specs.Status.{answer_word, status_number, record_count, count_of, is_done, refuse_if, refuse_unless, ◌then◌, pick, ◌and◌, ◌or◌}
use Rattle.definition.specs.Ring.{position, front, put}
use Rattle.definition.specs.Port.{filter, fires, fired_of, change_of, fired, kept, taken_of, inserted_of, appended_of, registered_of, dropped_of, of_other, others, packets_of, waits_of, unused_of, table_of, new_places, end_number, wait_of, observe, packet_of, wait_answer, waited, take_answer, took, matches, unmatched, matching, cancelled_of, cancel_answer, cancelled}
use Rattle.definition.specs.Signal.{changed_word, meets, reached, missed, bit_if}
use Rattle.definition.specs.Disposition.{enables, has_backlog, has_open_backlog, enables_over, dispose_checks, writing, peer_writing, reading, dispose_effect, disposed, disposition_of, plain_dispose_answer, user_dispose_answer}
use Rattle.definition.specs.Create.{new_end, no_end, numbers_answer, create_answer, new_pair, no_pair}
use Rattle.definition.specs.Pair.{with_queue, with_signals, with_read_disabled, with_thresholds, shown, no_queue, is_handle, with_end, with_places}
use Rattle.definition.specs.Close.{closed_end, close_answer, close_effect, closed}
use Rattle.definition.specs.Info.{unless_closed, info_of, info_answer}
use Rattle.definition.specs.Tests.{sound_lengths, sound_queue, short_table, short_slices, has_length, first_length, bad_first, sound_ends, is_open, sound_test, handle_test, opening_test, lent_of, slices_test, table_test}
use Rattle.definition.specs.Read.{lost_by_reader, gained_by_writer, empty_answer, available_in, read_size, read_answer, leaving, drained_queue, buffer_read, read_effect, consumed, pair_read, user_read_answer, bytes_landed}
use Rattle.definition.specs.Write.{gained_by_peer, lost_by_writer, datagram_size, write_size, write_answer, fed_queue, ring_fed, table_fed, ring_written, table_written, write_effect, wrote, pair_written, write_ranges, user_write_answer}
use Rattle.definition.specs.Threshold.{read_threshold_answer, write_threshold_answer, thresholds_answer, read_threshold_effect, write_threshold_effect, read_threshold_set, write_threshold_set}
use Rattle.definition.specs.Shutdown.{shutdown_answer, shutting, shut_reading, shut_effect, shut, user_shutdown_answer}
use Rattle.definition.specs.Effect.{if_open, own_bit, keeping_waits, with_change, signal_change, changed, changed_by_all, prepared, applied}
use Rattle.definition.specs.Memory.{fits, count_fits, is_null, little_endian, count_landed, lookup}

-- the answer word, both signal words, the bytes delivered, and the record of a done call that has one beside its count
pub record ShownLine : Type 0 where
  pub word : ℤ
  pub end1 : SignalWord
  pub end2 : SignalWord
  pub bytes : List ℕ
  pub holds : Option Record

unfoldable pub record_shown : Answer → Option Record
record_shown (Ok Empty) = none
record_shown (Ok (Count n)) = none
record_shown (Ok (Info i)) = some (Info i)
record_shown (Ok (Limits t)) = some (Limits t)
record_shown (Ok (Packet k)) = some (Packet k)
record_shown (Err s) = none

abbrev pub line_shown : Seen → List ℕ → ShownLine
line_shown s bytes = record { word = answer_word s.answer; end1 = s.word1; end2 = s.word2; bytes = bytes; holds = record_shown s.answer }

-- the line of create, then those of the calls
abbrev pub shown_lines : Seen → List Outcome → List ShownLine
shown_lines x os = line_shown x [] ∷ map (λ (o : Outcome). line_shown o.seen o.delivered) os

-- the lines of a run, computed. To unfold it is to unfold all that a call computes with.
unfoldable pub lines_of : Create → (one two : Slices) → List Input → List ShownLine
unfolding record_shown status_number record_count answer_word count_of is_done refuse_if refuse_unless ◌then◌ pick ◌and◌ ◌or◌ position front put filter fired_of inserted_of appended_of registered_of taken_of dropped_of change_of changed_word meets packets_of waits_of unused_of table_of new_places end_number wait_of observe packet_of fires fired kept of_other others enables has_backlog has_open_backlog enables_over dispose_checks new_end no_end with_queue with_signals with_read_disabled with_thresholds closed_end shown unless_closed info_of no_queue sound_lengths sound_queue short_table short_slices has_length first_length bad_first empty_answer available_in read_size lost_by_reader gained_by_writer datagram_size write_size reached missed bit_if gained_by_peer lost_by_writer numbers_answer create_answer writing peer_writing reading dispose_effect disposed shutdown_answer shutting shut_reading shut_effect shut info_answer is_handle with_end with_places if_open own_bit keeping_waits with_change signal_change changed changed_by_all prepared applied new_pair no_pair read_answer leaving drained_queue read_effect consumed pair_read buffer_read sound_ends sound_test lent_of slices_test table_test is_open handle_test opening_test read_threshold_answer write_threshold_answer read_threshold_effect write_threshold_effect read_threshold_set write_threshold_set thresholds_answer wait_answer waited take_answer took matches unmatched matching cancelled_of cancel_answer cancelled close_answer close_effect closed write_answer fed_queue write_effect wrote pair_written ring_fed ring_written table_fed table_written disposition_of plain_dispose_answer user_dispose_answer user_shutdown_answer fits count_fits is_null lookup little_endian count_landed user_read_answer bytes_landed write_ranges user_write_answer control_answer answer_to controlled pair_after written state_after landed memory_after delivered_in after outcome outcomes pair_created
lines_of c one two is = shown_lines (seen_of (created_by c one two) (pair_created c (created_by c one two))) (outcomes (state_created c one two) is)

-- the answer word of one call, computed
unfoldable pub word_answered : State → Input → ℤ
unfolding lines_of
word_answered s i = answer_word (answer_of s i)
