-- The listings of the scripts, by computation. Assumes nothing.
use mathlib.Core.Path.{refl}
use Rattle.definition.specs.Pair.{shown_by}
use Rattle.definition.specs.Memory.{count_put}
use Rattle.definition.specs.cases.Lines.{lines_of}
use Rattle.definition_script.specs.Record.{transfer_of, is_body, record_of, is_misplaced, is_last}
use Rattle.definition_script.specs.Call.{own_ring, own_table, peer_ring, peer_table, with_peer_rings, step_of, create_step, disposition_step, shutdown_step, read_threshold_step, write_threshold_step, info_by, info_step, close_step, wait_step, take_step, cancel_step, control_step, written_at, write_answer_of, write_leaves, write_call, read_answer_of, read_leaves, read_call, fill_answer, filled, fill_call, call_of, delivered_count, delivered, after_count}
use Rattle.definition_script.specs.Line.{digit_of, digits_of, width_by, width_of, decimal_of, hex_of, hex_bytes_of, signed_of, word_of, stop_of, number_text, hex_text, signal_text, own_text, rest_text, info_text, packet_text, bytes_text, record_text, added_text, front_text, signals_text, line_of}
use Rattle.definition_script.specs.Listing.{start_state, start_machine, stepped_state, stepped, called_line, step_line, stopped_state, move_by, move_of, closing, run_move, run_by, run, header, listing}
use Rattle.definition_script.specs.cases.Listings.{cases, Listings}

pub listings : Listings
unfolding lines_of shown_by count_put transfer_of is_body record_of is_misplaced is_last own_ring own_table peer_ring peer_table with_peer_rings step_of create_step disposition_step shutdown_step read_threshold_step write_threshold_step info_by info_step close_step wait_step take_step cancel_step control_step written_at write_answer_of write_leaves write_call read_answer_of read_leaves read_call fill_answer filled fill_call call_of delivered_count delivered after_count digit_of digits_of width_by width_of decimal_of hex_of hex_bytes_of signed_of word_of stop_of number_text hex_text signal_text own_text rest_text info_text packet_text bytes_text record_text added_text front_text signals_text line_of start_state start_machine stepped_state stepped called_line step_line stopped_state move_by move_of closing run_move run_by run header listing cases
listings = record { listings = refl }
