-- The definitions that the proofs of this crate open: the tests, the sizes and the answer of each call. Assumes nothing.
use Rattle.std.specs.Prelude.{⊤}
use Rattle.answers.specs.create.Held.{held_rights}
use Rattle.definition.specs.Status.{pick}
use Rattle.definition.specs.Pair.{is_handle}
use Rattle.definition.specs.Tests.{lent_of, slices_test, table_test, sound_ends, is_open, sound_test, handle_test, opening_test}
use Rattle.definition.specs.Create.{numbers_answer, create_answer}
use Rattle.definition.specs.Read.{available_in, empty_answer, read_size, read_answer}
use Rattle.definition.specs.Write.{datagram_size, write_size, write_answer}
use Rattle.definition.specs.Info.{info_of, unless_closed, info_answer}
use Rattle.definition.specs.Threshold.{read_threshold_answer, write_threshold_answer, thresholds_answer}
use Rattle.definition.specs.Disposition.{dispose_answer}
use Rattle.definition.specs.Port.{wait_answer}

unfoldable pub answers_opened : ⊤
unfolding held_rights pick is_handle lent_of slices_test table_test sound_ends is_open sound_test handle_test opening_test numbers_answer create_answer available_in empty_answer read_size read_answer datagram_size write_size write_answer info_of unless_closed info_answer read_threshold_answer write_threshold_answer thresholds_answer dispose_answer wait_answer
answers_opened = tt
