-- The definitions that the proofs of this crate open: the lookup, the ranges and the answer of each call. Assumes nothing.
use Rattle.std.specs.Prelude.{⊤}
use Rattle.definition.specs.Status.{pick}
use Rattle.definition.specs.Tests.{lent_of}
use Rattle.definition.specs.Memory.{fits, count_fits, is_null, lookup}
use Rattle.definition.specs.Read.{user_read_answer}
use Rattle.definition.specs.Write.{write_ranges, user_write_answer}
use Rattle.definition.specs.Shutdown.{user_shutdown_answer}
use Rattle.definition.specs.Disposition.{disposition_of, numbered_disposition, user_dispose_answer}

unfoldable pub user_answers_opened : ⊤
unfolding pick lent_of fits count_fits is_null lookup user_read_answer write_ranges user_write_answer user_shutdown_answer disposition_of numbered_disposition user_dispose_answer
user_answers_opened = tt
