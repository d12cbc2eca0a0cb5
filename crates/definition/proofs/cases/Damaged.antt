-- The tables of single calls: damaged records, slices lent, create's arguments. By computation. Assumes nothing.
use mathlib.Core.Path.{refl}
use Rattle.definition.specs.cases.States.{row_word}
use Rattle.definition.specs.cases.EveryCall.{every_call, internal}
use Rattle.definition.specs.cases.Damaged.{edges, unlisted, backlog_rows, by_cases, closed_rows, DamagedRecords}
use Rattle.definition.specs.cases.Lends.{short_rows, untested_rows, LentSlices}
use Rattle.definition.specs.cases.FirstLengths.{first_rows, untested_firsts, FirstLengths}
use Rattle.definition.specs.cases.Creates.{done_words, refused_words, CreateArguments}

pub damaged_records : DamagedRecords
unfolding edges unlisted every_call internal row_word backlog_rows by_cases closed_rows
damaged_records = record { fine = refl; damaged = refl; others = refl; backlogs = refl; cases = refl; closed_peers = refl }

pub lent_slices_lem : LentSlices
unfolding short_rows untested_rows row_word
lent_slices_lem = record { short = refl; untested = refl }

pub first-lengths : FirstLengths
unfolding first_rows untested_firsts row_word
first-lengths = record { rows = refl; untested = refl }

pub create_arguments : CreateArguments
unfolding done_words refused_words
create_arguments = record { done = refl; refused = refl }
