-- A run of the code shows the computed lines. Assumes nothing.
use mathlib.Core.Path.{ap₂}
use Rattle.definition_runs.proofs.runs.Whole.{runs_match}
use Rattle.definition.specs.cases.Lines.{lines_of, shown_lines}
use Rattle.definition_runs.specs.Run.{LinesMatch}

pub lines_match : LinesMatch
unfolding lines_of
lines_match c one two is x os s r =
    let m = runs_match c one two is x os s r in
    ap₂ shown_lines m.create m.calls
