-- What the function says that puts a line. The line is defined in crates/definition_script/specs/Line.
use Rattle.std.specs.Prelude.{ℕ, ◌≤◌, ◌<◌, ◌≡◌, List, length}
use Rattle.definition.specs.Status.{Answer}
use Rattle.definition.specs.Signal.{SignalWord}
use Rattle.text.specs.Put.{Written}
use Rattle.definition_script.specs.Line.{line_of}

-- the most bytes of a line: 43 before the signal words, 17 of them, 8193 added by a read of 4096 bytes, and the newline
abbrev pub LINE : ℕ
LINE = 8254

-- what the function says that puts a line: with room for LINE bytes it puts the line, else nothing; with more than 4096 bytes delivered it puts nothing
pub record LineDone (number : ℕ) (a : Answer) (one two : SignalWord) (bs : List ℕ) (at r : ℕ) (out out' : List ℕ) : Type 0 where
  pub put : length bs ≤ 4096 → Written LINE at (line_of number a one two bs) r out out'
  pub none : 4096 < length bs → (r ≡ at) × (out' ≡ out)
