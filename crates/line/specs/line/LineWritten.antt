-- What the functions say that put a line by a writer: the line, as `LineDone` has it, into the writer's slice, which is the same.
use Rattle.std.specs.Prelude.{ℕ, ◌≡◌, List}
use Rattle.definition.specs.Status.{Answer}
use Rattle.definition.specs.Signal.{SignalWord}
use Rattle.text.specs.declared.Writer.{Writer}
use Rattle.line.specs.line.LineDone.{LineDone}

pub record LineWritten (number : ℕ) (a : Answer) (one two : SignalWord) (bs : List ℕ) (w w' : Writer) : Type 0 where
  pub done : LineDone number a one two bs w.at w'.at w.out.now w'.out.now
  pub same_slice : w'.out.ghost_name ≡ w.out.ghost_name
