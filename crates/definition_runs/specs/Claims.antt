-- All that is claimed of calls and of runs of them, as one record. 01 "Two runs", "Status and answer word", "At the edges"; 02.
use Rattle.definition_runs.specs.Run.{CallsMatch, RunsMatch, RunsExist, LinesMatch}
use Rattle.definition_runs.specs.TwoRuns.{TwoRuns}
use Rattle.definition_runs.specs.Laws.{RefusedChangesNothing, MemoryAtExit, RunsAreSound, CancelFrees}
use Rattle.definition.specs.cases.Edges.{AtTheEdges}
use Rattle.definition.specs.cases.Orders.{Orders}
use Rattle.definition.specs.cases.Packets.{Packets}
use Rattle.definition_runs.specs.Copies.{RingCopies, EveryEntry, CallCopies, CopyExamples}
use Rattle.definition.specs.cases.Cancels.{CancelCases}
use Rattle.definition.specs.cases.Copies.{CopyCases}
use Rattle.definition_runs.specs.Example.{Examples}
use Rattle.definition.specs.cases.Damaged.{DamagedRecords}
use Rattle.definition.specs.cases.Lends.{LentSlices}
use Rattle.definition.specs.cases.FirstLengths.{FirstLengths}
use Rattle.definition.specs.cases.Creates.{CreateArguments}

pub record Claims : Type 0 where
  -- 01 "Two runs": any list of calls, run twice
  pub two_runs : TwoRuns
  -- every list of calls has a run, so that the claims about runs are not empty; and two examples
  pub runs_exist : RunsExist
  pub examples : Examples
  -- 01 "Status and answer word": a refused call changes nothing, and no run leaves a record on which a call is INTERNAL
  pub refused : RefusedChangesNothing
  pub sound : RunsAreSound
  -- 01 "Calls over user memory": memory at exit
  pub memory : MemoryAtExit
  -- a run of the code is the computed one
  pub calls : CallsMatch
  pub runs : RunsMatch
  pub lines : LinesMatch
  -- 01 "At the edges": P1 to P14
  pub edges : AtTheEdges
  -- beside them: orders of tests and of packets, rights, thresholds, info, memory at exit
  pub orders : Orders
  pub packets : Packets
  -- 02 (i): cancel frees as many places as it answers; and its cases
  pub frees : CancelFrees
  pub cancels : CancelCases
  -- 02 (ii): the copies between a ring and memory, and those of the calls, are the copies with the remainder at every byte; examples, and cases
  pub ring_copies : RingCopies
  pub every_entry : EveryEntry
  pub call_copies : CallCopies
  pub copy_examples : CopyExamples
  pub copies : CopyCases
  -- 01 "Status and answer word": damaged records, short slices and first lengths, create's arguments
  pub damaged : DamagedRecords
  pub lent : LentSlices
  pub firsts : FirstLengths
  pub create : CreateArguments
