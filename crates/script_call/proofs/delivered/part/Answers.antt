use Rattle.script_call.proofs.delivered.Parts.{part_none, part_over, part_whole}
use Rattle.script_call.proofs.delivered.part.Goals as goal

pub returns-then-size-from : goal.returns-then-size-from
returns-then-size-from c = part_none c.args.from c.args.n c.args.memory.now c.if-size-from.true

pub returns-then-size-from-2 : goal.returns-then-size-from-2
returns-then-size-from-2 c = part_over c.args.from c.args.n c.args.memory.now c.if-size-from-2.true

pub returns : goal.returns
returns c = part_whole c.args.from c.args.n c.args.memory.now
