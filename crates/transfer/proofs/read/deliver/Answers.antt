use mathlib.Core.Path.{◌∙◌}
use Rattle.ring.proofs.copy.Laws.{copied_out_lem}
use Rattle.transfer.proofs.read.deliver.Goals as goal

pub returns : goal.returns
returns c =
    let a = c.args in
    let w = c.requires in
    c.copy_out.ensures ∙ copied_out_lem a.capacity a.start a.k a.ring.now a.buffer.now w.0 w.1 w.2 w.3
