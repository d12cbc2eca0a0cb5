use native.Mathlib.Omega.{arith}
use Rattle.ring.proofs.copy.Parts.{put_parts}
use Rattle.ring.proofs.copy.put.Goals as goal

pub returns : goal.returns
returns c =
    let a = c.args in
    put_parts a.at _ a.src.now a.ring.now _ _ (omega arith) (omega arith) c.min-first.ensures c.copy.ensures c.copy-2.ensures
