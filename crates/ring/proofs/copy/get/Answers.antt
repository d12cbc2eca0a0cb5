use native.Mathlib.Omega.{arith}
use Rattle.ring.proofs.copy.Parts.{get_parts}
use Rattle.ring.proofs.copy.get.Goals as goal

pub returns : goal.returns
returns c =
    let a = c.args in
    get_parts a.start _ a.ring.now a.dst.now _ _ (omega arith) (omega arith) c.min-first.ensures c.copy.ensures c.copy-2.ensures
