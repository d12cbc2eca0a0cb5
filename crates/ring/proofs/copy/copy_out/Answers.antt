use native.Mathlib.Omega.{arith}
use lib.ListN.{length}
use Rattle.endpoint.proofs.answer.Rules.{via}
use Rattle.ring.proofs.copy.Laws.{fits_facts, copied_out_lem}
use Rattle.ring.proofs.copy.Parts.{get_within}
use Rattle.ring.proofs.copy.copy_out.Goals as goal

pub returns-then-n-dst : goal.returns-then-n-dst
returns-then-n-dst c =
    let a = c.args in
    let f = fits_facts a.capacity a.start a.n (length a.ring.now) (via c.fits.ensures c.if-fits.true) in
    rw (copied_out_lem a.capacity a.start a.n a.ring.now a.dst.now f.0 f.1 f.2 (omega arith))
    (get_within a.capacity a.start a.n a.ring.now f.0 f.1 f.2 a.dst.now _ (omega arith) c.get.ensures)
