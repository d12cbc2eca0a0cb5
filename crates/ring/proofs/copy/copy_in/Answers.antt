use native.Mathlib.Omega.{arith}
use lib.ListN.{length}
use Rattle.endpoint.proofs.answer.Rules.{via}
use Rattle.ring.proofs.copy.Laws.{fits_facts, copied_in_lem}
use Rattle.ring.proofs.copy.Parts.{put_within}
use Rattle.ring.proofs.copy.copy_in.Goals as goal

pub returns-then-n-src : goal.returns-then-n-src
returns-then-n-src c =
    let a = c.args in
    let f = fits_facts a.capacity a.at a.n (length a.ring.now) (via c.fits.ensures c.if-fits.true) in
    rw (copied_in_lem a.capacity a.at a.n a.src.now a.ring.now f.0 f.1 f.2 (omega arith))
    (put_within a.capacity a.at a.n a.ring.now f.0 f.1 f.2 a.src.now _ (omega arith) c.put.ensures)
