use Prim.Native.Nat.{◌<◌}
use mathlib.Core.Path.{◌≡◌, ◌∙◌}
use native.Mathlib.Omega.{arith}
use lib.Dec.{leb, ltb}
use lib.ListN.{length}
use borrow.Author.Tests.{le-leb, lt-leb}
use Rattle.definition.specs.Status.{pick, ◌and◌}
use Rattle.definition.specs.Port.{free}
use Rattle.port.specs.few.Few.{removed_at}
use Rattle.endpoint.proofs.answer.Rules.{and-on}
use Rattle.port.proofs.places.Tests.{first_fails}
use Rattle.port.proofs.places.Size.{table_128, same-places}
use Rattle.port.proofs.few.Lists.{written_step, written_all, chosen_element, taken_at, taken-size, taken-rest}
use Rattle.port.proofs.few.removed_at.Goals as goal
use Rattle.port.proofs.few.removed_at.Goals.{then-k-i, else-k-i}

pub loop-i-preserved : goal.loop-i-preserved
loop-i-preserved c =
    let t = c.args.t in
    let k = c.args.k in
    let last = c.args.last in
    let o = c.loop-i in
    let below : o.i < 8 = c.loop-i-test.true in
    let l : length t.table ≡ 128 = table_128 t _ c.well_formed.0 in
    let to = pick (ltb last 8) (removed_at k last free t.table) t.table in
    let size : length to ≡ length t.table = taken-size t.table free free k last c.requires.0 c.requires.1 (omega (arith, l)) in
    let within : c.if-k-i.place_if ≡ (leb k o.i and ltb o.i last) = elim c.if-k-i.branch [
      | then-k-i w ↦ and-on _ _ _ (le-leb _ _ w.if-k-i.true) w.place_if-is
      | else-k-i w ↦ first_fails _ _ _ (lt-leb _ _ w.if-k-i.false) w.place_if-is
    ] in
    let v = c.place_if.ensures
    ∙ chosen_element o.i k last free _ _ c.place_if-moved.result c.if-k-i.place_if c.place_if-moved.ensures
    within
    ∙ taken_at t.table free free k last c.requires.0 c.requires.1 (omega (arith, l)) o.i below in (
      rw (v, o.invariant.0) (written_step to t.table o.i free (omega (arith, below, size, l)) (omega (arith, below, l))),
      (o.invariant.1.0, omega (arith, below)),
    )

pub returns : goal.returns
returns c =
    let t = c.args.t in
    let k = c.args.k in
    let last = c.args.last in
    let o = c.loop-i in
    let l : length t.table ≡ 128 = table_128 t _ c.well_formed.0 in
    let to = pick (ltb last 8) (removed_at k last free t.table) t.table in
    let all : o.i ≡ 8 = omega (arith, o.invariant.1.1, c.loop-i-test.false) in
    same-places o.invariant.1.0.0 o.invariant.1.0.1
    (o.invariant.0 ∙ rw all (written_all to t.table 8 (taken-rest t.table free free k last c.requires.0 c.requires.1 (omega (arith, l)))))
