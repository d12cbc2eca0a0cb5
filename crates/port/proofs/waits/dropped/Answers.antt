use Rattle.definition.specs.Status.{pick}
use Rattle.definition.specs.Port.{filter, free, packets_of, waits_of, unused_of, table_of, of_other, others, dropped_of}
use Rattle.port.proofs.waits.Compact.{compact_start, compact_drop, compact_keep, compact_all, compact_count}
use lib.Seq.{slice, length-take-le}
use mathlib.Core.Path.{refl, sym, ap, ◌∙◌, ◌≡◌}
use mathlib.Core.Bool.{not}
use borrow.Author.Tests.{eq-eqb, ne_eqb}
use Rattle.port.proofs.places.Size.{table_128, same-places}
use native.Mathlib.Omega.{arith}
use Prim.Native.Nat.{◌+◌, ◌-◌, ◌≤◌}
use lib.ListN.{length, take}
use Rattle.port.proofs.waits.dropped.Goals as goal
use Rattle.port.proofs.waits.dropped.Goals.{then-p-end, else-p-end}

pub loop-i-init : goal.loop-i-init
loop-i-init c =
    let t = c.args.t in
    let l : length t.table ≡ 128 = table_128 t _ c.well_formed.0 in
    let h : t.packets + t.waits ≤ 128 = c.requires c.if-sound.true in
    (compact_start (of_other c.args.one) free t.table t.packets (t.packets + t.waits) (omega arith) (omega arith), (refl, h))

pub loop-i-preserved : goal.loop-i-preserved
unfolding of_other
loop-i-preserved c =
    let a = c.args in
    let t = a.t in
    let o = c.loop-i in
    let e = c.end_number-end.ensures in
    elim c.if-p-end.branch [
      | then-p-end w ↦ rw (w.out-is, w.n-is) (
        compact_keep (of_other a.one) free t.table t.packets (t.packets + t.waits) o.out.table o.n o.i free o.invariant.0 c.loop-i-test.true
            (ap not (ne_eqb _ _ (λ s. w.if-p-end.true (s ∙ sym e)))),
        o.invariant.1,
      )
      | else-p-end w ↦ rw (w.out-is, w.n-is) (
        compact_drop (of_other a.one) free t.table t.packets (t.packets + t.waits) o.out.table o.n o.i free o.invariant.0 c.loop-i-test.true
            (ap not (eq-eqb _ _ (w.if-p-end.false ∙ e))),
        o.invariant.1,
      )
    ]

pub returns-after-loop-i : goal.returns-after-loop-i
unfolding pick dropped_of others table_of packets_of waits_of unused_of
returns-after-loop-i c =
    let a = c.args in
    let t = a.t in
    let o = c.loop-i in
    let f = of_other a.one in
    let p = t.packets in
    let u = t.packets + t.waits in
    let l : length t.table ≡ 128 = table_128 t _ c.well_formed.0 in
    let done : u ≤ o.i = c.loop-i-test.false in
    let count : o.n ≡ p + length (filter f (slice p u t.table)) = compact_count f free t.table p u o.out.table o.n o.i o.invariant.0 done in
    let size : length (take p t.table) ≡ p = length-take-le p t.table (omega arith) in
    let gone : u - o.n ≡ t.waits - length (filter f (slice p u t.table)) = omega arith in
    rw c.if-sound.true (same-places (o.invariant.1.0 ∙ sym size) (omega arith) (rw (← gone) (compact_all f free t.table p u o.out.table o.n o.i o.invariant.0 done)))
