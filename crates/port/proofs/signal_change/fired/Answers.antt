use Rattle.definition.specs.Status.{pick}
use Rattle.definition.specs.Port.{free, observe, packets_of, waits_of, unused_of, table_of, fires, fired, kept, fired_of}
use Rattle.port.proofs.signal_change.Partition.{partition-start, step_hit, step_miss, partition-all, partition-front, partition_back}
use Rattle.port.proofs.places.Size.{table_128}
use native.Mathlib.Omega.{arith}
use Prim.Native.Nat.{◌+◌, ◌≤◌}
use lib.ListN.{length}
use mathlib.Core.Path.{◌≡◌, refl, sym, ◌∙◌}
use Rattle.port.proofs.signal_change.fired.Goals as goal

pub loop-i-init : goal.loop-i-init
loop-i-init c =
    let a = c.args in
    let t = a.t in
    let l : length t.table ≡ 128 = table_128 t _ c.well_formed.0 in
    let h : t.packets + t.waits ≤ 128 = c.requires c.if-visit.true in
    (partition-start (fires a.one a.word) (observe a.word) t.table t.packets (t.packets + t.waits) (omega arith) (omega arith), h)

pub loop-i-preserved-then-is_fired : goal.loop-i-preserved-then-is_fired
loop-i-preserved-then-is_fired c =
    let a = c.args in
    let t = a.t in
    let o = c.loop-i in
    let m = c.is_fired in (
      step_hit (fires a.one a.word) (observe a.word) t.table t.packets (t.packets + t.waits) o.out.table o.front o.back o.i free c.observed_at.result o.invariant.0
          c.loop-i-test.true (sym m.ensures ∙ c.if-is_fired.true) c.observed_at.ensures,
      o.invariant.1,
    )

pub loop-i-preserved : goal.loop-i-preserved
loop-i-preserved c =
    let a = c.args in
    let t = a.t in
    let o = c.loop-i in
    let m = c.is_fired in (
      step_miss (fires a.one a.word) (observe a.word) t.table t.packets (t.packets + t.waits) o.out.table o.front o.back o.i free o.invariant.0
          c.loop-i-test.true (sym m.ensures ∙ c.if-is_fired.false),
      o.invariant.1,
    )

pub returns-after-loop-i : goal.returns-after-loop-i
unfolding pick fired_of table_of packets_of waits_of unused_of fired kept
returns-after-loop-i c =
    let a = c.args in
    let t = a.t in
    let o = c.loop-i in
    let f = fires a.one a.word in
    let g = observe a.word in
    let u = t.packets + t.waits in
    let done : o.i ≤ t.packets = c.loop-i-test.false in
    rw (
      c.if-visit.true,
      partition_back f g t.table t.packets u o.out.table o.front o.back o.i o.invariant.0 done,
      partition-front f g t.table t.packets u o.out.table o.front o.back o.i o.invariant.0 done,
      partition-all f g t.table t.packets u o.out.table o.front o.back o.i o.invariant.0 done,
    ) refl
