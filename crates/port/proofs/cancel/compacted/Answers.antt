use Prim.Native.Nat.{◌+◌, ◌≤◌, ◌<◌}
use mathlib.Core.Path.{◌≡◌, refl, sym, ap, ◌∙◌}
use mathlib.Core.Bool.{not}
use native.Mathlib.Omega.{arith}
use lib.ListN.{length, take}
use Rattle.definition.specs.Status.{pick}
use Rattle.definition.specs.Port.{filter, free}
use Rattle.port.proofs.places.Size.{table_128}
use Rattle.port.proofs.waits.Compact.{Compacted, compact_start, compact_drop, compact_keep}
use Rattle.port.proofs.cancel.Kept.{keeps, kept-packets, cancelled_as}
use Rattle.port.proofs.cancel.compacted.Goals as goal
use Rattle.port.proofs.cancel.compacted.Goals.{then-not-is_match, else-not-is_match}

pub loop-i-init : goal.loop-i-init
loop-i-init c =
    let t = c.args.t in
    let l : length t.table ≡ 128 = table_128 t _ c.well_formed.0 in
    let h : t.packets + t.waits ≤ 128 = c.requires c.if-asked.true in (
      compact_start (keeps c.args.one c.args.key) free t.table 0 (t.packets + t.waits) (omega arith) (omega arith),
      ((λ (q : t.packets < 0). absurd (omega (arith, q)), omega arith), h),
    )

pub loop-i-preserved : goal.loop-i-preserved
loop-i-preserved c =
    let a = c.args in
    let t = a.t in
    let o = c.loop-i in
    let f = keeps a.one a.key in
    let u = t.packets + t.waits in
    let moved : Compacted f free t.table 0 u c.if-not-is_match.out.table c.if-not-is_match.n (o.i + 1) = elim c.if-not-is_match.branch [
      | then-not-is_match w ↦ rw (w.out-is, w.n-is)
          (compact_keep f free t.table 0 u o.out.table o.n o.i free o.invariant.0 c.loop-i-test.true
          (ap not (sym c.is_match.ensures ∙ w.if-not-is_match.true)))
      | else-not-is_match w ↦ rw (w.out-is, w.n-is)
          (compact_drop f free t.table 0 u o.out.table o.n o.i free o.invariant.0 c.loop-i-test.true
          (ap not (sym c.is_match.ensures ∙ w.if-not-is_match.false)))
    ] in
    let counted : (t.packets < o.i + 1 → c.pick-m.result ≡ length (filter f (take t.packets t.table))) =
    λ (q : t.packets < o.i + 1). c.pick-m.ensures
    ∙ kept-packets f t.table t.packets u o.out.table o.m o.n o.i o.invariant.0 o.invariant.1.0.0 (omega (arith, q))
    in
    (moved, ((counted, o.invariant.1.0.1), o.invariant.1.1))

pub overflow_sub-out : goal.overflow_sub-out
overflow_sub-out c =
    let a = c.args in
    let t = a.t in
    let o = c.loop-i in
    let u = t.packets + t.waits in
    let l : length t.table ≡ 128 = table_128 t _ c.well_formed.0 in
    let done : u ≤ o.i = c.loop-i-test.false in
    let whole : o.i ≡ u = omega (arith, done) in
    let k = c.pick-m-then-asked.ensures ∙ kept-packets (keeps a.one a.key) t.table t.packets u o.out.table o.m o.n u (rw whole at o.invariant.0) (rw whole at o.invariant.1.0.0) (omega arith) in
    (cancelled_as a.one a.key t o.out.table c.pick-m-then-asked.result o.n o.i (omega (arith, o.invariant.1.1, l)) o.invariant.0 done k).0

pub returns-after-loop-i : goal.returns-after-loop-i
unfolding pick
returns-after-loop-i c =
    let a = c.args in
    let t = a.t in
    let o = c.loop-i in
    let u = t.packets + t.waits in
    let l : length t.table ≡ 128 = table_128 t _ c.well_formed.0 in
    let done : u ≤ o.i = c.loop-i-test.false in
    let whole : o.i ≡ u = omega (arith, done) in
    let k = c.pick-m-then-asked.ensures ∙ kept-packets (keeps a.one a.key) t.table t.packets u o.out.table o.m o.n u (rw whole at o.invariant.0) (rw whole at o.invariant.1.0.0) (omega arith) in
    let w = cancelled_as a.one a.key t o.out.table c.pick-m-then-asked.result o.n o.i (omega (arith, o.invariant.1.1, l)) o.invariant.0 done k in
    rw (c.if-asked.true, w.1.0, w.1.1) refl
