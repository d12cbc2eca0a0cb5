use Prim.Native.Nat.{◌≤◌}
use mathlib.Core.Path.{◌≡◌, sym, ap, ◌∙◌}
use native.Mathlib.Omega.{arith}
use lib.ListN.{length}
use Rattle.definition.specs.Port.{any, free, fires, any_fires}
use Rattle.port.proofs.firing.Any.{few_hit, few_miss, few_past, few_not}
use Rattle.port.proofs.places.Size.{table_128}
use Rattle.port.proofs.places.Views.{first_waits}
use Rattle.port.proofs.firing.few_fire.Goals as goal
use Rattle.port.proofs.firing.few_fire.Goals.{else-i-t-via-then-i-t+else-is_fired, else-i-t-via-else-i-t}

pub returns-then-is_fired : goal.returns-then-is_fired
unfolding any_fires
returns-then-is_fired c =
    let t = c.args.t in
    let f = fires c.args.one c.args.word in
    let l : length t.table ≡ 128 = table_128 t _ c.well_formed.0 in
    let few : t.waits ≤ 8 = c.requires.1 in
    few_hit f t.table t.waits c.loop-i.i free (omega arith) c.if-i-t.true (sym c.is_fired.ensures ∙ c.if-is_fired.true)
    ∙ ap (any f) (first_waits t c.requires.0)

pub loop-i-preserved : goal.loop-i-preserved
loop-i-preserved c =
    let t = c.args.t in
    let o = c.loop-i in
    let f = fires c.args.one c.args.word in
    let l : length t.table ≡ 128 = table_128 t _ c.well_formed.0 in
    let few : t.waits ≤ 8 = c.requires.1 in
    elim c.else-i-t.branch [
      | else-i-t-via-then-i-t+else-is_fired w ↦
          few_miss f t.table t.waits o.i free (omega arith) w.if-i-t.true o.invariant (sym w.is_fired.ensures ∙ w.if-is_fired.false)
      | else-i-t-via-else-i-t w ↦ few_past f t.table t.waits o.i w.if-i-t.false o.invariant
    ]

pub returns : goal.returns
unfolding any_fires
returns c =
    let t = c.args.t in
    let o = c.loop-i in
    let f = fires c.args.one c.args.word in
    let few : t.waits ≤ 8 = c.requires.1 in
    few_not f t.table t.waits o.i (omega (arith, few, c.loop-i-test.false)) o.invariant
    ∙ ap (any f) (first_waits t c.requires.0)
