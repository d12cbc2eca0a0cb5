use Prim.Native.Nat.{◌-◌}
use lib.ListN.{length, take, drop, length-drop}
use lib.Seq.{length-take-le}
use mathlib.Core.Path.{◌≡◌, sym, ◌∙◌}
use native.Mathlib.Omega.{arith}
use Rattle.script_call.proofs.fill.Fills.{fill-body, fill-made, fill_none}
use Rattle.script_call.proofs.fill.fill.Goals as goal

pub returns-then-not-takes : goal.returns-then-not-takes
returns-then-not-takes c = fill_none (sym c.takes.ensures ∙ c.if-not-takes.true)

pub slice_bounds-put-count : goal.slice_bounds-put-count
slice_bounds-put-count c = omega (arith, fill-body (length c.args.body.now) (sym c.takes.ensures ∙ c.if-not-takes.false))

pub slice_bounds-put-start : goal.slice_bounds-put-start
slice_bounds-put-start c = omega (arith, fill-body (length c.args.body.now) (sym c.takes.ensures ∙ c.if-not-takes.false))

pub put-requires : goal.put-requires
put-requires c =
    let b = c.args.body.now in
    let n : length (take (length b - 8) (drop 8 b)) ≡ length b - 8 = length-take-le (length b - 8) (drop 8 b) (omega (arith, length-drop 8 b)) in
    let w = fill-body (length b) (sym c.takes.ensures ∙ c.if-not-takes.false) in
    (omega (arith, n, w), omega (arith, n, w))

pub returns : goal.returns
returns c =
    fill-made (sym c.takes.ensures ∙ c.if-not-takes.false)
    c.u64_at-address.ensures c.put.ensures
