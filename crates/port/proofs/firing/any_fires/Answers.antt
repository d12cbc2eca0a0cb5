use mathlib.Core.Path.{◌≡◌, ap, ◌∙◌}
use mathlib.Core.Bool.{true, false}
use native.Mathlib.Omega.{arith}
use Prim.Native.Nat.{◌+◌, ◌-◌}
use lib.ListN.{take, drop}
use Rattle.std.specs.Prelude.{MatchBool, Any, All}
use Rattle.std.proofs.Common.{rules}
use Rattle.std.proofs.iter.runs.Made.{chains}
use Rattle.definition.specs.declared.Place.{Place}
use Rattle.definition.specs.Port.{any, waits_of, fires, any_fires}
use Rattle.port.proofs.places.Lists.{as_slice}
use Rattle.port.proofs.firing.Any.{any_found}
use Rattle.port.proofs.firing.any_fires.Goals as goal

pub returns : goal.returns
unfolding any_fires waits_of
returns c =
    let t = c.args.t in
    let f = fires c.args.one c.args.word in
    let ws = take ((t.packets + t.waits) - t.packets) (drop t.packets t.table) in
    let e : MatchBool c.any.result (Any (λ (p : Place). f p ≡ true) ws) (All (λ (p : Place). f p ≡ false) ws) = search (rules, chains) in
    any_found f c.any.result ws e ∙ ap (any f) (as_slice t.table t.packets (t.packets + t.waits) (omega arith))
