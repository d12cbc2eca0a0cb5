use mathlib.Core.Path.{◌≡◌}
use lib.Dec.{leb, ltb}
use borrow.Author.Tests.{lt-ltb, le-ltb}
use Rattle.definition.specs.Status.{◌and◌}
use Rattle.endpoint.proofs.answer.Rules.{and-on}
use Rattle.port.proofs.places.Tests.{first_fails}
use Rattle.port.proofs.few.Whole.{removed_few}
use Rattle.port.proofs.few.without_place.Goals as goal
use Rattle.port.proofs.few.without_place.Goals.{then-is_used, else-is_used, then-is_used-2, else-is_used-2}

pub returns : goal.returns
returns c =
    let t = c.args.t in
    let k = c.args.k in
    let u = c.used_within-used in
    let packet : c.if-is_used.pick ≡ (ltb k u.result and ltb k t.packets) = elim c.if-is_used.branch [
      | then-is_used w ↦ and-on _ _ _ (lt-ltb _ _ w.if-is_used.true) w.pick-is
      | else-is_used w ↦ first_fails _ _ _ (le-ltb _ _ w.if-is_used.false) w.pick-is
    ] in
    let wait : c.if-is_used-2.pick ≡ (ltb k u.result and leb t.packets k) = elim c.if-is_used-2.branch [
      | then-is_used-2 w ↦ and-on _ _ _ (lt-ltb _ _ w.if-is_used-2.true) w.pick-is
      | else-is_used-2 w ↦ first_fails _ _ _ (le-ltb _ _ w.if-is_used-2.false) w.pick-is
    ] in
    removed_few t k u.result c.pick.result c.pick-2.result c.removed_at-out.result c.if-is_used.pick
    c.if-is_used-2.pick c.pick-3.result c.pick-4.result u.ensures c.pick.ensures
    (rw c.saturating_sub.ensures at c.pick-2.ensures)
    c.removed_at-out.ensures packet (rw c.saturating_sub-2.ensures at c.pick-3.ensures) wait
    (rw c.saturating_sub-3.ensures at c.pick-4.ensures)
