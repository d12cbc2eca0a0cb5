use Prim.Native.Nat.{ℕ, ◌+◌, ◌-◌, ◌≤◌, ◌<◌}
use mathlib.Core.Path.{◌≡◌, sym, ◌∙◌, subst}
use native.Mathlib.Omega.{arith}
use lib.Dec.{ltb, eqb}
use lib.ListN.{length, get_or}
use borrow.Author.Tests.{lt-ltb, le-ltb}
use Rattle.definition.specs.Status.{◌and◌}
use Rattle.definition.specs.Port.{free, matches}
use Rattle.endpoint.proofs.answer.Rules.{and-on}
use Rattle.port.proofs.places.Tests.{first_fails}
use Rattle.port.proofs.places.Size.{table_128}
use Rattle.port.proofs.few.Searches.{Found, found-start, found_turn, found_all, at-most-eight, counted-most}
use Rattle.port.proofs.few.only_match.Goals as goal
use Rattle.port.proofs.few.only_match.Goals.{then-i-used, else-i-used, then-asked, else-asked}

pub loop-i-init : goal.loop-i-init
loop-i-init c =
    let t = c.args.t in
    let l : length t.table ≡ 128 = table_128 t _ c.well_formed.0 in
    let few : c.used_within-used.result ≤ 8 = rw c.used_within-used.ensures (at-most-eight (t.packets + t.waits)) in
    (found-start (matches c.args.one c.args.key) t.table c.used_within-used.result (omega (arith, few, l)) 8 few, (omega arith, few))

pub loop-i-preserved : goal.loop-i-preserved
loop-i-preserved c =
    let t = c.args.t in
    let o = c.loop-i in
    let u = c.used_within-used.result in
    let some : 0 < o.i = c.loop-i-test.true in
    let l : length t.table ≡ 128 = table_128 t _ c.well_formed.0 in
    let e : (o.i - 1) + 1 ≡ o.i = omega (arith, some) in
    let f = matches c.args.one c.args.key in
    let hit : c.if-i-used.hit ≡ (ltb (o.i - 1) u and f (get_or t.table (o.i - 1) free)) = elim c.if-i-used.branch [
      | then-i-used w ↦ and-on _ _ _ (lt-ltb _ _ w.if-i-used.true) (w.hit-is ∙ w.is_match-hit.ensures)
      | else-i-used w ↦ first_fails _ _ _ (le-ltb _ _ w.if-i-used.false) w.hit-is
    ] in (
      rw (c.pick-n.ensures, c.pick-k.ensures)
          (found_turn f t.table u (omega (arith, o.invariant.1.1, l)) (o.i - 1) o.n o.k free c.if-i-used.hit
          hit (subst (λ (j : ℕ). Found f t.table u j o.n o.k) (sym e) o.invariant.0)),
      (rw c.pick-n.ensures (counted-most c.if-i-used.hit o.n o.i some o.invariant.1.0), o.invariant.1.1),
    )

pub returns : goal.returns
returns c =
    let o = c.loop-i in
    let t = c.args.t in
    let none : o.i ≡ 0 = omega (arith, c.loop-i-test.false) in
    let u = c.used_within-used in
    let only : c.if-asked.pick ≡ (c.args.asked and eqb o.n 1) = elim c.if-asked.branch [
      | then-asked w ↦ and-on _ _ _ w.if-asked.true w.pick-is
      | else-asked w ↦ first_fails _ _ _ w.if-asked.false w.pick-is
    ] in
    c.pick.ensures
    ∙ rw only
    (found_all c.args.asked c.args.one c.args.key t u.result o.n o.k (table_128 t _ c.well_formed.0) u.ensures
    (subst (λ (j : ℕ). Found (matches c.args.one c.args.key) t.table u.result j o.n o.k) none o.invariant.0))
