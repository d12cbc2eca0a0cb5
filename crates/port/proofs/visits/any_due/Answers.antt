use mathlib.Core.Path.{sym, ap, ◌∙◌}
use native.Mathlib.Omega.{arith}
use Rattle.definition.specs.Port.{any}
use Rattle.endpoint.specs.declared.ends.Pending.{Pending}
use Rattle.port.specs.visits.Visits.{due}
use Rattle.port.proofs.firing.Any.{any_hit, any_miss, any_past}
use Rattle.port.proofs.visits.Visiting.{all-due, four-changes}
use Rattle.port.proofs.visits.any_due.Goals as goal

pub loop-a-preserved : goal.loop-a-preserved
loop-a-preserved c =
    let s = c.changes-a-items in
    let n = four-changes c.args.r s.result s.ensures in
    any_miss (λ (a : Pending). due a c.args.t) s.result c.loop-a.a-index _ (omega (arith, n, c.loop-a-test.true)) c.loop-a.invariant
    (sym c.is_due.ensures ∙ c.if-is_due.false)

pub returns-then-is_due : goal.returns-then-is_due
returns-then-is_due c =
    let t = c.args.t in
    let s = c.changes-a-items in
    let n = four-changes c.args.r s.result s.ensures in
    any_hit (λ (a : Pending). due a t) s.result c.loop-a.a-index _ (omega (arith, n, c.loop-a-test.true)) (sym c.is_due.ensures ∙ c.if-is_due.true)
    ∙ ap (any (λ (a : Pending). due a t)) s.ensures
    ∙ all-due c.args.r t

pub returns : goal.returns
returns c =
    let t = c.args.t in
    let s = c.changes-a-items in
    let n = four-changes c.args.r s.result s.ensures in
    any_past (λ (a : Pending). due a t) s.result c.loop-a.a-index (omega (arith, n, c.loop-a-test.false)) c.loop-a.invariant
    ∙ ap (any (λ (a : Pending). due a t)) s.ensures
    ∙ all-due c.args.r t
