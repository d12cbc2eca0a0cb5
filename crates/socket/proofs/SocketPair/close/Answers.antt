use mathlib.Core.Path.{◌≡◌, sym, ap, subst, ◌∙◌}
use Rattle.definition.specs.Status.{pick}
use Rattle.endpoint.proofs.answer.Rules.{pick-on, pick_off}
use Rattle.definition.specs.Pair.{is_one}
use Rattle.definition.specs.Tests.{Steps}
use Rattle.definition.specs.Close.{close_answer, closed}
use Rattle.socket.specs.Deferred.{settled_step, without_waits, settled_close}
use Rattle.socket.proofs.Inner.{inner_128}
use Rattle.socket.proofs.Controlled.{close-whole}
use Rattle.socket.proofs.SocketPair.close.Goals as goal
use Rattle.socket.proofs.SocketPair.close.Goals.{then-r, else-r}

pub returns : goal.returns
unfolding settled_close
returns c =
    let h = c.args.handle in
    let p = c.args.self.inner in
    let r = c.close_ends-r.result in
    let q : c.if-r.p ≡ pick r.fires (without_waits (is_one h) p) p
    = elim c.if-r.branch [
      | then-r w ↦ pick-on _ _ _ _ _ w.if-r.true (w.p-is ∙ w.without_waits-p.ensures)
      | else-r w ↦ pick_off _ _ _ _ _ w.if-r.false w.p-is
    ] in
    subst (Steps p (close_answer p h) (closed (is_one h) p)) (sym (c.into.ensures ∙ (c.settle.ensures ∙ ap (settled_step r) q)))
    (close-whole p h _ r (inner_128 c.args.self _ c.well_formed.0) c.ends_of.ensures.ends c.close_ends-r.ensures)
