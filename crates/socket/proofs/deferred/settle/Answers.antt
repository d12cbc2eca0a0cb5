use mathlib.Core.Path.{ap, ◌∙◌}
use Rattle.definition.specs.Status.{pick}
use Rattle.definition.specs.declared.Pair.{Pair}
use Rattle.socket.specs.Deferred.{needs_visit, visited_all, settled_step}
use Rattle.socket.proofs.Visiting.{places_128}
use Rattle.socket.proofs.Needed.{settled_need}
use Rattle.socket.proofs.deferred.settle.Goals as goal

pub returns : goal.returns
unfolding settled_step
returns c =
    ap (λ (k : Pair). record { pair = k; answer = c.args.r.answer })
    (c.visit.ensures
    ∙ ap (λ (k : Pair). pick (needs_visit c.args.r k.places) (visited_all c.args.r k) k) c.with_outcome.ensures
    ∙ settled_need c.args.r c.args.p (places_128 c.args.p _ c.well_formed.0))
