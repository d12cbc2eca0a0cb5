use mathlib.Core.Path.{sym, ◌∙◌}
use Rattle.feed.proofs.Feeding.{unready}
use Rattle.script_call.specs.Lent.{lent_rings}
use Rattle.feed.proofs.feed.Goals as goal

pub returns-clause-done : goal.returns-clause-done
returns-clause-done c =
    let a = c.args in
    unready a.st a.offset a.input.now a.lent.now.memory.now (lent_rings a.lent.now) a.out.now
    (sym c.is_ready.ensures ∙ c.if-is_ready.false)
