use mathlib.Core.Path.{sym, ◌∙◌}
use Rattle.port.specs.places.Table.{unused}
use Rattle.port.proofs.places.First.{both-on}
use Rattle.port.proofs.places.Size.{table_128}
use Rattle.port.proofs.waits.First.{registered_on}
use Rattle.port.proofs.waits.first_registered.Goals as goal

pub returns-then-is_unused : goal.returns-then-is_unused
unfolding unused
returns-then-is_unused c =
    let a = c.args in
    rw (
      c.pick-waits.ensures,
      c.pick-packets.ensures,
      c.new_place-p.ensures,
      c.fires_at_once-now.ensures,
    )
    (registered_on a.asked a.t (table_128 a.t _ c.well_formed.0) a.one a.word a.key a.mask a.edge
    (both-on _ _ c.if-asked.true (sym c.is_unused.ensures ∙ c.if-is_unused.true)))
