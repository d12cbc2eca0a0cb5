use mathlib.Core.Path.{◌∙◌}
use Rattle.port.specs.visits.Visits.{visited}
use Rattle.port.proofs.places.Size.{table_128}
use Rattle.port.proofs.visits.Only.{only_each}
use Rattle.port.proofs.visits.visited_alone.Goals as goal

pub returns : goal.returns
unfolding visited
returns c =
    (rw (c.only_visited-u-3.ensures, c.only_visited-u-2.ensures, c.only_visited-u.ensures) at c.only_visited.ensures)
    ∙ only_each c.args.r c.args.t (table_128 c.args.t _ c.well_formed.0)
