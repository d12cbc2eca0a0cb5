use mathlib.Core.Path.{sym, ◌∙◌}
use Rattle.port.proofs.places.Size.{table_128}
use Rattle.port.proofs.signal_change.Only.{only_on, only_off}
use Rattle.port.proofs.signal_change.only_visited.Goals as goal

pub returns-then-only_fires : goal.returns-then-only_fires
returns-then-only_fires c =
    let n = c.changed-next.ensures in
    let e = rw n at (sym c.only_fires.ensures ∙ c.if-only_fires.true) in
    rw (c.observed_at-packet.ensures, n) (only_on c.args.a.one c.args.a.word c.args.a.clear c.args.a.set c.args.t (table_128 c.args.t _ c.well_formed.0) e)

pub returns-else-only_fires : goal.returns-else-only_fires
returns-else-only_fires c =
    let n = c.changed-next.ensures in
    let e = rw n at (sym c.only_fires.ensures ∙ c.if-only_fires.false) in
    only_off c.args.a.one c.args.a.word c.args.a.clear c.args.a.set c.args.t (table_128 c.args.t _ c.well_formed.0) e
