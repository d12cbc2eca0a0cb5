-- `run_on` meets its contract: `ran` puts the three texts together.
use borrow.Author.Rules.{rules}
use mathlib.Core.Path.{refl}
use Rattle.listing.proofs.listing.Runs.{ran}
use Rattle.script_call.specs.Lent.{lent_rings}
use Rattle.listing.proofs.listing.run_on.Goals as goal

pub returns : goal.returns
returns c =
    let h = c.header-n in
    let f = c.feed-f in
    let e = c.finish-last in
    let w =
    ran {z = lent_rings c.args.lent.now} {z' = lent_rings f.new.lent} c.requires c.start.ensures h.ensures h.auto.out f.ensures.done f.auto.out e.ensures
    e.auto.out refl refl
    in
    record { same = search rules; text = w.0; left = w.1 }
