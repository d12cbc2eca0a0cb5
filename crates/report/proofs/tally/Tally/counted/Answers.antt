-- `counted` meets its contract.
use mathlib.Core.Path.{refl}
use Rattle.endpoint.proofs.answer.Rules.{pick-on}
use Rattle.report.proofs.tally.Counts.{full, counted_on}
use Rattle.report.specs.tally.Count.{counted_of}
use Rattle.report.proofs.tally.Tally.counted.Goals as goal

pub returns-then-self-ge-FULL : goal.returns-then-self-ge-FULL
returns-then-self-ge-FULL c = pick-on _ _ _ _ _ (full c.args.self c.then-self-ge-FULL.either) refl

pub returns-in-Ok : goal.returns-in-Ok
unfolding counted_of
returns-in-Ok c = let a = c.args in counted_on a.self a.from a.to a.o c.if-self-ge-FULL.false c.if-self-ge-FULL-2.false (rw c.in-Ok.is refl)

pub returns-in-Err : goal.returns-in-Err
unfolding counted_of
returns-in-Err c = let a = c.args in counted_on a.self a.from a.to a.o c.if-self-ge-FULL.false c.if-self-ge-FULL-2.false (rw c.in-Err.is c.missed.ensures)
