-- If as many entries agree as were run, all entries before `at` agree, else the tally holds the first that does not. An entry takes twelve bytes at
-- least, so that there are no more entries than bytes, and the tally is never full.
use Prim.Native.Nat.{◌-◌, ◌≤◌, ◌<◌}
use mathlib.Core.Path.{◌≡◌}
use lib.ListN.{length}
use Rattle.replay.specs.Replay.{AllAgree, FirstMissed, Tallied}
use Rattle.replay.proofs.entry.replay_all.Given as goal

abbrev pub invariant-loop-entry : goal.invariant-loop-entry
invariant-loop-entry l =
    record {
      within : l.at ≤ length l.s;
      few : l.tally.total ≤ l.at;
      most : l.tally.agree ≤ l.tally.total;
      all : l.tally.agree ≡ l.tally.total → AllAgree l.s l.tally.total l.at;
      same_length : length l.out ≡ length l.initial.out;
      tallied : Tallied l.s l.initial.out l.at l.tally l.out;
      first : l.tally.agree < l.tally.total → FirstMissed (length l.initial.out) l.s l.tally;
    }

abbrev pub decreases-loop-entry : goal.decreases-loop-entry
decreases-loop-entry l = length l.s - l.at
