use Prim.Native.Nat.{◌+◌, ◌≤◌}
use lib.ListN.{length}
use mathlib.Core.Path.{◌≡◌}
use Rattle.text.proofs.Spelling.{back}
use Rattle.text.proofs.Writer.digits.Given as goal

abbrev pub invariant-loop-i : goal.invariant-loop-i
invariant-loop-i l =
    (l.self.at ≡ l.initial.self.at) × (l.self.out.ghost_name ≡ l.initial.self.out.ghost_name) × (length l.self.out.now ≡ length l.initial.self.out.now)
    × (l.self.at + l.k ≤ length l.initial.self.out.now)
    × (back l.base l.self.at l.k l.n l.initial.self.out.now ≡ back l.base l.self.at l.i l.rest l.self.out.now)
