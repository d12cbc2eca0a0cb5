-- Where a place of a ring lies, and a computed example. Assumes nothing.
use Prim.Native.Nat.{ℕ, ◌+◌, ◌-◌, ◌≤◌, ◌<◌}
use mathlib.Core.Path.{◌≡◌, refl}
use borrow.Author.Tests.{lt-ltb, le-ltb}
use Rattle.definition.specs.Status.{pick}
use Rattle.definition.specs.Ring.{position}

pub place_low : (C s k : ℕ) → k < C - s → position C s k ≡ s + k
unfolding position pick
place_low C s k h = simp (lt-ltb k (C - s) h)

pub place_high : (C s k : ℕ) → C - s ≤ k → position C s k ≡ k - (C - s)
unfolding position pick
place_high C s k h = simp (le-ltb k (C - s) h)

-- three entries past place 3 of a ring of capacity 4
pub place-wrapped : position 4 3 3 ≡ 2
unfolding position pick
place-wrapped = refl
