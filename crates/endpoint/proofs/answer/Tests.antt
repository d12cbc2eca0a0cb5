-- What a test tells of what is made of it, for `grind`, which takes one case of it for each such test: two tests, a test denied, and the tests with
-- their statuses that answers are written with. Assumes nothing.
use mathlib.Core.Path.{◌≡◌, refl}
use mathlib.Core.Bool.{Bool, true, false, not}
use mathlib.Core.Logic.{◌⊎◌, inl, inr}
use Rattle.definition.specs.declared.Status.{Status}
use Rattle.definition.specs.declared.Record.TheVariants.{Empty}
use Rattle.std.specs.declared.result.Result.TheVariants.{Ok, Err}
use Rattle.definition.specs.Status.{Answer, ◌and◌, ◌or◌, refuse_if, refuse_unless, ◌then◌}

pub and_tells : (a b : Bool) → ((a ≡ true) × ((a and b) ≡ b)) ⊎ ((a ≡ false) × ((a and b) ≡ false))
unfolding ◌and◌
and_tells true b = inl (refl, refl)
and_tells false b = inr (refl, refl)

pub or_tells : (a b : Bool) → ((a ≡ true) × ((a or b) ≡ true)) ⊎ ((a ≡ false) × ((a or b) ≡ b))
unfolding ◌or◌
or_tells true b = inl (refl, refl)
or_tells false b = inr (refl, refl)

pub not_tells : (a : Bool) → ((a ≡ true) × (not a ≡ false)) ⊎ ((a ≡ false) × (not a ≡ true))
not_tells true = inl (refl, refl)
not_tells false = inr (refl, refl)

-- the last test of a chain
pub refuse_tells : (b : Bool) (s : Status) → ((b ≡ true) × (refuse_if b s ≡ Err s)) ⊎ ((b ≡ false) × (refuse_if b s ≡ Ok Empty))
unfolding refuse_if
refuse_tells true s = inl (refl, refl)
refuse_tells false s = inr (refl, refl)

pub unless_tells : (b : Bool) (s : Status) → ((b ≡ true) × (refuse_unless b s ≡ Ok Empty)) ⊎ ((b ≡ false) × (refuse_unless b s ≡ Err s))
unfolding refuse_unless
unless_tells true s = inl (refl, refl)
unless_tells false s = inr (refl, refl)

-- one before it
pub refuse_then : (b : Bool) (s : Status) (a : Answer) → ((b ≡ true) × ((refuse_if b s then a) ≡ Err s)) ⊎ ((b ≡ false) × ((refuse_if b s then a) ≡ a))
unfolding refuse_if ◌then◌
refuse_then true s a = inl (refl, refl)
refuse_then false s a = inr (refl, refl)

pub unless_then : (b : Bool) (s : Status) (a : Answer) → ((b ≡ true) × ((refuse_unless b s then a) ≡ a)) ⊎ ((b ≡ false) × ((refuse_unless b s then a) ≡ Err s))
unfolding refuse_unless ◌then◌
unless_then true s a = inl (refl, refl)
unless_then false s a = inr (refl, refl)

pub ruleset tests = (and_tells, or_tells, not_tells, refuse_tells, unless_tells, refuse_then, unless_then)
