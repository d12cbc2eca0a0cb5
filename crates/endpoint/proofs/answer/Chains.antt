-- What a chain of tests that passed tells of its parts. Assumes nothing.
use mathlib.Core.Path.{◌≡◌, refl}
use mathlib.Core.Bool.{Bool, true, false, false≢true, true≢false}
use Rattle.definition.specs.declared.Status.{Status}
use Rattle.definition.specs.Status.{Answer}
use Rattle.std.specs.declared.result.Result.TheVariants.{Ok, Err}
use Rattle.definition.specs.Status.{◌and◌, ◌or◌, refuse_if, refuse_unless, ◌then◌, is_done, count_of}

pub both : (a b : Bool) → (a and b) ≡ true → (a ≡ true) × (b ≡ true)
unfolding ◌and◌
both true b e = (refl, e)
both false b e = absurd (false≢true e)

pub both_off : (a b : Bool) → (a and b) ≡ false → a ≡ true → b ≡ false
unfolding ◌and◌
both_off true b e h = e
both_off false b e h = absurd (false≢true h)

pub neither : (a b : Bool) → (a or b) ≡ false → (a ≡ false) × (b ≡ false)
unfolding ◌or◌
neither true b e = absurd (true≢false e)
neither false b e = (refl, e)

-- both parts of a chain passed
pub then_both : (g a : Answer) → is_done (g then a) ≡ true → (is_done g ≡ true) × (is_done a ≡ true)
unfolding is_done ◌then◌
then_both (Ok d) a e = (refl, e)
then_both (Err s) a e = absurd (false≢true e)

-- past a test that passed, the chain is the rest
pub then_is : (g a : Answer) → is_done g ≡ true → (g then a) ≡ a
unfolding is_done ◌then◌
then_is (Ok d) a e = refl
then_is (Err s) a e = absurd (false≢true e)

pub refuse_passed : (b : Bool) (s : Status) → is_done (refuse_if b s) ≡ true → b ≡ false
unfolding is_done refuse_if
refuse_passed true s e = absurd (false≢true e)
refuse_passed false s e = refl

pub unless_passed : (b : Bool) (s : Status) → is_done (refuse_unless b s) ≡ true → b ≡ true
unfolding is_done refuse_unless
unless_passed true s e = refl
unless_passed false s e = absurd (false≢true e)

-- an answer with a count is done
pub counted : (a : Answer) → (count_of a ≡ 0 → ⊥) → is_done a ≡ true
unfolding is_done count_of
counted (Ok d) z = refl
counted (Err s) z = absurd (z refl)
