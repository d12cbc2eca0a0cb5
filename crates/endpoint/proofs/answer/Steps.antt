-- The steps of a chain of tests as equations: with `using(endpoint::proofs::answer::Steps::steps)` the check closes
-- `answer ≡ (refuse_if .. then refuse_unless .. then ..)` from the tests on the way, and from each `?`, with no answer written. Assumes nothing.
use Prim.Native.Nat.{ℕ}
use mathlib.Core.Path.{◌≡◌, refl, sym, ap, ◌∙◌}
use mathlib.Core.Bool.{Bool, true, false, not}
use lib.Dec.{ltb}
use borrow.Author.Tests.{lt-ltb, le-ltb, le-leb, lt-leb, eq-eqb, ne_eqb}
use Rattle.std.specs.Result.{is_err}
use Rattle.std.specs.declared.result.Result.{Result}
use Rattle.std.specs.declared.result.Result.TheVariants.{Ok, Err}
use Rattle.definition.specs.declared.Status.{Status}
use Rattle.definition.specs.declared.Status.TheVariants.{InvalidArgs}
use Rattle.definition.specs.declared.Record.{Record}
use Rattle.definition.specs.declared.Record.TheVariants.{Empty}
use Rattle.definition.specs.declared.Disposition.{Disposition}
use Rattle.definition.specs.Disposition.{disposition_of, numbered_disposition}
use Rattle.definition.specs.Status.{Answer, pick, ◌and◌, ◌or◌, refuse_if, refuse_unless, ◌then◌, is_done}

-- ---- a test that was passed, and one that refused

pub then_ok : (d : Record) (a : Answer) → (◌then◌ (Ok d) a) ≡ a
unfolding ◌then◌
then_ok d a = refl

pub then_err : (s : Status) (a : Answer) → (◌then◌ (Err s) a) ≡ Err s
unfolding ◌then◌
then_err s a = refl

pub refuse_true : (s : Status) → refuse_if true s ≡ Err s
unfolding refuse_if
refuse_true s = refl

pub refuse_false : (s : Status) → refuse_if false s ≡ Ok Empty
unfolding refuse_if
refuse_false s = refl

pub unless_true : (s : Status) → refuse_unless true s ≡ Ok Empty
unfolding refuse_unless
unless_true s = refl

pub unless_false : (s : Status) → refuse_unless false s ≡ Err s
unfolding refuse_unless
unless_false s = refl

-- ---- tests joined

pub and_true : (b : Bool) → (◌and◌ true b) ≡ b
unfolding ◌and◌
and_true b = refl

pub and_false : (b : Bool) → (◌and◌ false b) ≡ false
unfolding ◌and◌
and_false b = refl

pub or_true : (b : Bool) → (◌or◌ true b) ≡ true
unfolding ◌or◌
or_true b = refl

pub or_false : (b : Bool) → (◌or◌ false b) ≡ b
unfolding ◌or◌
or_false b = refl

pub ruleset steps = (then_ok, then_err, refuse_true, refuse_false, unless_true, unless_false, and_true, and_false, or_true, or_false, lt-ltb, le-ltb, le-leb, lt-leb, eq-eqb, ne_eqb)

-- ---- an answer that `is_ok` or `is_err` tests

pub done_is : (a : Answer) → is_done a ≡ not (is_err a)
unfolding is_done
done_is (Ok d) = refl
done_is (Err s) = refl

-- b is what the test gave
pub err_refused : (a : Answer) (b : Bool) → b ≡ is_err a → b ≡ true → is_done a ≡ false
err_refused a b e f = done_is a ∙ ap not (sym e ∙ f)

pub err_done : (a : Answer) (b : Bool) → b ≡ is_err a → b ≡ false → is_done a ≡ true
err_done a b e f = done_is a ∙ ap not (sym e ∙ f)

-- ---- a number that `try_from` made a disposition: it is not above 2, and the disposition is the one that it names

pub number_taken : (n : ℕ) (x : Result Disposition Status) (d : Disposition) → x ≡ numbered_disposition n → x ≡ Ok d → (ltb 2 n ≡ false) × (disposition_of n ≡ d)
unfolding numbered_disposition pick
number_taken n x d e f = by (ltb 2 n) refl
  where
    by : (t : Bool) → ltb 2 n ≡ t → (ltb 2 n ≡ false) × (disposition_of n ≡ d)
    by true w = let z : ◌≡◌ {A = Result Disposition Status} (Err InvalidArgs) (Ok d) = sym (rw w at e) ∙ f in (cc)
    by false w = let z : ◌≡◌ {A = Result Disposition Status} (Ok (disposition_of n)) (Ok d) = sym (rw w at e) ∙ f in (w, cc)

-- and one that it refused is above 2
pub number_refused : (n : ℕ) (x : Result Disposition Status) (s : Status) → x ≡ numbered_disposition n → x ≡ Err s → (ltb 2 n ≡ true) × (InvalidArgs ≡ s)
unfolding numbered_disposition pick
number_refused n x s e f = by (ltb 2 n) refl
  where
    by : (t : Bool) → ltb 2 n ≡ t → (ltb 2 n ≡ true) × (InvalidArgs ≡ s)
    by true w = let z : ◌≡◌ {A = Result Disposition Status} (Err InvalidArgs) (Err s) = sym (rw w at e) ∙ f in (w, cc)
    by false w = let z : ◌≡◌ {A = Result Disposition Status} (Ok (disposition_of n)) (Err s) = sym (rw w at e) ∙ f in (cc)
