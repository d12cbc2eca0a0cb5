-- What a record's tag decides. Assumes nothing.
use Prim.Native.Nat.{ℕ, ◌+◌, ◌≤◌, ◌<◌}
use native.Mathlib.Omega.{arith}
use mathlib.Core.Path.{◌≡◌, refl}
use mathlib.Core.Bool.{Bool, true, false, not, beq}
use lib.Dec.{eqb}
use borrow.Author.Tests.{le-ltb}
use Rattle.std.specs.Result.{is_err}
use Rattle.std.specs.declared.result.Result.TheVariants.{Ok, Err}
use Rattle.definition.specs.Status.{Answer, pick, is_done}
use Rattle.definition_script.specs.Record.{is_body, is_misplaced}

-- what is above a number is above a smaller one
over : (a d n : ℕ) → a + d ≤ n → a ≤ n
over a d n h = omega arith

-- no body is right for a number that stands for no tag
pub no_body : (tag n : ℕ) → 12 < tag → is_body tag n ≡ false
unfolding is_body pick
no_body tag n h =
    let low : 13 ≤ tag = omega arith in
    simp (le-ltb tag 1 (over 1 12 tag low), le-ltb tag 3 (over 3 10 tag low), le-ltb tag 4 (over 4 9 tag low), le-ltb tag 5 (over 5 8 tag low), le-ltb tag 7 (over 7 6 tag low), le-ltb tag 9 (over 9 4 tag low), le-ltb tag 10 (over 10 3 tag low), le-ltb tag 11 (over 11 2 tag low), le-ltb tag 12 (over 12 1 tag low), le-ltb tag 13 low)

either : (a b : Bool) → not (beq a b) ≡ pick b (not a) a
unfolding pick
either true true = refl
either true false = refl
either false true = refl
either false false = refl

-- a create is out of its place behind a record, any other record before all
pub out_of_place : (tag number : ℕ) → not (beq (eqb tag 0) (eqb number 0)) ≡ is_misplaced tag number
unfolding is_misplaced
out_of_place tag number = either (eqb tag 0) (eqb number 0)

-- a call that is not done is refused
pub refused : (a : Answer) → is_err a ≡ not (is_done a)
unfolding is_done
refused (Ok d) = refl
refused (Err s) = refl
