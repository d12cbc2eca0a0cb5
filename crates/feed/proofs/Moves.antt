-- The move that a record makes; more bytes behind it do not change the move. Assumes nothing.
use Prim.Native.Nat.{ℕ, ◌+◌, ◌≤◌}
use native.Mathlib.Omega.{arith}
use mathlib.Core.Path.{◌≡◌, refl, ap, ◌∙◌, subst}
use mathlib.Core.Bool.{Bool, true, false}
use mathlib.Core.List.{List, ◌++◌}
use lib.ListN.{length, take, drop}
use Rattle.definition.specs.Status.{pick}
use Rattle.definition_script.specs.declared.Decoded.{Decoded}
use Rattle.definition_script.specs.declared.Decoded.TheVariants.{Whole, Bad, Cut}
use Rattle.definition_script.specs.Record.{record_of, is_misplaced}
use Rattle.script_call.proofs.record.Records.{cases, full, bad_more, whole-more, body_more}
use Rattle.definition_script.specs.Listing.{Machine, Move, stay, halt, go, move_by, move_of, stepped, stepped_state, step_line}

pub move_ended : (m : Machine) (s : List ℕ) → m.state.ended ≡ true → move_of m s ≡ stay
unfolding move_of pick
move_ended m s e = rw e

pub move_cut : (m : Machine) (s : List ℕ) → m.state.ended ≡ false → record_of s ≡ Cut → move_of m s ≡ stay
unfolding move_of pick move_by
move_cut m s e f = rw (e, f)

pub move_bad : (m : Machine) (s : List ℕ) → m.state.ended ≡ false → record_of s ≡ Bad → move_of m s ≡ halt
unfolding move_of pick move_by
move_bad m s e f = rw (e, f)

pub move_misplaced : (m : Machine) (s : List ℕ) (tag n : ℕ) → m.state.ended ≡ false → record_of s ≡ Whole tag n
    → is_misplaced tag m.state.number ≡ true → move_of m s ≡ halt
unfolding move_of pick move_by
move_misplaced m s tag n e f g = rw (e, f, g)

pub move_step : (m : Machine) (s : List ℕ) (tag n : ℕ) → m.state.ended ≡ false → record_of s ≡ Whole tag n
    → is_misplaced tag m.state.number ≡ false → move_of m s ≡ go (stepped m tag (take n (drop 3 s))) (step_line m tag (take n (drop 3 s))) (3 + n)
unfolding move_of pick move_by
move_step m s tag n e f g = rw (e, f, g)

-- what a move tells that is not `stay`: it is the same with more bytes behind
pub record Goes (m : Machine) (s : List ℕ) (m' : Machine) (l : List ℕ) (n : ℕ) : Type 0 where
  pub within : n ≤ length s
  pub some : 1 ≤ n
  pub number : m'.state.number ≡ m.state.number + 1
  pub more : (t : List ℕ) → move_of m (s ++ t) ≡ go m' l n

MoveTells : Machine → List ℕ → Move → Type 0
MoveTells m s stay = Unit
MoveTells m s halt = (t : List ℕ) → move_of m (s ++ t) ≡ halt
MoveTells m s (go m' l n) = Goes m s m' l n

steps : (m : Machine) (s : List ℕ) (tag n : ℕ) → m.state.ended ≡ false → record_of s ≡ Whole tag n → is_misplaced tag m.state.number ≡ false
    → Goes m s (stepped m tag (take n (drop 3 s))) (step_line m tag (take n (drop 3 s))) (3 + n)
unfolding stepped stepped_state
steps m s tag n e f g =
    let h : 3 + n ≤ length s = (full s tag n f).long in
    record {
      within = h;
      some = omega arith;
      number = refl;
      more = λ t.
          move_step m (s ++ t) tag n e (whole-more s t tag n f) g
          ∙ ap (λ (z : List ℕ). go (stepped m tag z) (step_line m tag z) (3 + n)) (body_more s t n h);
    }

move_tells_by : (m : Machine) (s : List ℕ) (b : Bool) (r : Decoded) → m.state.ended ≡ b → record_of s ≡ r → MoveTells m s (pick b stay (move_by m s r))
unfolding MoveTells pick move_by
move_tells_by m s true r e f = tt
move_tells_by m s false Cut e f = tt
move_tells_by m s false Bad e f = λ t. move_bad m (s ++ t) e (bad_more s t f)
move_tells_by m s false (Whole tag n) e f =
    cases Move (MoveTells m s) (is_misplaced tag m.state.number) _ _
    (λ g. λ t. move_misplaced m (s ++ t) tag n e (whole-more s t tag n f) g)
    (λ g. steps m s tag n e f g)

move_tells : (m : Machine) (s : List ℕ) → MoveTells m s (move_of m s)
unfolding move_of
move_tells m s = move_tells_by m s m.state.ended (record_of s) refl refl

pub goes : (m : Machine) (s : List ℕ) (m' : Machine) (l : List ℕ) (n : ℕ) → move_of m s ≡ go m' l n → Goes m s m' l n
unfolding MoveTells
goes m s m' l n e = subst (λ (v : Move). MoveTells m s v) e (move_tells m s)

pub halts : (m : Machine) (s : List ℕ) → move_of m s ≡ halt → (t : List ℕ) → move_of m (s ++ t) ≡ halt
unfolding MoveTells
halts m s e = subst (λ (v : Move). MoveTells m s v) e (move_tells m s)
