-- The listing, move by move. Assumes nothing.
use Prim.Native.Nat.{ℕ, zero, suc, ◌+◌, ◌-◌, ◌<◌}
use native.Mathlib.Omega.{arith}
use mathlib.Core.Path.{◌≡◌, refl, ap, ◌∙◌}
use mathlib.Core.Bool.{Bool, true}
use mathlib.Core.List.{List, [], ◌∷◌, ◌++◌}
use lib.ListN.{length, drop, length-drop}
use Rattle.definition.specs.Status.{pick}
use Rattle.definition_script.specs.Line.{stop_of}
use Rattle.definition_script.specs.Listing.{Machine, Move, stay, halt, go, move_of, closing, run_move, run_by, run}
use Rattle.feed.proofs.Moves.{goes, move_ended}

move_same : (f g : ℕ → Machine → List ℕ → List ℕ) (offset : ℕ) (m : Machine) (s : List ℕ) (mv : Move)
    → ((m' : Machine) (l : List ℕ) (n : ℕ) → mv ≡ go m' l n → f (offset + n) m' (drop n s) ≡ g (offset + n) m' (drop n s))
    → run_move f offset m s mv ≡ run_move g offset m s mv
unfolding run_move
move_same f g offset m s stay h = refl
move_same f g offset m s halt h = refl
move_same f g offset m s (go m' l n) h = ap (λ (z : List ℕ). l ++ z) (h m' l n refl)

-- any number of moves that is enough gives the same
enough : (j k offset : ℕ) (m : Machine) (s : List ℕ) → length s < j → length s < k → run_by j offset m s ≡ run_by k offset m s
unfolding run_by
enough zero k offset m s h g = absurd (let z : ⊥ = omega arith in z)
enough (suc j) zero offset m s h g = absurd (let z : ⊥ = omega arith in z)
enough (suc j) (suc k) offset m s h g =
    move_same (run_by j) (run_by k) offset m s (move_of m s)
    (λ m' l n e.
    let w = goes m s m' l n e in
    let d : length (drop n s) ≡ length s - n = length-drop n s in
    enough j k (offset + n) m' (drop n s) (omega (arith, w.within, w.some)) (omega (arith, w.within, w.some)))

pub run-stay : (offset : ℕ) (m : Machine) (s : List ℕ) → move_of m s ≡ stay → run offset m s ≡ closing offset m.state.ended s
unfolding run run_by run_move
run-stay offset m s e = ap (λ (v : Move). run_move (run_by (length s)) offset m s v) e

pub run-halt : (offset : ℕ) (m : Machine) (s : List ℕ) → move_of m s ≡ halt → run offset m s ≡ stop_of offset
unfolding run run_by run_move
run-halt offset m s e = ap (λ (v : Move). run_move (run_by (length s)) offset m s v) e

pub run-go : (offset : ℕ) (m : Machine) (s : List ℕ) (m' : Machine) (l : List ℕ) (n : ℕ) → move_of m s ≡ go m' l n
    → run offset m s ≡ l ++ run (offset + n) m' (drop n s)
unfolding run run_by run_move
run-go offset m s m' l n e =
    let w = goes m s m' l n e in
    let d : length (drop n s) ≡ length s - n = length-drop n s in
    ap (λ (v : Move). run_move (run_by (length s)) offset m s v) e
    ∙ ap (λ (z : List ℕ). l ++ z)
    (enough (length s) (suc (length (drop n s))) (offset + n) m' (drop n s) (omega (arith, w.within, w.some)) (omega arith))

closing_ended : (offset : ℕ) (s : List ℕ) → closing offset true s ≡ []
unfolding closing pick
closing_ended offset [] = refl
closing_ended offset (b ∷ s) = refl

-- a script that has ended puts out nothing more
pub run_ended : (offset : ℕ) (m : Machine) (s : List ℕ) → m.state.ended ≡ true → run offset m s ≡ []
run_ended offset m s e =
    run-stay offset m s (move_ended m s e) ∙ ap (λ (b : Bool). closing offset b s) e ∙ closing_ended offset s
