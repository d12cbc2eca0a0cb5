-- Where a script has not ended and no move is left, fewer than 4107 bytes are left. Assumes nothing.
use Prim.Native.Nat.{ℕ, ◌+◌, ◌-◌, ◌≤◌, ◌<◌}
use native.Mathlib.Omega.{arith}
use mathlib.Core.Path.{◌≡◌, refl, sym, ◌∙◌, subst}
use mathlib.Core.Bool.{Bool, true, false}
use mathlib.Core.List.{List}
use lib.ListN.{length, get_or, take, drop}
use lib.Dec.{ltb, leb, eqb}
use borrow.Author.Tests.{ltb-true, leb-true, eqb-true}
use Rattle.definition_script.specs.declared.Decoded.{Decoded}
use Rattle.definition_script.specs.declared.Decoded.TheVariants.{Whole, Bad, Cut}
use Rattle.definition_script.specs.Record.{two, is_body, record_of, is_misplaced}
use Rattle.script_call.proofs.record.Records.{cases}
use Rattle.definition_script.specs.Listing.{Machine, stay, halt, go, move_of, stepped, step_line}
use Rattle.feed.proofs.Moves.{move_bad, move_misplaced, move_step}

-- ---- a body

Small : ℕ → Bool → Type 0
Small n b = b ≡ true → n ≤ 4104

sized : (n k : ℕ) → k ≤ 4104 → Small n (eqb n k)
unfolding Small
sized n k h e = omega (arith, h, eqb-true n k e)

refused : (n : ℕ) → Small n false
unfolding Small
refused n e = absurd (let z : ◌≡◌ {A = ℕ} 0 1 = (cc) in let y : ⊥ = omega arith in y)

filled : (n : ℕ) → Small n (leb n 4104)
unfolding Small
filled n e = leb-true n 4104 e

body-small : (tag n : ℕ) → Small n (is_body tag n)
unfolding is_body
body-small tag n =
    cases Bool (Small n) (ltb tag 1) _ _ (λ e. sized n 10 (omega arith))
    (λ e. cases Bool (Small n) (ltb tag 3) _ _ (λ f. sized n 32 (omega arith))
    (λ f. cases Bool (Small n) (ltb tag 4) _ _ (λ g. sized n 12 (omega arith))
    (λ g. cases Bool (Small n) (ltb tag 5) _ _ (λ h. sized n 8 (omega arith))
    (λ h. cases Bool (Small n) (ltb tag 7) _ _ (λ i. sized n 12 (omega arith))
    (λ i. cases Bool (Small n) (ltb tag 9) _ _ (λ j. sized n 4 (omega arith))
    (λ j. cases Bool (Small n) (ltb tag 10) _ _ (λ k. sized n 17 (omega arith))
    (λ k. cases Bool (Small n) (ltb tag 11) _ _ (λ l. sized n 0 (omega arith))
    (λ l. cases Bool (Small n) (ltb tag 12) _ _ (λ m. cases Bool (Small n) (ltb n 9) _ _ (λ o. refused n) (λ o. filled n))
    (λ m. cases Bool (Small n) (ltb tag 13) _ _ (λ p. sized n 12 (omega arith)) (λ p. refused n))))))))))

-- ---- a record that may be cut

CutTells : List ℕ → Decoded → Type 0
CutTells s Cut = length s < 4107
CutTells s Bad = Unit
CutTells s (Whole tag n) = Unit

cut_tells : (s : List ℕ) → CutTells s (record_of s)
unfolding record_of CutTells Small
cut_tells s =
    cases Decoded (CutTells s) (ltb (length s) 3) Cut _ (λ e. let l : length s < 3 = ltb-true (length s) 3 e in omega (arith, l))
    (λ e. cases Decoded (CutTells s) (is_body (get_or s 0 0) (two s 1)) _ Bad
    (λ f. cases Decoded (CutTells s) (ltb (length s - 3) (two s 1)) Cut _
    (λ g. let l : length s - 3 < two s 1 = ltb-true (length s - 3) (two s 1) g in
    let k : two s 1 ≤ 4104 = body-small (get_or s 0 0) (two s 1) f in
    omega (arith, l, k))
    (λ g. tt))
    (λ f. tt))

cut_short : (s : List ℕ) → record_of s ≡ Cut → length s < 4107
unfolding CutTells
cut_short s e = subst (λ (r : Decoded). CutTells s r) e (cut_tells s)

-- ---- no move

-- bytes that make no move of a script that has not ended are fewer than 4107
pub stay-short : (m : Machine) (s : List ℕ) → m.state.ended ≡ false → move_of m s ≡ stay → length s < 4107
stay-short m s e f = by (record_of s) refl
  where
    placed : (tag n : ℕ) → record_of s ≡ Whole tag n → (b : Bool) → is_misplaced tag m.state.number ≡ b → length s < 4107
    placed tag n g true h =
        let c : halt ≡ stay = sym (move_misplaced m s tag n e g h) ∙ f in
        let z : ◌≡◌ {A = ℕ} 0 1 = (cc) in
        omega arith
    placed tag n g false h =
        let c : go (stepped m tag (take n (drop 3 s))) (step_line m tag (take n (drop 3 s))) (3 + n) ≡ stay = sym (move_step m s tag n e g h) ∙ f in
        let z : ◌≡◌ {A = ℕ} 0 1 = (cc) in
        omega arith

    by : (r : Decoded) → record_of s ≡ r → length s < 4107
    by Cut g = cut_short s g
    by Bad g =
        let c : halt ≡ stay = sym (move_bad m s e g) ∙ f in
        let z : ◌≡◌ {A = ℕ} 0 1 = (cc) in
        omega arith
    by (Whole tag n) g = placed tag n g (is_misplaced tag m.state.number) refl
