-- Whether an element of a list passes a test, looked for from its front. Assumes nothing.
use Prim.Native.Nat.{ℕ, zero, suc, ◌+◌, ◌≤◌, ◌<◌, min}
use mathlib.Core.Path.{◌≡◌, refl, sym, ap, ◌∙◌, subst}
use mathlib.Core.Bool.{Bool, true, false}
use mathlib.Core.Logic.{⊎_elim}
use mathlib.Core.List.{List, [], ◌∷◌, ◌++◌}
use native.Mathlib.Omega.{arith}
use native.Mathlib.Numerals.{add-one}
use lib.ListN.{length, take, get_or}
use lib.Seq.{take-suc, get_or-take, length-take-le}
use Rattle.std.specs.Prelude.{MatchBool, Any, All}
use Rattle.std.proofs.lemmas.List.{take_all}
use Rattle.definition.specs.Status.{◌or◌}
use Rattle.definition.specs.Port.{any}
use Rattle.port.proofs.places.Lists.{either, any-yes, any-no}

module _ {A : Type 0} (f : A → Bool) where
  pub any_hit : (xs : List A) (i : ℕ) (d : A) → i < length xs → f (get_or xs i d) ≡ true → true ≡ any f xs
  unfolding any ◌or◌
  any_hit [] i d h e = absurd (omega (arith, h))
  any_hit (x ∷ xs) zero d h e = sym (any-yes f x xs e)
  any_hit (x ∷ xs) (suc i) d h e =
      ⊎_elim
      (λ (t : f x ≡ true). sym (any-yes f x xs t))
      (λ (t : f x ≡ false). any_hit xs i d (omega (arith, h)) e ∙ sym (any-no f x xs t))
      (either (f x))

  any_snoc : (xs : List A) (y : A) → any f xs ≡ false → f y ≡ false → any f (xs ++ (y ∷ [])) ≡ false
  unfolding any
  any_snoc [] y e k = any-no f y [] k
  any_snoc (x ∷ xs) y e k =
      ⊎_elim
      (λ (t : f x ≡ true). let z : ◌≡◌ {A = Bool} true false = sym (any-yes f x xs t) ∙ e in (cc))
      (λ (t : f x ≡ false). any-no f x (xs ++ (y ∷ [])) t ∙ any_snoc xs y (sym (any-no f x xs t) ∙ e) k)
      (either (f x))

  pub any_miss : (xs : List A) (i : ℕ) (d : A) → i < length xs → any f (take i xs) ≡ false → f (get_or xs i d) ≡ false → any f (take (i + 1) xs) ≡ false
  any_miss xs i d h c e =
      ap (λ (n : ℕ). any f (take n xs)) (add-one i) ∙ ap (any f) (take-suc xs i d h) ∙ any_snoc (take i xs) (get_or xs i d) c e

  pub any_past : (xs : List A) (i : ℕ) → length xs ≤ i → any f (take i xs) ≡ false → false ≡ any f xs
  any_past xs i h c = sym c ∙ ap (any f) (take_all i xs h)

  any_not : (xs : List A) → All (λ (x : A). f x ≡ false) xs → any f xs ≡ false
  unfolding any
  any_not [] h = refl
  any_not (x ∷ xs) h = any-no f x xs (h 0 x (omega arith)) ∙ any_not xs (λ k d l. h (suc k) d (omega (arith, l)))

  -- as a search through the list answers
  pub any_found : (r : Bool) (xs : List A) → MatchBool r (Any (λ (x : A). f x ≡ true) xs) (All (λ (x : A). f x ≡ false) xs) → r ≡ any f xs
  any_found true xs (k, x, l, e, h) = any_hit xs k x l (ap f e ∙ h)
  any_found false xs h = sym (any_not xs h)

  -- the same where a fixed number of places is looked at, of which those from w on have no element
  pub few_hit : (tab : List A) (w i : ℕ) (d : A) → w ≤ length tab → i < w → f (get_or tab i d) ≡ true → true ≡ any f (take w tab)
  few_hit tab w i d k h e =
      any_hit (take w tab) i d (omega (arith, length-take-le w tab k)) (ap f (get_or-take w tab i d h) ∙ e)

  pub few_miss : (tab : List A) (w i : ℕ) (d : A) → w ≤ length tab → i < w → any f (take (min i w) tab) ≡ false → f (get_or tab i d) ≡ false
      → any f (take (min (i + 1) w) tab) ≡ false
  few_miss tab w i d k h c e =
      let to : i + 1 ≡ min (i + 1) w = omega (arith, h) in
      let from : min i w ≡ i = omega (arith, h) in
      subst (λ (n : ℕ). any f (take n tab) ≡ false) to
      (any_miss tab i d (omega (arith, h, k)) (subst (λ (n : ℕ). any f (take n tab) ≡ false) from c) e)

  pub few_past : (tab : List A) (w i : ℕ) → w ≤ i → any f (take (min i w) tab) ≡ false → any f (take (min (i + 1) w) tab) ≡ false
  few_past tab w i h c =
      let same : min i w ≡ min (i + 1) w = omega (arith, h) in
      subst (λ (n : ℕ). any f (take n tab) ≡ false) same c

  pub few_not : (tab : List A) (w i : ℕ) → w ≤ i → any f (take (min i w) tab) ≡ false → false ≡ any f (take w tab)
  few_not tab w i h c =
      let all : min i w ≡ w = omega (arith, h) in
      sym c ∙ ap (λ (n : ℕ). any f (take n tab)) all
