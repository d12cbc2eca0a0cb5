-- Laws of lists, for any element type. Assumes nothing.
use Prim.Native.Nat.{ℕ, zero, suc, ◌+◌, ◌-◌, ◌≤◌, ◌<◌}
use mathlib.Core.Path.{◌≡◌, refl, sym, ap, ◌∙◌}
use mathlib.Core.Bool.{Bool, true, false, not, false≢true}
use mathlib.Core.List.{List, [], ◌∷◌, ◌++◌, map, reverse, reverse-cons, map-append}
use mathlib.Core.Logic.{◌⊎◌, inl, inr, ⊎_elim}
use native.Mathlib.Omega.{arith}
use lib.ListN.{length, take, drop, get_or, set, replicate, length-set, take-append-drop}
use lib.Seq.{slice, take-suc, take-take, drop-set-lt, drop-cons, drop-drop, drop-append-le, get_or-drop, get_or-set_same, length-take-le}
use Rattle.std.proofs.lemmas.List.{drop-take}
use Rattle.definition.specs.Status.{pick, ◌or◌}
use Rattle.definition.specs.Port.{filter, any}

pub either : (b : Bool) → (b ≡ true) ⊎ (b ≡ false)
either true = inl refl
either false = inr refl

module _ {A : Type 0} where
  pub filter-yes : (f : A → Bool) (x : A) (xs : List A) → f x ≡ true → filter f (x ∷ xs) ≡ x ∷ filter f xs
  unfolding filter pick
  filter-yes f x xs e = rw e

  pub filter-no : (f : A → Bool) (x : A) (xs : List A) → f x ≡ false → filter f (x ∷ xs) ≡ filter f xs
  unfolding filter pick
  filter-no f x xs e = rw e

  pub any-yes : (f : A → Bool) (x : A) (xs : List A) → f x ≡ true → any f (x ∷ xs) ≡ true
  unfolding any ◌or◌
  any-yes f x xs e = rw e

  pub any-no : (f : A → Bool) (x : A) (xs : List A) → f x ≡ false → any f (x ∷ xs) ≡ any f xs
  unfolding any ◌or◌
  any-no f x xs e = rw e

  -- the elements that pass, reversed and mapped, of a list with one element more in front
  pub reverse-filter-yes : (f : A → Bool) (g : A → A) (x : A) (xs : List A) → f x ≡ true → map g (reverse (filter f (x ∷ xs))) ≡ map g (reverse (filter f xs)) ++ (g x ∷ [])
  reverse-filter-yes f g x xs e = rw (filter-yes f x xs e, reverse-cons x (filter f xs)) (map-append g (reverse (filter f xs)) (x ∷ []))

  pub reverse-filter-no : (f : A → Bool) (g : A → A) (x : A) (xs : List A) → f x ≡ false → map g (reverse (filter f (x ∷ xs))) ≡ map g (reverse (filter f xs))
  reverse-filter-no f g x xs e = rw (filter-no f x xs e)

  pub drop_set_at : (l : List A) (i : ℕ) (a : A) → i < length l → drop i (set l i a) ≡ a ∷ drop (suc i) l
  drop_set_at l i a h =
      let k : i < length (set l i a) = rw (length-set l i a) h in
      drop-cons (set l i a) i a k ∙ rw (get_or-set_same l i a a h, drop-set-lt (suc i) l i a (omega arith))

  -- where no element passes, none is selected, and all are by the negated test
  pub filter_none : (f : A → Bool) (xs : List A) → any f xs ≡ false → filter f xs ≡ []
  unfolding any filter pick ◌or◌
  filter_none f [] e = refl
  filter_none f (x ∷ xs) e =
      ⊎_elim
      (λ (t : f x ≡ true). absurd (false≢true (sym e ∙ any-yes f x xs t)))
      (λ (t : f x ≡ false). filter-no f x xs t ∙ filter_none f xs (sym (any-no f x xs t) ∙ e))
      (either (f x))

  pub filter-all : (f : A → Bool) (xs : List A) → any f xs ≡ false → filter (λ y. not (f y)) xs ≡ xs
  unfolding any filter pick ◌or◌
  filter-all f [] e = refl
  filter-all f (x ∷ xs) e =
      ⊎_elim
      (λ (t : f x ≡ true). absurd (false≢true (sym e ∙ any-yes f x xs t)))
      (λ (t : f x ≡ false). filter-yes (λ y. not (f y)) x xs (ap not t) ∙ ap (λ (l : List A). x ∷ l) (filter-all f xs (sym (any-no f x xs t) ∙ e)))
      (either (f x))

  -- where none is selected, no element passes
  pub filter_empty : (f : A → Bool) (xs : List A) → length (filter f xs) ≡ 0 → any f xs ≡ false
  unfolding any filter pick ◌or◌
  filter_empty f [] e = refl
  filter_empty f (x ∷ xs) e =
      ⊎_elim
      (λ (t : f x ≡ true). absurd (omega (arith, rw t at e)))
      (λ (t : f x ≡ false). any-no f x xs t ∙ filter_empty f xs (rw t at e))
      (either (f x))

  pub length-filter : (f : A → Bool) (xs : List A) → length (filter f xs) + length (filter (λ y. not (f y)) xs) ≡ length xs
  unfolding filter pick
  length-filter f [] = refl
  length-filter f (x ∷ xs) =
      let i = length-filter f xs in
      ⊎_elim
      (λ (t : f x ≡ true). rw t (omega arith))
      (λ (t : f x ≡ false). rw t (omega arith))
      (either (f x))

  pub filter-append : (f : A → Bool) (xs ys : List A) → filter f (xs ++ ys) ≡ filter f xs ++ filter f ys
  unfolding filter pick
  filter-append f [] ys = refl
  filter-append f (x ∷ xs) ys =
      ⊎_elim
      (λ (t : f x ≡ true). rw t (ap (λ (l : List A). x ∷ l) (filter-append f xs ys)))
      (λ (t : f x ≡ false). rw t (filter-append f xs ys))
      (either (f x))

  pub filter-snoc-yes : (f : A → Bool) (xs : List A) (x : A) → f x ≡ true → filter f (xs ++ (x ∷ [])) ≡ filter f xs ++ (x ∷ [])
  unfolding filter pick
  filter-snoc-yes f [] x e = rw e refl
  filter-snoc-yes f (y ∷ ys) x e =
      ⊎_elim
      (λ (t : f y ≡ true). rw t (ap (λ (l : List A). y ∷ l) (filter-snoc-yes f ys x e)))
      (λ (t : f y ≡ false). rw t (filter-snoc-yes f ys x e))
      (either (f y))

  pub filter-snoc-no : (f : A → Bool) (xs : List A) (x : A) → f x ≡ false → filter f (xs ++ (x ∷ [])) ≡ filter f xs
  unfolding filter pick
  filter-snoc-no f [] x e = rw e refl
  filter-snoc-no f (y ∷ ys) x e =
      ⊎_elim
      (λ (t : f y ≡ true). rw t (ap (λ (l : List A). y ∷ l) (filter-snoc-no f ys x e)))
      (λ (t : f y ≡ false). rw t (filter-snoc-no f ys x e))
      (either (f y))

  pub replicate-snoc : (m : ℕ) (z : A) → replicate m z ++ (z ∷ []) ≡ replicate (suc m) z
  replicate-snoc zero z = refl
  replicate-snoc (suc m) z = ap (λ (l : List A). z ∷ l) (replicate-snoc m z)

  pub drop_more : (a b : List A) (i : ℕ) → drop i a ≡ drop i b → drop (suc i) a ≡ drop (suc i) b
  drop_more a b i e =
      let s : i + 1 ≡ suc i = omega arith in
      rw (← s, ← drop-drop 1 i a, ← drop-drop 1 i b, e) refl

  -- two lists that agree from i on, or up to i, have the same element there
  pub read-from : (a b : List A) (i k : ℕ) (d : A) → drop i a ≡ drop i b → get_or a (i + k) d ≡ get_or b (i + k) d
  read-from a b i k d e = sym (get_or-drop i a k d) ∙ ap (λ (l : List A). get_or l k d) e ∙ get_or-drop i b k d

  -- the first u elements are the first p and those from p to u
  pub two_parts : (tab : List A) (p u : ℕ) → p ≤ u → take u tab ≡ take p tab ++ slice p u tab
  two_parts tab p u h = sym (take-append-drop p (take u tab)) ∙ rw (take-take p u tab h) refl

  -- a part as a slice of the code has it
  pub as_slice : (tab : List A) (p u : ℕ) → p ≤ u → take (u - p) (drop p tab) ≡ slice p u tab
  as_slice tab p u h =
      let e : p + (u - p) ≡ u = omega arith in
      sym (drop-take p (u - p) tab) ∙ ap (λ (j : ℕ). drop p (take j tab)) e

  pub slice_snoc : (tab : List A) (p i : ℕ) (d : A) → p ≤ i → i < length tab → slice p (suc i) tab ≡ slice p i tab ++ (get_or tab i d ∷ [])
  slice_snoc tab p i d h k =
      let fits : p ≤ length (take i tab) = omega (arith, length-take-le i tab (omega arith)) in
      rw (take-suc tab i d k) (drop-append-le p (take i tab) (get_or tab i d ∷ []) fits)

  pub take-drop-one : (l : List A) (i : ℕ) → take i (drop 1 l) ≡ drop 1 (take (suc i) l)
  take-drop-one [] zero = refl
  take-drop-one [] (suc i) = refl
  take-drop-one (x ∷ xs) i = refl
