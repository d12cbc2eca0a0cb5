-- A part of a list moved by one place. Assumes nothing.
use Prim.Native.Nat.{ℕ, suc, ◌+◌, ◌-◌, ◌≤◌, ◌<◌}
use mathlib.Core.Path.{◌≡◌, refl, sym, ap, ◌∙◌}
use mathlib.Core.List.{List, [], ◌∷◌, ◌++◌, append_assoc}
use native.Mathlib.Omega.{arith}
use native.Mathlib.Nat.{zero-add}
use native.Mathlib.Numerals.{add-one}
use lib.ListN.{length, take, drop, get_or, set, length-drop}
use lib.Seq.{slice, slice_empty, take-suc, drop-cons, set_at, drop-drop, drop-append-le, length-take-le}
use Rattle.std.specs.List.{copy_within}
use Rattle.port.proofs.places.Lists.{two_parts, take-drop-one, as_slice}

module _ {A : Type 0} where
  -- the elements behind the first, up to u, one place to the front, and z in the last place
  pub moved_down : (tab : List A) (p u : ℕ) (z : A) → 0 < p → p ≤ u → u ≤ length tab
      → set (copy_within tab 1 u 0) (u - 1) z ≡ drop 1 (take p tab) ++ (slice p u tab ++ (z ∷ drop u tab))
  moved_down tab p u z h k l =
      let n = u - 1 in
      let s : suc n ≡ u = omega arith in
      let size : length (take n (drop 1 tab)) ≡ n = length-take-le n (drop 1 tab) (omega (arith, length-drop 1 tab)) in
      let one : 1 ≤ length (take p tab) = omega (arith, length-take-le p tab (omega arith)) in
      let front : take n (drop 1 tab) ≡ drop 1 (take p tab) ++ slice p u tab =
      take-drop-one tab n ∙ ap (λ (j : ℕ). drop 1 (take j tab)) s ∙ ap (drop 1) (two_parts tab p u k) ∙ drop-append-le 1 (take p tab) (slice p u tab) one
      in
      ap (λ (j : ℕ). set (take n (drop 1 tab) ++ drop j tab) n z) (zero-add n)
      ∙ ap (λ (r : List A). set (take n (drop 1 tab) ++ r) n z) (drop-cons tab n z (omega arith))
      ∙ set_at (take n (drop 1 tab)) (get_or tab n z) (drop (suc n) tab) z n size
      ∙ rw (front, s) (append_assoc (drop 1 (take p tab)) (slice p u tab) (z ∷ drop u tab))

  module _ (tab : List A) (p u : ℕ) where
    -- the elements from p up to u one place to the back, and x in the place at p
    pub moved_up : (x : A) → p ≤ u → u < length tab
        → set (copy_within tab p u (p + 1)) p x ≡ (take p tab ++ (x ∷ [])) ++ (slice p u tab ++ drop 1 (drop u tab))
    moved_up x h k =
        let y = get_or tab p x in
        let front : take (p + 1) tab ≡ take p tab ++ (y ∷ []) = ap (λ (j : ℕ). take j tab) (add-one p) ∙ take-suc tab p x (omega arith) in
        let part : take (u - p) (drop p tab) ≡ slice p u tab = as_slice tab p u h in
        let b : (p + 1) + (u - p) ≡ u + 1 = omega arith in
        let back : drop ((p + 1) + (u - p)) tab ≡ drop 1 (drop u tab) = ap (λ (j : ℕ). drop j tab) b ∙ sym (drop-drop 1 u tab) in
        let rest = slice p u tab ++ drop 1 (drop u tab) in
        ap (λ (l : List A). set l p x)
        (rw (front, part, back) (append_assoc (take p tab ++ (y ∷ [])) (slice p u tab) (drop 1 (drop u tab)) ∙ append_assoc (take p tab) (y ∷ []) rest))
        ∙ set_at (take p tab) y rest x p (length-take-le p tab (omega arith))
        ∙ sym (append_assoc (take p tab) (x ∷ []) rest)

    -- what is put behind the part from p to u
    pub put-behind : (x : A) → p ≤ u
        → (take u tab ++ (x ∷ [])) ++ (slice u u tab ++ drop 1 (drop u tab)) ≡ take p tab ++ ((slice p u tab ++ (x ∷ [])) ++ drop 1 (drop u tab))
    put-behind x h =
        ap (λ (l : List A). (take u tab ++ (x ∷ [])) ++ (l ++ drop 1 (drop u tab))) (slice_empty u tab)
        ∙ ap (λ (l : List A). (l ++ (x ∷ [])) ++ drop 1 (drop u tab)) (two_parts tab p u h)
        ∙ rw (append_assoc (take p tab) (slice p u tab) (x ∷ []), append_assoc (take p tab) (slice p u tab ++ (x ∷ [])) (drop 1 (drop u tab))) refl
