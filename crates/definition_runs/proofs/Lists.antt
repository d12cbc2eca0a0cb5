-- Facts of lists, of lines and of their origins. Assumes nothing.
use Prim.Native.Nat.{ℕ, zero, suc, ◌+◌, ◌≤◌, ◌<◌}
use mathlib.Core.Path.{◌≡◌, refl, sym, ap, ◌∙◌}
use mathlib.Core.List.{List, [], ◌∷◌, ◌++◌, map, append-nil, append_assoc}
use mathlib.Core.Option.{Option, some}
use native.Mathlib.Omega.{arith}
use native.Mathlib.Nat.{not-suc-le-zero, le_of_suc-le-suc}
use lib.ListN.{length, get_or, take, drop, length-append, get_elem?}
use lib.Seq.{drop-cons}
use Rattle.definition_runs.specs.TwoRuns.{Origin, origins, OriginLine, flat}

-- ---- lists

pub map-append : {A B : Type 0} (f : A → B) (xs ys : List A) → map f (xs ++ ys) ≡ map f xs ++ map f ys
map-append f [] ys = refl
map-append f (x ∷ xs) ys = ap (λ l. f x ∷ l) (map-append f xs ys)

pub map-drop : {A B : Type 0} (f : A → B) (n : ℕ) (xs : List A) → drop n (map f xs) ≡ map f (drop n xs)
map-drop f zero xs = refl
map-drop f (suc n) [] = refl
map-drop f (suc n) (x ∷ xs) = map-drop f n xs

pub map-take : {A B : Type 0} (f : A → B) (n : ℕ) (xs : List A) → take n (map f xs) ≡ map f (take n xs)
map-take f zero xs = refl
map-take f (suc n) [] = refl
map-take f (suc n) (x ∷ xs) = ap (λ l. f x ∷ l) (map-take f n xs)

pub cons_path : {A : Type 0} {x y : A} {xs ys : List A} → x ≡ y → xs ≡ ys → x ∷ xs ≡ y ∷ ys
cons_path p q = λ i. p i ∷ q i

slice_get_some : (xs : List ℕ) (o : ℕ) → o < length xs → get_elem? xs o ≡ some (get_or xs o 0)
slice_get_some [] o h = absurd (not-suc-le-zero h)
slice_get_some (x ∷ xs) zero h = refl
slice_get_some (x ∷ xs) (suc o) h = slice_get_some xs o (le_of_suc-le-suc h)

-- ---- lines

pub flat-snoc : (g : OriginLine) (o : List Origin) → flat (g ++ (o ∷ [])) ≡ flat g ++ o
unfolding flat
flat-snoc [] o = append-nil o
flat-snoc (x ∷ g) o = ap (λ l. x ++ l) (flat-snoc g o) ∙ sym (append_assoc x (flat g) o)

pub length-origins : (w o m : ℕ) → length (origins w o m) ≡ m
unfolding origins
length-origins w o zero = refl
length-origins w o (suc m) = ap suc (length-origins w (suc o) m)

-- the origins of a write stand for the bytes that it moved
pub origin_bytes : (f : Origin → Option ℕ) (w : ℕ) (xs : List ℕ) → ((o : ℕ) → f (record { call = w; offset = o }) ≡ get_elem? xs o)
    → (o m : ℕ) → o + m ≤ length xs → map f (origins w o m) ≡ map some (take m (drop o xs))
unfolding origins
origin_bytes f w xs at o zero h = refl
origin_bytes f w xs at o (suc m) h =
    rw (drop-cons xs o 0 (omega arith))
    (ap (λ (l : List (Option ℕ)). f (record { call = w; offset = o }) ∷ l) (origin_bytes f w xs at (suc o) m (omega arith))
    ∙ ap (λ (b : Option ℕ). b ∷ map some (take m (drop (suc o) xs))) (at o ∙ slice_get_some xs o (omega arith)))

-- every group has an origin
pub data Full : OriginLine → Type 0 where
  full_none : Full []
  full_more : {x : List Origin} {g : OriginLine} → 0 < length x → Full g → Full (x ∷ g)

pub full_snoc : {g : OriginLine} (x : List Origin) → Full g → 0 < length x → Full (g ++ (x ∷ []))
full_snoc x full_none h = full_more h full_none
full_snoc x (full_more k fs) h = full_more k (full_snoc x fs h)

pub full_drop : {g : OriginLine} → Full g → Full (drop 1 g)
full_drop full_none = full_none
full_drop (full_more k fs) = fs

-- so there are no more groups than origins
pub full_length : {g : OriginLine} → Full g → length g ≤ length (flat g)
unfolding flat
full_length full_none = omega arith
full_length (full_more {x} {g} k fs) = omega (arith, full_length fs, length-append x (flat g))

-- the length of the first group, 0 where there is none
unfoldable pub head_length : OriginLine → ℕ
head_length [] = 0
head_length (x ∷ g) = length x
