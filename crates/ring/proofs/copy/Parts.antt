-- What the two copies of the code leave, as `put` and `front` say it, in a ring that is a whole list and in one that is the first C entries of a
-- list. k is the length of the first part, up to the ring's end; where the end is not passed the second part is empty. Assumes nothing.
use Prim.Native.Nat.{ℕ, ◌+◌, ◌-◌, ◌≤◌, ◌<◌, min}
use mathlib.Core.Path.{◌≡◌, refl, sym, ap, ◌∙◌}
use mathlib.Core.List.{List, ◌++◌, append_assoc, append-nil}
use native.Mathlib.Omega.{arith}
use native.Mathlib.Nat.{zero-add}
use lib.ListN.{length, take, drop, length-take, length-append, length-drop, take-append-drop}
use lib.Seq.{paste, length-paste, take_all, take-length, drop-length, take-take, take-append-le, drop-append-le}
use Rattle.definition.specs.Ring.{front, put}
use Rattle.ring.proofs.copy.Lists.{copied_part, paste_part, paste-both, take_part}
use Rattle.ring.proofs.copy.Laws.{fits_facts, length_front, put-take}

-- ---- in a whole list

-- a copy over a whole list
paste_whole : {A : Type 0} (l xs : List A) → length xs ≡ length l → paste l 0 xs (length xs) ≡ xs
paste_whole l xs e = rw (take-length, e, zero-add, drop-length) (append-nil xs)

-- a copy into each part of the ring: y is the part from `at` on after the first copy, and z the ring after the second
pub put_parts : {A : Type 0} (at k : ℕ) (xs ring y z : List A) → at < length ring → length xs ≤ length ring → k ≡ min (length xs) (length ring - at)
    → y ≡ paste (take (length ring - at) (drop at ring)) 0 (take k xs) (length (take k xs))
    → z
    ≡ paste (take at ring ++ (y ++ drop (length ring - at) (drop at ring))) 0 (take (length xs - k) (drop k xs)) (length (take (length xs - k) (drop k xs)))
    → z ≡ put (length ring) at (length xs) xs ring
unfolding put
put_parts {A} at k xs ring y z low room e f g =
    let us : List A = take k xs in
    let vs : List A = take (length xs - k) (drop k xs) in
    let rest : length xs - (length ring - at) ≡ length xs - k = omega arith in
    let first : take at ring ++ (y ++ drop (length ring - at) (drop at ring)) ≡ paste ring at xs k
    = copied_part ring us y at (length ring - at) (length us) (simp length-take (omega arith)) (omega arith) f ∙ paste_part ring at xs 0 k (omega arith) in
    g
    ∙ ap (λ (r : List A). paste r 0 vs (length vs)) first
    ∙ paste_part (paste ring at xs k) 0 xs k (length xs - k) (omega arith)
    ∙ rw (rest, ← e) refl

-- a copy out of each part of the ring: y is dst after the first copy, and z the part of it from k on after the second
pub get_parts : {A : Type 0} (s k : ℕ) (ring dst y z : List A) → s < length ring → length dst ≤ length ring → k ≡ min (length dst) (length ring - s)
    → y ≡ paste dst 0 (take (s + k - s) (drop s ring)) (length (take (s + k - s) (drop s ring)))
    → z ≡ paste (take (length y - k) (drop k y)) 0 (take (length dst - k) ring) (length (take (length dst - k) ring))
    → take k y ++ (z ++ drop (length y - k) (drop k y)) ≡ front (length ring) s (length dst) ring
unfolding front
get_parts {A} s k ring dst y z low room e f g =
    let us : List A = take (s + k - s) (drop s ring) in
    let vs : List A = take (length dst - k) ring in
    let lu : length us ≡ k = simp (length-take, length-drop) (omega arith) in
    let lv : length vs ≡ length dst - k = simp length-take (omega arith) in
    let same : length y ≡ length dst = ap length f ∙ length-paste dst 0 us (length us) (omega (arith, lu)) (omega arith) in
    let first : s + k - s ≡ k = omega arith in
    let rest : length dst - (length ring - s) ≡ length dst - k = omega arith in
    copied_part y vs z k (length y - k) (length vs) (omega (arith, lv, same)) (omega (arith, same)) g
    ∙ ap (λ (r : List A). paste r k vs (length vs)) f
    ∙ ap (λ (j : ℕ). paste (paste dst 0 us (length us)) j vs (length vs)) (sym lu)
    ∙ paste-both dst us vs
    ∙ paste_whole dst (us ++ vs) (length-append us vs ∙ omega (arith, lu, lv))
    ∙ rw (first, rest, ← e) refl

-- ---- in the first entries of a list

-- entries put before what stands behind
paste-append : {A : Type 0} (a b : List A) (at : ℕ) (xs : List A) (n : ℕ) → at + n ≤ length a → paste (a ++ b) at xs n ≡ paste a at xs n ++ b
paste-append a b at xs n h =
    rw (take-append-le at a b (omega arith), drop-append-le (at + n) a b h) (sym (append_assoc (take at a ++ take n xs) (drop (at + n) a) b))

put-append : {A : Type 0} (C at n : ℕ) (xs a b : List A) → at < C → n ≤ C → C ≤ length a → n ≤ length xs → put C at n xs a ++ b ≡ put C at n xs (a ++ b)
unfolding put
put-append {A} C at n xs a b low room long has =
    let k : ℕ = min n (C - at) in
    let l : length (paste a at xs k) ≡ length a = length-paste a at xs k (omega arith) (omega arith) in
    sym (paste-append (paste a at xs k) b 0 (drop k xs) (n - (C - at)) (omega (arith, l)))
    ∙ ap (λ (r : List A). paste r 0 (drop k xs) (n - (C - at))) (sym (paste-append a b at xs k (omega arith)))

module _ {A : Type 0} (C s n : ℕ) (ring : List A) (low : s < C) (room : n ≤ C) (long : C ≤ length ring) where
  whole : length (take C ring) ≡ C
  whole = simp length-take (omega arith)

  -- y is the ring after the first n of xs are put into it
  pub put_within : (xs y : List A) → n ≤ length xs → y ≡ put (length (take C ring)) s (length (take n xs)) (take n xs) (take C ring)
      → y ++ drop C ring ≡ put C s n xs ring
  put_within xs y has e =
      let l : length (take n xs) ≡ n = simp length-take (omega arith) in
      ap (λ (r : List A). r ++ drop C ring) (e ∙ rw (whole, l) (put-take C s n xs (take C ring) has))
      ∙ put-append C s n xs (take C ring) (drop C ring) low room (omega (arith, whole)) has
      ∙ ap (put C s n xs) (take-append-drop C ring)

  front_within : front C s n (take C ring) ≡ front C s n ring
  unfolding front
  front_within = rw (take_part (min n (C - s)) s C ring (omega arith) long, take-take (n - (C - s)) C ring (omega arith)) refl

  -- y is the first n of dst after the copy
  pub get_within : (dst y : List A) → n ≤ length dst → y ≡ front (length (take C ring)) s (length (take n dst)) (take C ring)
      → y ++ drop n dst ≡ paste dst 0 (front C s n ring) n
  get_within dst y has e =
      let l : length (take n dst) ≡ n = simp length-take (omega arith) in
      let f : y ≡ front C s n ring = e ∙ rw (whole, l) front_within in
      let all : take n (front C s n ring) ≡ front C s n ring = take_all n (front C s n ring) (omega (arith, length_front C s n ring low room long)) in
      rw (f, all, zero-add) refl

pub ruleset fitting = (fits_facts, length-take)
