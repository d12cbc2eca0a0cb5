-- Laws of a ring of capacity C, over any element: where places lie, what stands at the places of `front` and `put`, and what a queue in the
-- ring becomes when entries are put at its back or leave at its front. Assumes nothing.
use Prim.Native.Nat.{ℕ, suc, ◌+◌, ◌-◌, ◌≤◌, ◌<◌, min}
use mathlib.Core.Path.{◌≡◌, refl, sym, ap, ◌∙◌}
use mathlib.Core.Bool.{true}
use mathlib.Core.List.{List, [], ◌∷◌, ◌++◌, append_assoc}
use native.Mathlib.Omega.{arith}
use native.Mathlib.Nat.{zero-sub, zero-min}
use native.Mathlib.Numerals.{add-one}
use lib.Dec.{ltb, leb, lit≤}
use lib.ListN.{length, get_or, take, drop, set, length-append, length-take, length-drop, get_or-append}
use lib.Seq.{paste, paste-zero, length-paste, get_or-take, get_or-drop, take-take, set_split}
use borrow.Author.Tests.{lt-ltb, le-leb, ltb-true, leb-true}
use Rattle.definition.specs.Status.{pick, ◌and◌}
use Rattle.definition.specs.Ring.{position, front, put}
use Rattle.endpoint.proofs.answer.Chains.{both}
use Rattle.ring.proofs.place.Laws.{place_low, place_high}
use Rattle.ring.specs.copy.Copies.{ring_fits, copied_in, copied_out}
use Rattle.ring.proofs.copy.Lists.{split, ext, get_or-right, take_part, paste-before, paste_in, paste-after}

-- ---- places

pub place-lt : (C s k : ℕ) → s < C → k ≤ C → position C s k < C
place-lt C s k low turn = split (C - s) k (λ h. omega (arith, place_high C s k h)) (λ h. omega (arith, place_low C s k h))

pub place-zero : (C s : ℕ) → s < C → position C s 0 ≡ s
place-zero C s low = omega (arith, place_low C s 0 (omega arith))

pub place_turn : (C s : ℕ) → s < C → position C s C ≡ s
place_turn C s low = omega (arith, place_high C s C (omega arith))

-- k past the place that is n past s
pub place-place : (C s n k : ℕ) → s < C → n + k ≤ C → position C (position C s n) k ≡ position C s (n + k)
place-place C s n k low turn =
    split (C - s) n
    (λ h.
    let e : position C s n ≡ n - (C - s) = place_high C s n h in
    omega (arith, place_low C (position C s n) k (omega arith), place_high C s (n + k) (omega arith)))
    (λ h.
    let e : position C s n ≡ s + n = place_low C s n h in
    split (C - s) (n + k)
    (λ g. omega (arith, place_high C (position C s n) k (omega arith), place_high C s (n + k) g))
    (λ g. omega (arith, place_low C (position C s n) k (omega arith), place_low C s (n + k) g)))

-- a place of the queue, counted round the ring from the place behind the queue
place_round : (C s q i : ℕ) → s < C → q ≤ C → i < q → position C s i ≡ position C (position C s q) (C - q + i)
place_round C s q i low room h =
    split (C - s) q
    (λ g.
    let e : position C s q ≡ q - (C - s) = place_high C s q g in
    split (C - s) i
    (λ f. omega (arith, place_high C s i f, place_high C (position C s q) (C - q + i) (omega arith)))
    (λ f. omega (arith, place_low C s i f, place_low C (position C s q) (C - q + i) (omega arith))))
    (λ g.
    let e : position C s q ≡ s + q = place_low C s q g in
    omega (arith, place_low C s i (omega arith), place_high C (position C s q) (C - q + i) (omega arith)))

-- ---- the entries from a place on

module _ {A : Type 0} (C s n : ℕ) (ring : List A) (low : s < C) (room : n ≤ C) (long : C ≤ length ring) where
  left-length : length (take (min n (C - s)) (drop s ring)) ≡ min n (C - s)
  left-length = simp (length-take, length-drop) (omega arith)

  pub length_front : length (front C s n ring) ≡ n
  unfolding front
  length_front = simp (length-append, length-take, length-drop) (omega arith)

  pub front_at : (i : ℕ) (d : A) → i < n → get_or (front C s n ring) i d ≡ get_or ring (position C s i) d
  unfolding front
  front_at i d h =
      split (C - s) i
      (λ g.
      get_or-right (take (min n (C - s)) (drop s ring)) (take (n - (C - s)) ring) i d (omega (arith, left-length))
      ∙ get_or-take (n - (C - s)) ring (i - length (take (min n (C - s)) (drop s ring))) d (omega (arith, left-length))
      ∙ ap (λ (j : ℕ). get_or ring j d)
      (let e : i - length (take (min n (C - s)) (drop s ring)) ≡ position C s i = omega (arith, left-length, place_high C s i g) in e))
      (λ g.
      get_or-append (take (min n (C - s)) (drop s ring)) (take (n - (C - s)) ring) d i (omega (arith, left-length))
      ∙ get_or-take (min n (C - s)) (drop s ring) i d (omega arith)
      ∙ get_or-drop s ring i d
      ∙ ap (λ (j : ℕ). get_or ring j d) (sym (place_low C s i g)))

pub front-first : {A : Type 0} (C s n : ℕ) (ring : List A) (d : A) → 0 < n → n ≤ C → s < C → C ≤ length ring → get_or (front C s n ring) 0 d ≡ get_or ring s d
front-first C s n ring d some room low long =
    front_at C s n ring low room long 0 d some ∙ ap (λ (j : ℕ). get_or ring j d) (place-zero C s low)

pub front-none : {A : Type 0} (C s : ℕ) (ring : List A) → front C s 0 ring ≡ []
unfolding front
front-none C s ring = simp (zero-sub, zero-min)

-- ---- the ring after a put

module _ {A : Type 0} (C at n : ℕ) (xs ring : List A) (low : at < C) (room : n ≤ C) (has : n ≤ length xs) (long : C ≤ length ring) where
  -- the ring after the first part, and what is left of xs
  first : List A
  first = paste ring at xs (min n (C - at))

  first_length_lem : length first ≡ length ring
  unfolding first
  first_length_lem = length-paste ring at xs (min n (C - at)) (omega arith) (omega arith)

  rest_has : n - (C - at) ≤ length (drop (min n (C - at)) xs)
  rest_has = simp length-drop (omega arith)

  pub length-put : length (put C at n xs ring) ≡ length ring
  unfolding put first
  length-put = length-paste first 0 (drop (min n (C - at)) xs) (n - (C - at)) (omega (arith, first_length_lem)) rest_has ∙ first_length_lem

  module _ (d : A) where
    -- an entry that the second part does not reach
    from_first : (i : ℕ) → n - (C - at) ≤ i → get_or (put C at n xs ring) i d ≡ get_or first i d
    unfolding put first
    from_first i h = paste-after first 0 (drop (min n (C - at)) xs) (n - (C - at)) (omega (arith, first_length_lem)) rest_has d i (omega arith)

    pub put_inside : (j : ℕ) → j < n → get_or (put C at n xs ring) (position C at j) d ≡ get_or xs j d
    unfolding put first
    put_inside j h =
        split (C - at) j
        (λ g.
        ap (λ (p : ℕ). get_or (put C at n xs ring) p d) (let e : position C at j ≡ 0 + (j - (C - at)) = omega (arith, place_high C at j g) in e)
        ∙ paste_in first 0 (drop (min n (C - at)) xs) (n - (C - at)) (omega (arith, first_length_lem)) rest_has d (j - (C - at)) (omega arith)
        ∙ get_or-drop (min n (C - at)) xs (j - (C - at)) d
        ∙ ap (λ (p : ℕ). get_or xs p d) (let e : min n (C - at) + (j - (C - at)) ≡ j = omega arith in e))
        (λ g.
        ap (λ (p : ℕ). get_or (put C at n xs ring) p d) (place_low C at j g)
        ∙ from_first (at + j) (omega arith)
        ∙ paste_in ring at xs (min n (C - at)) (omega arith) (omega arith) d j (omega arith))

    pub put_outside : (j : ℕ) → n ≤ j → j < C → get_or (put C at n xs ring) (position C at j) d ≡ get_or ring (position C at j) d
    unfolding first
    put_outside j h turn =
        split (C - at) j
        (λ g.
        let e : position C at j ≡ j - (C - at) = place_high C at j g in
        from_first (position C at j) (omega arith)
        ∙ paste-before ring at xs (min n (C - at)) (omega arith) (omega arith) d (position C at j) (omega arith))
        (λ g.
        let e : position C at j ≡ at + j = place_low C at j g in
        from_first (position C at j) (omega arith)
        ∙ paste-after ring at xs (min n (C - at)) (omega arith) (omega arith) d (position C at j) (omega arith))

    pub put-past : (i : ℕ) → C ≤ i → get_or (put C at n xs ring) i d ≡ get_or ring i d
    unfolding first
    put-past i h =
        from_first i (omega arith) ∙ paste-after ring at xs (min n (C - at)) (omega arith) (omega arith) d i (omega arith)

pub put-none : {A : Type 0} (C at : ℕ) (xs ring : List A) → put C at 0 xs ring ≡ ring
unfolding put
put-none C at xs ring = simp (zero-sub, zero-min) (sym (paste-zero (paste ring at xs 0) 0 (drop 0 xs)) ∙ sym (paste-zero ring at xs))

-- of xs, only the first n entries matter to a put of n
pub put-take : {A : Type 0} (C at n : ℕ) (xs ring : List A) → n ≤ length xs → put C at n (take n xs) ring ≡ put C at n xs ring
unfolding put
put-take C at n xs ring has =
    rw (take-take (min n (C - at)) n xs (omega arith), take_part (n - (C - at)) (min n (C - at)) n xs (omega arith) has) refl

-- one entry is put by a store
pub put_one : {A : Type 0} (C at : ℕ) (v : A) (ring : List A) → at < C → C ≤ length ring → put C at 1 (v ∷ []) ring ≡ set ring at v
unfolding put
put_one {A} C at v ring low long =
    let a : min 1 (C - at) ≡ 1 = omega arith in
    let b : 1 - (C - at) ≡ 0 = omega arith in
    rw (a, b)
    (sym (paste-zero (paste ring at (v ∷ []) 1) 0 (drop 1 (v ∷ [])))
    ∙ ap (λ (k : ℕ). take at ring ++ (v ∷ []) ++ drop k ring) (add-one at)
    ∙ append_assoc (take at ring) (v ∷ []) (drop (suc at) ring)
    ∙ sym (set_split ring at v (omega arith)))

-- ---- the queue of q entries from the place s on

-- entries that are put behind the queue are at its back, and the queue before them is unchanged
pub front-put : {A : Type 0} (C s q n : ℕ) (xs ring : List A) → s < C → q + n ≤ C → C ≤ length ring → n ≤ length xs
    → front C s (q + n) (put C (position C s q) n xs ring) ≡ front C s q ring ++ take n xs
front-put {A} C s q n xs ring low room long has =
    let at : ℕ = position C s q in
    let at_low : at < C = place-lt C s q low (omega arith) in
    let next : List A = put C at n xs ring in
    let long' : C ≤ length next = omega (arith, length-put C at n xs ring at_low (omega arith) has long) in
    let all : length (front C s (q + n) next) ≡ q + n = length_front C s (q + n) next low room long' in
    let old : length (front C s q ring) ≡ q = length_front C s q ring low (omega arith) long in
    ext (front C s (q + n) next) (front C s q ring ++ take n xs)
    (simp (all, length-append, old, length-take) (omega arith))
    (λ d i h.
    front_at C s (q + n) next low room long' i d (omega arith)
    ∙ split q i
    (λ g.
    ap (λ (p : ℕ). get_or next p d)
    (ap (position C s) (let e : i ≡ q + (i - q) = omega arith in e) ∙ sym (place-place C s q (i - q) low (omega arith)))
    ∙ put_inside C at n xs ring at_low (omega arith) has long d (i - q) (omega arith)
    ∙ sym
    (get_or-right (front C s q ring) (take n xs) i d (omega arith)
    ∙ get_or-take n xs (i - length (front C s q ring)) d (omega arith)
    ∙ ap (λ (p : ℕ). get_or xs (i - p) d) old))
    (λ g.
    let e : position C s i ≡ position C at (C - q + i) = place_round C s q i low (omega arith) g in
    ap (λ (p : ℕ). get_or next p d) e
    ∙ put_outside C at n xs ring at_low (omega arith) has long d (C - q + i) (omega arith) (omega arith)
    ∙ ap (λ (p : ℕ). get_or ring p d) (sym e)
    ∙ sym (front_at C s q ring low (omega arith) long i d g)
    ∙ sym (get_or-append (front C s q ring) (take n xs) d i (omega arith))))

-- the same for one entry that is stored behind the queue
pub front-set : {A : Type 0} (C s q : ℕ) (v : A) (ring : List A) → s < C → q < C → C ≤ length ring
    → front C s (q + 1) (set ring (position C s q) v) ≡ front C s q ring ++ (v ∷ [])
front-set C s q v ring low room long =
    ap (front C s (q + 1)) (sym (put_one C (position C s q) v ring (place-lt C s q low (omega arith)) long))
    ∙ front-put C s q 1 (v ∷ []) ring low (omega arith) long (lit≤ tt)

-- the first k of the queue
pub take-front : {A : Type 0} (C s q k : ℕ) (ring : List A) → k ≤ q → q ≤ C → s < C → C ≤ length ring → take k (front C s q ring) ≡ front C s k ring
take-front C s q k ring h room low long =
    let old : length (front C s q ring) ≡ q = length_front C s q ring low room long in
    let new : length (front C s k ring) ≡ k = length_front C s k ring low (omega arith) long in
    ext (take k (front C s q ring)) (front C s k ring)
    (simp (new, length-take, old) (omega arith))
    (λ d i g.
    let l : i < k = omega (arith, length-take k (front C s q ring)) in
    get_or-take k (front C s q ring) i d l
    ∙ front_at C s q ring low room long i d (omega arith)
    ∙ sym (front_at C s k ring low (omega arith) long i d l))

-- the queue without its first k
pub drop-front : {A : Type 0} (C s q k : ℕ) (ring : List A) → k ≤ q → q ≤ C → s < C → C ≤ length ring
    → drop k (front C s q ring) ≡ front C (position C s k) (q - k) ring
drop-front C s q k ring h room low long =
    let low' : position C s k < C = place-lt C s k low (omega arith) in
    let old : length (front C s q ring) ≡ q = length_front C s q ring low room long in
    let new : length (front C (position C s k) (q - k) ring) ≡ q - k = length_front C (position C s k) (q - k) ring low' (omega arith) long in
    ext (drop k (front C s q ring)) (front C (position C s k) (q - k) ring)
    (simp (new, length-drop, old))
    (λ d i g.
    let l : i < q - k = omega (arith, length-drop k (front C s q ring)) in
    get_or-drop k (front C s q ring) i d
    ∙ front_at C s q ring low room long (k + i) d (omega arith)
    ∙ ap (λ (p : ℕ). get_or ring p d) (sym (place-place C s k i low (omega arith)))
    ∙ sym (front_at C (position C s k) (q - k) ring low' (omega arith) long i d l))

-- ---- copies that fit

pub copied_in_lem : {A : Type 0} (C at n : ℕ) (xs ring : List A) → at < C → n ≤ C → C ≤ length ring → n ≤ length xs → copied_in C at n xs ring ≡ put C at n xs ring
unfolding copied_in ring_fits pick ◌and◌
copied_in_lem C at n xs ring low room long has = simp (lt-ltb at C low, le-leb n C room, le-leb C (length ring) long, le-leb n (length xs) has)

pub copied_out_lem : {A : Type 0} (C start n : ℕ) (ring dst : List A) → start < C → n ≤ C → C ≤ length ring → n ≤ length dst
    → copied_out C start n ring dst ≡ paste dst 0 (front C start n ring) n
unfolding copied_out ring_fits pick ◌and◌
copied_out_lem C start n ring dst low room long has = simp (lt-ltb start C low, le-leb n C room, le-leb C (length ring) long, le-leb n (length dst) has)

-- what it says that entries fit

pub fits_facts : (C at n size : ℕ) → ring_fits C at n size ≡ true → (at < C) × (n ≤ C) × (C ≤ size)
unfolding ring_fits
fits_facts C at n size e =
    let first = both (ltb at C) (leb n C and leb C size) e in
    let rest = both (leb n C) (leb C size) first.1 in
    (ltb-true at C first.0, leb-true n C rest.0, leb-true C size rest.1)
