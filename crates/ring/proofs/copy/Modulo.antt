-- The copies with the remainder at every entry are the copies in two parts, for every start below C, every length up to C and every ring of at
-- least C entries. Each copy of one entry more is one step of either. 02 (ii). Assumes nothing.
use Prim.Native.Nat.{ℕ, zero, suc, ◌+◌, ◌-◌, ◌%◌, ◌≤◌, ◌<◌, min}
use mathlib.Core.Path.{◌≡◌, refl, sym, ap, ◌∙◌}
use mathlib.Core.List.{List, [], ◌∷◌, ◌++◌}
use native.Mathlib.Omega.{arith}
use native.Mathlib.Nat.{mod-eq_of_lt, mod_self, mod-add-mod, zero-add}
use lib.ListN.{length, get_or, drop, set, length-append, length-drop, length-set, get_or-append}
use lib.Seq.{paste, paste-zero, paste-suc, length-paste, take_all, take-suc, get_or-drop, get_or_at}
use borrow.Author.Tests.{eq-eqb, ne_eqb}
use Rattle.definition.specs.Status.{pick}
use Rattle.definition.specs.Ring.{position, front, put, front_modulo, put_modulo, next_position}
use Rattle.ring.proofs.place.Laws.{place_low, place_high}
use Rattle.ring.proofs.copy.Lists.{split}
use Rattle.ring.proofs.copy.Laws.{place-lt, front-none, front_at, length_front, take-front, put-none, put_inside, put_outside, put-past}

-- ---- places

-- a place is a remainder
pub place_modulo : (C s k : ℕ) → s < C → k ≤ C → position C s k ≡ (s + k) % C
place_modulo C s k low turn =
    split (C - s) k
    (λ h.
    place_high C s k h
    ∙ sym (ap (λ (x : ℕ). x % C) (let e : s + k ≡ C + (k - (C - s)) = omega arith in e)
    ∙ sym (mod-add-mod C C (k - (C - s)))
    ∙ ap (λ (x : ℕ). (x + (k - (C - s))) % C) (mod_self C)
    ∙ ap (λ (x : ℕ). x % C) (zero-add (k - (C - s)))
    ∙ mod-eq_of_lt (omega arith)))
    (λ h. place_low C s k h ∙ sym (mod-eq_of_lt (omega arith)))

next_low : (C i : ℕ) → i + 1 < C → next_position C i ≡ i + 1
unfolding next_position pick
next_low C i h = simp (ne_eqb (i + 1) C (λ e. omega (arith, e)))

next-end : (C i : ℕ) → i + 1 ≡ C → next_position C i ≡ 0
unfolding next_position pick
next-end C i e = simp (eq-eqb (i + 1) C e)

-- and a running value: one step on is one more, and 0 at C
pub place-next : (C s k : ℕ) → s < C → k < C → position C s (k + 1) ≡ next_position C (position C s k)
place-next C s k low turn =
    split (C - s) k
    (λ h.
    let e : position C s k ≡ k - (C - s) = place_high C s k h in
    omega (arith, place_high C s (k + 1) (omega arith), next_low C (position C s k) (omega arith)))
    (λ h.
    let e : position C s k ≡ s + k = place_low C s k h in
    split (C - s) (k + 1)
    (λ g. omega (arith, place_high C s (k + 1) g, next-end C (position C s k) (omega arith)))
    (λ g. omega (arith, place_low C s (k + 1) g, next_low C (position C s k) (omega arith))))

-- ---- out of the ring

-- one entry more from the place s on
front-more : (C s n : ℕ) (ring : List ℕ) → s < C → suc n ≤ C → C ≤ length ring
    → front C s (suc n) ring ≡ front C s n ring ++ (get_or ring (position C s n) 0 ∷ [])
front-more C s n ring low room long =
    let all : length (front C s (suc n) ring) ≡ suc n = length_front C s (suc n) ring low room long in
    sym (take_all (suc n) (front C s (suc n) ring) (omega (arith, all)))
    ∙ take-suc (front C s (suc n) ring) n 0 (omega (arith, all))
    ∙ ap (λ (x : List ℕ). x ++ (get_or (front C s (suc n) ring) n 0 ∷ [])) (take-front C s (suc n) n ring (omega arith) room low long)
    ∙ ap (λ (x : ℕ). front C s n ring ++ (x ∷ [])) (front_at C s (suc n) ring low room long n 0 (omega arith))

pub front_modulo_lem : (C s n : ℕ) (ring : List ℕ) → s < C → n ≤ C → C ≤ length ring → front C s n ring ≡ front_modulo C s n ring
unfolding front_modulo
front_modulo_lem C s zero ring low room long = front-none C s ring
front_modulo_lem C s (suc n) ring low room long =
    front-more C s n ring low room long
    ∙ ap (λ (x : List ℕ). x ++ (get_or ring (position C s n) 0 ∷ [])) (front_modulo_lem C s n ring low (omega arith) long)
    ∙ ap (λ (i : ℕ). front_modulo C s n ring ++ (get_or ring i 0 ∷ [])) (place_modulo C s n low (omega arith))

-- ---- into the ring

-- k of the n entries go up to the ring's end, r from its start on
put_is : (C at n k r : ℕ) (xs ring : List ℕ) → min n (C - at) ≡ k → n - (C - at) ≡ r → put C at n xs ring ≡ paste (paste ring at xs k) 0 (drop k xs) r
unfolding put
put_is C at n k r xs ring e f = rw (e, f) refl

-- one entry more from the place `at` on
put-more : (C at n : ℕ) (xs ring : List ℕ) → at < C → suc n ≤ C → C ≤ length ring → suc n ≤ length xs
    → put C at (suc n) xs ring ≡ set (put C at n xs ring) (position C at n) (get_or xs n 0)
put-more C at n xs ring low room long has =
    split (C - at) n
    (λ h.
    let k : ℕ = C - at in
    let j : ℕ = n - k in
    let first : List ℕ = paste ring at xs k in
    let rest : List ℕ = drop k xs in
    let size : length first ≡ length ring = length-paste ring at xs k (omega arith) (omega arith) in
    let left : length rest ≡ length xs - k = length-drop k xs in
    put_is C at (suc n) k (suc j) xs ring (omega arith) (omega arith)
    ∙ sym (paste-suc first 0 rest j 0 (omega (arith, size)) (omega (arith, left)))
    ∙ ap (λ (v : ℕ). set (paste first 0 rest j) (0 + j) v) (get_or-drop k xs j 0 ∙ ap (λ (i : ℕ). get_or xs i 0) (let e : k + j ≡ n = omega arith in e))
    ∙ ap (λ (i : ℕ). set (paste first 0 rest j) i (get_or xs n 0)) (let e : 0 + j ≡ position C at n = omega (arith, place_high C at n h) in e)
    ∙ ap (λ (l : List ℕ). set l (position C at n) (get_or xs n 0)) (sym (put_is C at n k j xs ring (omega arith) refl)))
    (λ h.
    put_is C at (suc n) (suc n) 0 xs ring (omega arith) (omega arith)
    ∙ sym (paste-zero (paste ring at xs (suc n)) 0 (drop (suc n) xs))
    ∙ sym (paste-suc ring at xs n 0 (omega arith) (omega arith))
    ∙ ap (λ (i : ℕ). set (paste ring at xs n) i (get_or xs n 0)) (sym (place_low C at n h))
    ∙ ap (λ (l : List ℕ). set l (position C at n) (get_or xs n 0))
    (paste-zero (paste ring at xs n) 0 (drop n xs) ∙ sym (put_is C at n n 0 xs ring (omega arith) (omega arith))))

pub put_modulo_lem : (C at n : ℕ) (xs ring : List ℕ) → at < C → n ≤ C → C ≤ length ring → n ≤ length xs → put C at n xs ring ≡ put_modulo C at n xs ring
unfolding put_modulo
put_modulo_lem C at zero xs ring low room long has = put-none C at xs ring
put_modulo_lem C at (suc n) xs ring low room long has =
    put-more C at n xs ring low room long has
    ∙ ap (λ (l : List ℕ). set l (position C at n) (get_or xs n 0)) (put_modulo_lem C at n xs ring low (omega arith) long (omega arith))
    ∙ ap (λ (i : ℕ). set (put_modulo C at n xs ring) i (get_or xs n 0)) (place_modulo C at n low (omega arith))

-- ---- entry by entry

pub modulo_count : (C s n : ℕ) (ring : List ℕ) → length (front_modulo C s n ring) ≡ n
unfolding front_modulo
modulo_count C s zero ring = refl
modulo_count C s (suc n) ring = length-append (front_modulo C s n ring) (get_or ring ((s + n) % C) 0 ∷ []) ∙ omega (arith, modulo_count C s n ring)

pub modulo_out : (C s n k : ℕ) (ring : List ℕ) → k < n → get_or (front_modulo C s n ring) k 0 ≡ get_or ring ((s + k) % C) 0
unfolding front_modulo
modulo_out C s zero k ring h = absurd (omega arith)
modulo_out C s (suc n) k ring h =
    split n k
    (λ g.
    let e : k ≡ n = omega arith in
    rw e (get_or_at (front_modulo C s n ring) (get_or ring ((s + n) % C) 0) [] 0 n (modulo_count C s n ring)))
    (λ g.
    get_or-append (front_modulo C s n ring) (get_or ring ((s + n) % C) 0 ∷ []) 0 k (omega (arith, modulo_count C s n ring))
    ∙ modulo_out C s n k ring g)

pub modulo_size : (C at n : ℕ) (xs ring : List ℕ) → length (put_modulo C at n xs ring) ≡ length ring
unfolding put_modulo
modulo_size C at zero xs ring = refl
modulo_size C at (suc n) xs ring = length-set (put_modulo C at n xs ring) ((at + n) % C) (get_or xs n 0) ∙ modulo_size C at n xs ring

module _ (C at n k : ℕ) (xs ring : List ℕ) (low : at < C) (room : n ≤ C) (long : C ≤ length ring) (has : n ≤ length xs) where
  -- an entry after a put, as one of the put in two parts
  same : (i : ℕ) → get_or (put_modulo C at n xs ring) i 0 ≡ get_or (put C at n xs ring) i 0
  same i = ap (λ (l : List ℕ). get_or l i 0) (sym (put_modulo_lem C at n xs ring low room long has))

  pub modulo_into : k < n → get_or (put_modulo C at n xs ring) ((at + k) % C) 0 ≡ get_or xs k 0
  modulo_into h =
      same ((at + k) % C)
      ∙ ap (λ (i : ℕ). get_or (put C at n xs ring) i 0) (sym (place_modulo C at k low (omega arith)))
      ∙ put_inside C at n xs ring low room has long 0 k h

  pub modulo_others : n ≤ k → k < C → get_or (put_modulo C at n xs ring) ((at + k) % C) 0 ≡ get_or ring ((at + k) % C) 0
  modulo_others h turn =
      let e : position C at k ≡ (at + k) % C = place_modulo C at k low (omega arith) in
      same ((at + k) % C)
      ∙ ap (λ (i : ℕ). get_or (put C at n xs ring) i 0) (sym e)
      ∙ put_outside C at n xs ring low room has long 0 k h turn
      ∙ ap (λ (i : ℕ). get_or ring i 0) e

  pub modulo_past : C ≤ k → get_or (put_modulo C at n xs ring) k 0 ≡ get_or ring k 0
  modulo_past h = same k ∙ put-past C at n xs ring low room has long 0 k h

-- ---- behind a queue

-- from a place on, and from any number on that has the place as its remainder
pub put-from : (C a n : ℕ) (xs ring : List ℕ) → put_modulo C (a % C) n xs ring ≡ put_modulo C a n xs ring
unfolding put_modulo
put-from C a zero xs ring = refl
put-from C a (suc n) xs ring =
    ap (λ (l : List ℕ). set l ((a % C + n) % C) (get_or xs n 0)) (put-from C a n xs ring)
    ∙ ap (λ (i : ℕ). set (put_modulo C a n xs ring) i (get_or xs n 0)) (mod-add-mod a C n)

-- entries that are put behind the q queued ones
pub put-behind : (C s q n : ℕ) (xs ring : List ℕ) → s < C → q ≤ C → n ≤ C → C ≤ length ring → n ≤ length xs
    → put C (position C s q) n xs ring ≡ put_modulo C (s + q) n xs ring
put-behind C s q n xs ring low turn room long has =
    put_modulo_lem C (position C s q) n xs ring (place-lt C s q low turn) room long has
    ∙ ap (λ (a : ℕ). put_modulo C a n xs ring) (place_modulo C s q low turn)
    ∙ put-from C (s + q) n xs ring
