-- The loops that spell: digits from the last to the first, bytes from the first to the last. Assumes nothing.
use Prim.Native.Nat.{ℕ, zero, suc, ◌+◌, ◌-◌, ◌*◌, ◌/◌, ◌%◌, ◌^◌, ◌≤◌, ◌<◌}
use native.Mathlib.Numerals.{add-one}
use native.Mathlib.Omega.{arith}
use Rattle.std.specs.Prelude.{max}
use native.Mathlib.Nat.{pow-succ', one-le-pow, le-mul_of_pos_right, mul_assoc}
use mathlib.Core.Path.{◌≡◌, refl, sym, ap, ◌∙◌}
use mathlib.Core.Bool.{Bool, true, false}
use mathlib.Core.List.{List, [], ◌∷◌, ◌++◌, append_assoc}
use lib.ListN.{length, take, get_or, set, length-append}
use lib.Seq.{take-suc, length-take-le}
use lib.Dec.{ltb}
use borrow.Author.Tests.{lt-ltb, le-ltb, ltb-true}
use Rattle.definition.specs.Status.{pick}
use Rattle.definition_script.specs.Call.{written_at}
use Rattle.std.proofs.lemmas.Bool.{false≢true}
use lib.IntN.{ℤ, pos, negsuc, nat_abs}
use lib.Signed.{lt_z}
use Rattle.definition_script.specs.Line.{digit_of, digits_of, width_by, width_of, decimal_of, hex_bytes_of, signed_of}
use Rattle.text.proofs.Place.{place_none, place-cons, place-snoc}

-- what the loop still does to a list, with i digits of n left to be put from a place on
pub back : (base at i n : ℕ) → List ℕ → List ℕ
back base at zero n l = l
back base at (suc i) n l = back base at i (n / base) (set l (at + i) (digit_of (n % base)))

pub back_zero : (base at n : ℕ) (l : List ℕ) → back base at 0 n l ≡ l
unfolding back
back_zero base at n l = refl

pub back_step : (base at i n : ℕ) (l : List ℕ) → 0 < i → back base at i n l ≡ back base at (i - 1) (n / base) (set l (at + (i - 1)) (digit_of (n % base)))
unfolding back
back_step base at zero n l h = absurd (let z : ⊥ = omega arith in z)
back_step base at (suc i) n l h = let e : suc i - 1 ≡ i = omega arith in rw e refl

back_digits : (base at i n : ℕ) (behind l : List ℕ) → at + i + length behind ≤ length l
    → back base at i n (written_at (at + i) behind l) ≡ written_at at (digits_of base i n behind) l
unfolding digits_of back
back_digits base at zero n behind l h = ap (λ (k : ℕ). written_at k behind l) (let e : at + 0 ≡ at = omega arith in e)
back_digits base at (suc i) n behind l h =
    ap (λ (k : ℕ). back base at i (n / base) (set (written_at k behind l) (at + i) (digit_of (n % base)))) (let e : at + suc i ≡ suc (at + i) = omega arith in e)
    ∙ ap (λ (z : List ℕ). back base at i (n / base) z) (place-cons (at + i) (digit_of (n % base)) behind l (omega arith))
    ∙ back_digits base at i (n / base) (digit_of (n % base) ∷ behind) l (omega arith)

pub back_is : (base at k n : ℕ) (l : List ℕ) → at + k ≤ length l → back base at k n l ≡ written_at at (digits_of base k n []) l
back_is base at k n l h = ap (λ (z : List ℕ). back base at k n z) (sym (place_none (at + k) l)) ∙ back_digits base at k n [] l (omega arith)

pub digits_length : (base k n : ℕ) (behind : List ℕ) → length (digits_of base k n behind) ≡ k + length behind
unfolding digits_of
digits_length base zero n behind = omega arith
digits_length base (suc k) n behind =
    digits_length base k (n / base) (digit_of (n % base) ∷ behind) ∙ (let e : k + suc (length behind) ≡ suc k + length behind = omega arith in e)

pick-most : (b : Bool) (x y m : ℕ) → x ≤ m → y ≤ m → pick b x y ≤ m
unfolding pick
pick-most true x y m h g = h
pick-most false x y m h g = g

width_by-most : (k p n : ℕ) → width_by k p n ≤ k + 1
unfolding width_by
width_by-most zero p n = omega arith
width_by-most (suc k) p n = pick-most (ltb n p) 1 (1 + width_by k (p * 10) n) (suc k + 1) (omega arith) (omega (arith, width_by-most k (p * 10) n))

pub width_most : (n : ℕ) → width_of n ≤ 20
unfolding width_of
width_most n = width_by-most 19 10 n

-- a number has as many digits as the greatest power of ten has that is not above it
width_by_power : (j e p n : ℕ) → e < j → p * 10 ^ e ≤ n → n < 10 * (p * 10 ^ e) → width_by j p n ≡ e + 2
unfolding width_by pick
width_by_power zero e p n h g k = absurd (let z : ⊥ = omega arith in z)
width_by_power (suc zero) zero p n h g k = rw (le-ltb n p (omega arith)) refl
width_by_power (suc (suc j)) zero p n h g k = rw (le-ltb n p (omega arith), lt-ltb n (p * 10) (omega arith)) refl
width_by_power (suc j) (suc e) p n h g k =
    let t : p * 10 * 10 ^ e ≡ p * 10 ^ suc e = rw (pow-succ' 10 e) (mul_assoc p 10 (10 ^ e)) in
    let m : p ≤ p * 10 ^ suc e = le-mul_of_pos_right p (one-le-pow (suc e) 10 (omega arith)) in
    rw (le-ltb n p (omega (arith, m, g))) (ap (λ (w : ℕ). 1 + w) (width_by_power j e (p * 10) n (omega arith) (omega (arith, t, g)) (omega (arith, t, k))) ∙ (omega arith))

-- zero has one digit, as one has
pub width_power : (k m n : ℕ) → k < 20 → m ≡ max n 1 → 10 ^ k ≤ m → m < 10 * 10 ^ k → k + 1 ≡ width_of n
unfolding width_of width_by pick
width_power zero m n h e g k = rw (lt-ltb n 10 (omega arith)) refl
width_power (suc d) m n h e g k =
    let t : 10 ^ suc d ≡ 10 * 10 ^ d = pow-succ' 10 d in
    let p : 1 ≤ 10 ^ d = one-le-pow d 10 (omega arith) in
    let f : suc d + 1 ≡ d + 2 = omega arith in
    f ∙ sym (width_by_power 19 d 10 n (omega arith) (omega (arith, t, p, g, e)) (omega (arith, t, p, g, k, e)))

pub hex_bytes-length : (bs : List ℕ) → length (hex_bytes_of bs) ≡ 2 * length bs
unfolding hex_bytes_of
hex_bytes-length [] = refl
hex_bytes-length (b ∷ bs) = ap (λ (k : ℕ). suc (suc k)) (hex_bytes-length bs) ∙ (let e : suc (suc (2 * length bs)) ≡ 2 * suc (length bs) = omega arith in e)

hex_bytes-append : (xs ys : List ℕ) → hex_bytes_of (xs ++ ys) ≡ hex_bytes_of xs ++ hex_bytes_of ys
unfolding hex_bytes_of
hex_bytes-append [] ys = refl
hex_bytes-append (x ∷ xs) ys = ap (λ (z : List ℕ). digit_of (x / 16) ∷ digit_of (x % 16) ∷ z) (hex_bytes-append xs ys)

-- a turn of the loop that puts two digits for a byte
pub hex_bytes_turn : (at i to : ℕ) (src l : List ℕ) → i < length src → at + 2 * length src ≤ length l → to ≡ at + 2 * i
    → set (set (written_at at (hex_bytes_of (take i src)) l) to (digit_of (get_or src i 0 / 16))) (to + 1) (digit_of (get_or src i 0 % 16))
    ≡ written_at at (hex_bytes_of (take (i + 1) src)) l
unfolding hex_bytes_of
hex_bytes_turn at i to src l h g e =
    let b : ℕ = get_or src i 0 in
    let x : List ℕ = hex_bytes_of (take i src) in
    let u : ℕ = digit_of (b / 16) in
    let v : ℕ = digit_of (b % 16) in
    let lx : length x ≡ 2 * i = hex_bytes-length (take i src) ∙ ap (λ (k : ℕ). 2 * k) (length-take-le i src (omega arith)) in
    let y : List ℕ = x ++ (u ∷ []) in
    let ly : length y ≡ 2 * i + 1 = length-append x (u ∷ []) ∙ (omega arith) in
    let e₁ : to ≡ at + length x = omega arith in
    let e₂ : to + 1 ≡ at + length y = omega arith in
    let t : take (i + 1) src ≡ take i src ++ (b ∷ []) = rw add-one (take-suc src i 0 h) in
    ap (λ (k : ℕ). set (set (written_at at x l) k u) (to + 1) v) e₁
    ∙ ap (λ (z : List ℕ). set z (to + 1) v) (place-snoc at u x l (omega arith))
    ∙ ap (λ (k : ℕ). set (written_at at y l) k v) e₂
    ∙ place-snoc at v y l (omega arith)
    ∙ ap (λ (z : List ℕ). written_at at z l) (append_assoc x (u ∷ []) (v ∷ []) ∙ sym (ap hex_bytes_of t ∙ hex_bytes-append (take i src) (b ∷ [])))

-- a number below zero has a minus sign before its magnitude, another number has none
pub signed_below : (z y : ℤ) (m : ℕ) → y ≡ z → lt_z y (pos 0) ≡ true → m ≡ nat_abs y → 45 ∷ decimal_of m ≡ signed_of z
unfolding signed_of
signed_below (pos n) y m e h g = absurd (let k : n < 0 = ltb-true n 0 (rw e at h) in let z : ⊥ = omega arith in z)
signed_below (negsuc n) y m e h g = ap (λ (k : ℕ). 45 ∷ decimal_of k) (rw e at g ∙ sym (add-one n))

pub signed_from : (z y : ℤ) (m : ℕ) → y ≡ z → lt_z y (pos 0) ≡ false → m ≡ nat_abs y → decimal_of m ≡ signed_of z
unfolding signed_of
signed_from (pos n) y m e h g = ap decimal_of (rw e at g)
signed_from (negsuc n) y m e h g = absurd (false≢true (sym (let k : lt_z (negsuc n) (pos 0) ≡ false = rw e at h in k)))
