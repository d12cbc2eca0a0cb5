-- What a record tells of the bytes that it was decoded from; more bytes behind them do not change it. Assumes nothing.
use Prim.Native.Nat.{ℕ, ◌+◌, ◌-◌, ◌*◌, ◌≤◌}
use native.Mathlib.Omega.{arith}
use mathlib.Core.Path.{◌≡◌, refl, sym, ap, ◌∙◌, subst}
use mathlib.Core.Bool.{Bool, true, false}
use mathlib.Core.List.{List, ◌++◌}
use lib.ListN.{length, get_or, take, drop, length-drop, length-append, get_or-append}
use lib.Seq.{drop-append-le, take-append-le}
use lib.Dec.{ltb}
use borrow.Author.Tests.{ltb-false, le-ltb}
use Rattle.definition.specs.Status.{pick}
use Rattle.definition_script.specs.declared.Decoded.{Decoded}
use Rattle.definition_script.specs.declared.Decoded.TheVariants.{Whole, Bad, Cut}
use Rattle.definition_script.specs.Record.{two, is_body, record_of}

-- by cases on a test
pub cases : (X : Type 0) (P : X → Type 0) (b : Bool) (x y : X) → (b ≡ true → P x) → (b ≡ false → P y) → P (pick b x y)
unfolding pick
cases X P true x y f g = f refl
cases X P false x y f g = g refl

-- a record that is all there
pub record Full (s : List ℕ) (tag n : ℕ) : Type 0 where
  pub long : 3 + n ≤ length s
  pub body : is_body tag n ≡ true
  pub tagged : tag ≡ get_or s 0 0
  pub sized : n ≡ two s 1

Tells : List ℕ → Decoded → Type 0
Tells s (Whole tag n) = Full s tag n
Tells s Bad = (3 ≤ length s) × (is_body (get_or s 0 0) (two s 1) ≡ false)
Tells s Cut = Unit

tells : (s : List ℕ) → Tells s (record_of s)
unfolding record_of Tells
tells s =
    cases Decoded (Tells s) (ltb (length s) 3) Cut _ (λ e. tt)
    (λ e. cases Decoded (Tells s) (is_body (get_or s 0 0) (two s 1)) _ Bad
    (λ f. cases Decoded (Tells s) (ltb (length s - 3) (two s 1)) Cut _ (λ g. tt)
    (λ g. let a : 3 ≤ length s = ltb-false _ _ e in
    let b : two s 1 ≤ length s - 3 = ltb-false _ _ g in
    record { long = omega arith; body = f; tagged = refl; sized = refl }))
    (λ f. (ltb-false _ _ e, f)))

pub full : (s : List ℕ) (tag n : ℕ) → record_of s ≡ Whole tag n → Full s tag n
unfolding Tells
full s tag n e = subst (λ (r : Decoded). Tells s r) e (tells s)

bad : (s : List ℕ) → record_of s ≡ Bad → (3 ≤ length s) × (is_body (get_or s 0 0) (two s 1) ≡ false)
unfolding Tells
bad s e = subst (λ (r : Decoded). Tells s r) e (tells s)

-- ---- more bytes behind

tag-more : (s t : List ℕ) → 3 ≤ length s → get_or (s ++ t) 0 0 ≡ get_or s 0 0
tag-more s t h = get_or-append s t 0 0 (omega arith)

size-more : (s t : List ℕ) → 3 ≤ length s → two (s ++ t) 1 ≡ two s 1
size-more s t h =
    ap (λ (k : ℕ). k + 256 * get_or (s ++ t) 2 0) (get_or-append s t 0 1 (omega arith))
    ∙ ap (λ (k : ℕ). get_or s 1 0 + 256 * k) (get_or-append s t 0 2 (omega arith))

pub bad_more : (s t : List ℕ) → record_of s ≡ Bad → record_of (s ++ t) ≡ Bad
unfolding record_of pick
bad_more s t e =
    let b = bad s e in
    let l : 3 ≤ length (s ++ t) = simp length-append (omega (arith, b.0)) in
    let r : is_body (get_or (s ++ t) 0 0) (two (s ++ t) 1) ≡ false =
    ap (λ (k : ℕ). is_body k (two (s ++ t) 1)) (tag-more s t b.0) ∙ ap (λ (k : ℕ). is_body (get_or s 0 0) k) (size-more s t b.0) ∙ b.1
    in
    simp (le-ltb (length (s ++ t)) 3 l, r)

pub whole-more : (s t : List ℕ) (tag n : ℕ) → record_of s ≡ Whole tag n → record_of (s ++ t) ≡ Whole tag n
unfolding record_of pick
whole-more s t tag n e =
    let f = full s tag n e in
    let a : 3 ≤ length s = omega (arith, f.long) in
    let l : 3 ≤ length (s ++ t) = simp length-append (omega arith) in
    let h0 : get_or (s ++ t) 0 0 ≡ tag = tag-more s t a ∙ sym f.tagged in
    let h2 : two (s ++ t) 1 ≡ n = size-more s t a ∙ sym f.sized in
    let r : is_body (get_or (s ++ t) 0 0) (two (s ++ t) 1) ≡ true =
    ap (λ (k : ℕ). is_body k (two (s ++ t) 1)) h0 ∙ ap (λ (k : ℕ). is_body tag k) h2 ∙ f.body
    in
    let g : two (s ++ t) 1 ≤ length (s ++ t) - 3 = rw h2 (simp length-append (omega (arith, f.long))) in
    let z : Whole (get_or (s ++ t) 0 0) (two (s ++ t) 1) ≡ Whole tag n = ap (λ (k : ℕ). Whole k (two (s ++ t) 1)) h0 ∙ ap (λ (k : ℕ). Whole tag k) h2 in
    simp (le-ltb (length (s ++ t)) 3 l, r, le-ltb (length (s ++ t) - 3) (two (s ++ t) 1) g) z

pub body_more : (s t : List ℕ) (n : ℕ) → 3 + n ≤ length s → take n (drop 3 (s ++ t)) ≡ take n (drop 3 s)
body_more s t n h =
    ap (λ (z : List ℕ). take n z) (drop-append-le 3 s t (omega arith)) ∙ take-append-le n (drop 3 s) t (simp length-drop (omega arith))
