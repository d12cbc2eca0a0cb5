-- A pass that frees the places of a part of a list and moves the elements that pass a test together. Assumes nothing.
use Prim.Native.Nat.{ℕ, suc, ◌+◌, ◌-◌, ◌≤◌, ◌<◌}
use mathlib.Core.Path.{◌≡◌, refl, sym, ap, ◌∙◌}
use mathlib.Core.Bool.{Bool, true, false}
use mathlib.Core.List.{List, [], ◌∷◌, ◌++◌, append-nil, append_assoc}
use native.Mathlib.Omega.{arith}
use lib.ListN.{length, take, drop, get_or, set, replicate, length-append, length-set, take-append-drop}
use lib.Seq.{slice, slice_empty, take-suc-set, take-set-lt, drop-set-lt, length-take-le, set_at}
use Rattle.definition.specs.Status.{pick}
use Rattle.definition.specs.Port.{filter}
use Rattle.port.proofs.places.Lists.{filter-snoc-yes, filter-snoc-no, replicate-snoc, drop_more, read-from, slice_snoc}

module _ {A : Type 0} where
  -- the list out after the part of tab from p to u is visited up to i: what passes stands from p to n, and z from there to i
  pub record Compacted (f : A → Bool) (z : A) (tab : List A) (p u : ℕ) (out : List A) (n i : ℕ) : Type 0 where
    pub low : p ≤ n
    pub order : n ≤ i
    pub high : i ≤ u
    pub fits : u ≤ length tab
    pub size : length out ≡ length tab
    pub count : n ≡ p + length (filter f (slice p i tab))
    pub head : take i out ≡ (take p tab ++ filter f (slice p i tab)) ++ replicate (i - n) z
    pub rest : drop i out ≡ drop i tab

  module _ (f : A → Bool) (z : A) (tab : List A) (p u : ℕ) where
    pub compact_start : p ≤ u → u ≤ length tab → Compacted f z tab p u tab p p
    unfolding filter pick
    compact_start h k =
        let none : p - p ≡ 0 = omega arith in
        record {
          low = omega arith;
          order = omega arith;
          high = h;
          fits = k;
          size = refl;
          count = rw (slice_empty p tab) (omega arith);
          head = rw (slice_empty p tab, none) (sym (append-nil (take p tab ++ []) ∙ append-nil (take p tab)));
          rest = refl;
        }

    compact_read : (out : List A) (n i : ℕ) (d : A) → Compacted f z tab p u out n i → get_or out i d ≡ get_or tab i d
    compact_read out n i d c = let o : i + 0 ≡ i = omega arith in rw o at (read-from out tab i 0 d c.rest)

    -- after the store of z at i
    compact_head : (out : List A) (n i : ℕ) → Compacted f z tab p u out n i → i < u
        → take (suc i) (set out i z) ≡ (take p tab ++ filter f (slice p i tab)) ++ replicate (suc (i - n)) z
    compact_head out n i c h =
        let fi = c.fits in
        let room : i < length out = omega (arith, c) in
        take-suc-set out i z room ∙ rw (c.head, append_assoc (take p tab ++ filter f (slice p i tab)) (replicate (i - n) z) (z ∷ []), replicate-snoc (i - n) z) refl

    pub compact_drop : (out : List A) (n i : ℕ) (d : A) → Compacted f z tab p u out n i → i < u → f (get_or out i d) ≡ false → Compacted f z tab p u (set out i z) n (i + 1)
    compact_drop out n i d c h e₀ =
        let e : f (get_or tab i d) ≡ false = ap f (sym (compact_read out n i d c)) ∙ e₀ in
        let fi = c.fits in
        let or = c.order in
        let lo = c.low in
        let s : i + 1 ≡ suc i = omega arith in
        let m : suc i - n ≡ suc (i - n) = omega arith in
        let same : filter f (slice p (suc i) tab) ≡ filter f (slice p i tab) =
        ap (filter f) (slice_snoc tab p i d (omega arith) (omega arith)) ∙ filter-snoc-no f (slice p i tab) (get_or tab i d) e
        in
        record {
          low = c.low;
          order = omega arith;
          high = omega arith;
          fits = fi;
          size = length-set out i z ∙ c.size;
          count = rw (s, same) c.count;
          head = rw (s, m, same) (compact_head out n i c h);
          rest = rw s (drop-set-lt (suc i) out i z (omega arith) ∙ drop_more out tab i c.rest);
        }

    compact_keep_of : (out : List A) (n i : ℕ) (d : A) → Compacted f z tab p u out n i → i < u → f (get_or tab i d) ≡ true
        → Compacted f z tab p u (set (set out i z) n (get_or tab i d)) (n + 1) (i + 1)
    compact_keep_of out n i d c h e =
        let fi = c.fits in
        let or = c.order in
        let lo = c.low in
        let x = get_or tab i d in
        let s : i + 1 ≡ suc i = omega arith in
        let k : n + 1 ≡ suc n = omega arith in
        let m : suc i - suc n ≡ i - n = omega arith in
        let more : filter f (slice p (suc i) tab) ≡ filter f (slice p i tab) ++ (x ∷ []) =
        ap (filter f) (slice_snoc tab p i d (omega arith) (omega arith)) ∙ filter-snoc-yes f (slice p i tab) x e
        in
        let len : length (take p tab ++ filter f (slice p i tab)) ≡ n =
        length-append (take p tab) (filter f (slice p i tab)) ∙ omega (arith, c.count, length-take-le p tab (omega arith))
        in
        record {
          low = omega arith;
          order = omega arith;
          high = omega arith;
          fits = fi;
          size = length-set (set out i z) n x ∙ length-set out i z ∙ c.size;
          count = rw (s, more) (omega (arith, c.count, length-append (filter f (slice p i tab)) (x ∷ [])));
          head =
              rw (s, k, m, more)
              (take-set-lt (suc i) (set out i z) n x (omega arith)
              ∙ ap (λ (l : List A). set l n x) (compact_head out n i c h)
              ∙ set_at (take p tab ++ filter f (slice p i tab)) z (replicate (i - n) z) x n len
              ∙ sym (ap (λ (l : List A). l ++ replicate (i - n) z) (sym (append_assoc (take p tab) (filter f (slice p i tab)) (x ∷ [])))
              ∙ append_assoc (take p tab ++ filter f (slice p i tab)) (x ∷ []) (replicate (i - n) z)));
          rest =
              rw s
              (drop-set-lt (suc i) (set out i z) n x (omega arith)
              ∙ drop-set-lt (suc i) out i z (omega arith)
              ∙ drop_more out tab i c.rest);
        }

    pub compact_keep : (out : List A) (n i : ℕ) (d : A) → Compacted f z tab p u out n i → i < u → f (get_or out i d) ≡ true
        → Compacted f z tab p u (set (set out i z) n (get_or out i d)) (n + 1) (i + 1)
    compact_keep out n i d c h e₀ =
        rw (compact_read out n i d c) (compact_keep_of out n i d c h (ap f (sym (compact_read out n i d c)) ∙ e₀))

    pub compact_all : (out : List A) (n i : ℕ) → Compacted f z tab p u out n i → u ≤ i
        → out ≡ take p tab ++ (filter f (slice p u tab) ++ (replicate (u - n) z ++ drop u tab))
    compact_all out n i c h =
        let e : i ≡ u = omega (arith, c) in
        let hd : take u out ≡ (take p tab ++ filter f (slice p u tab)) ++ replicate (u - n) z = rw e at c.head in
        let tl : drop u out ≡ drop u tab = rw e at c.rest in
        sym (take-append-drop u out)
        ∙ rw (hd, tl, append_assoc (take p tab ++ filter f (slice p u tab)) (replicate (u - n) z) (drop u tab), append_assoc (take p tab) (filter f (slice p u tab)) (replicate (u - n) z ++ drop u tab)) refl

    pub compact_count : (out : List A) (n i : ℕ) → Compacted f z tab p u out n i → u ≤ i → n ≡ p + length (filter f (slice p u tab))
    compact_count out n i c h =
        let e : i ≡ u = omega (arith, c) in
        rw e at c.count
