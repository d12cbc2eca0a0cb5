-- A pass from the back of a part of a list to its front: what passes a test goes to the front of the part, the rest to its back. Assumes nothing.
use Prim.Native.Nat.{ℕ, suc, ◌+◌, ◌-◌, ◌≤◌, ◌<◌}
use mathlib.Core.Path.{◌≡◌, refl, sym, ap, subst, ◌∙◌}
use mathlib.Core.Bool.{Bool, true, false, not}
use mathlib.Core.List.{List, [], ◌∷◌, ◌++◌, map, reverse, append-nil, append_assoc}
use native.Mathlib.Omega.{arith}
use native.Mathlib.Numerals.{add-one}
use lib.ListN.{length, take, drop, get_or, set, length-append, length-drop, length-set, take-append-drop}
use lib.Seq.{slice, slice-cons, slice_empty, take-suc-set, take-set-le, drop-set-lt, length-take-le}
use Rattle.definition.specs.Status.{pick}
use Rattle.definition.specs.Port.{filter}
use Rattle.port.proofs.places.Lists.{filter-yes, filter-no, reverse-filter-yes, reverse-filter-no, drop_set_at}

module _ {A : Type 0} where
  abbrev pub hits : (A → Bool) → (A → A) → List A → List A
  hits f g v = map g (reverse (filter f v))

  abbrev pub misses : (A → Bool) → List A → List A
  misses f v = filter (λ x. not (f x)) v

  -- the list out after the part of tab from p to u is visited down to i: the places from `front` to `back` are not written yet
  pub record Partitioned (f : A → Bool) (g : A → A) (tab : List A) (p u : ℕ) (out : List A) (front back i : ℕ) : Type 0 where
    pub low : p ≤ i
    pub high : i ≤ u
    pub fits : u ≤ length tab
    pub within : back ≤ u
    pub gap : back + p ≡ front + i
    pub size : length out ≡ length tab
    pub head : take front out ≡ take p tab ++ hits f g (slice i u tab)
    pub rest : drop back out ≡ misses f (slice i u tab) ++ drop u tab

  module _ (f : A → Bool) (g : A → A) (tab : List A) (p u : ℕ) where
    pub partition-start : p ≤ u → u ≤ length tab → Partitioned f g tab p u tab p u u
    unfolding filter pick
    partition-start h k =
        record {
          low = h;
          high = omega arith;
          fits = k;
          within = omega arith;
          gap = omega arith;
          size = refl;
          head = rw (slice_empty u tab) (sym (append-nil (take p tab)));
          rest = rw (slice_empty u tab) refl;
        }

    pub partition_hit : (out : List A) (front back i : ℕ) (d : A) → Partitioned f g tab p u out front back (suc i) → p ≤ i → f (get_or tab i d) ≡ true
        → Partitioned f g tab p u (set out front (g (get_or tab i d))) (suc front) back i
    partition_hit out front back i d c h e =
        let hi = c.high in
        let fi = c.fits in
        let cons : slice i u tab ≡ get_or tab i d ∷ slice (suc i) u tab = slice-cons i u tab d (omega arith) fi in
        let room : front < length out = omega (arith, c) in
        record {
          low = h;
          high = omega arith;
          fits = fi;
          within = c.within;
          gap = omega (arith, c);
          size = length-set out front (g (get_or tab i d)) ∙ c.size;
          head =
              take-suc-set out front (g (get_or tab i d)) room
              ∙ ap (λ (l : List A). l ++ (g (get_or tab i d) ∷ [])) c.head
              ∙ append_assoc (take p tab) (hits f g (slice (suc i) u tab)) (g (get_or tab i d) ∷ [])
              ∙ ap (λ (l : List A). take p tab ++ l) (sym (reverse-filter-yes f g (get_or tab i d) (slice (suc i) u tab) e) ∙ ap (hits f g) (sym cons));
          rest =
              drop-set-lt back out front (g (get_or tab i d)) (omega (arith, c))
              ∙ c.rest
              ∙ ap (λ (l : List A). l ++ drop u tab) (sym (filter-no (λ x. not (f x)) (get_or tab i d) (slice (suc i) u tab) (ap not e)) ∙ ap (misses f) (sym cons));
        }

    pub partition_miss : (out : List A) (front back i : ℕ) (d : A) → Partitioned f g tab p u out front (suc back) (suc i) → p ≤ i → f (get_or tab i d) ≡ false
        → Partitioned f g tab p u (set out back (get_or tab i d)) front back i
    partition_miss out front back i d c h e =
        let hi = c.high in
        let fi = c.fits in
        let cons : slice i u tab ≡ get_or tab i d ∷ slice (suc i) u tab = slice-cons i u tab d (omega arith) fi in
        let room : back < length out = omega (arith, c) in
        record {
          low = h;
          high = omega arith;
          fits = fi;
          within = omega (arith, c);
          gap = omega (arith, c);
          size = length-set out back (get_or tab i d) ∙ c.size;
          head =
              take-set-le front out back (get_or tab i d) (omega (arith, c))
              ∙ c.head
              ∙ ap (λ (l : List A). take p tab ++ l) (sym (reverse-filter-no f g (get_or tab i d) (slice (suc i) u tab) e) ∙ ap (hits f g) (sym cons));
          rest =
              drop_set_at out back (get_or tab i d) room
              ∙ ap (λ (l : List A). get_or tab i d ∷ l) c.rest
              ∙ ap (λ (l : List A). l ++ drop u tab) (sym (filter-yes (λ x. not (f x)) (get_or tab i d) (slice (suc i) u tab) (ap not e)) ∙ ap (misses f) (sym cons));
        }

    -- the whole list at the end of the pass, and how many of each kind there are
    pub partition-all : (out : List A) (front back i : ℕ) → Partitioned f g tab p u out front back i → i ≤ p
        → out ≡ (take p tab ++ hits f g (slice p u tab)) ++ (misses f (slice p u tab) ++ drop u tab)
    partition-all out front back i c h =
        let e : i ≡ p = omega (arith, c) in
        let b : back ≡ front = omega (arith, c) in
        let hd : take front out ≡ take p tab ++ hits f g (slice p u tab) = rw e at c.head in
        let tl : drop front out ≡ misses f (slice p u tab) ++ drop u tab = rw (e, b) at c.rest in
        sym (take-append-drop front out) ∙ rw (hd, tl) refl

    pub partition-front : (out : List A) (front back i : ℕ) → Partitioned f g tab p u out front back i → i ≤ p → front ≡ length (take p tab ++ hits f g (slice p u tab))
    partition-front out front back i c h =
        let e : i ≡ p = omega (arith, c) in
        let hd : take front out ≡ take p tab ++ hits f g (slice p u tab) = rw e at c.head in
        sym (length-take-le front out (omega (arith, c))) ∙ ap length hd

    pub partition_back : (out : List A) (front back i : ℕ) → Partitioned f g tab p u out front back i → i ≤ p → u - front ≡ length (misses f (slice p u tab))
    partition_back out front back i c h =
        let e : i ≡ p = omega (arith, c) in
        let b : back ≡ front = omega (arith, c) in
        let tl : drop front out ≡ misses f (slice p u tab) ++ drop u tab = rw (e, b) at c.rest in
        omega (arith, c, length-drop front out, length-drop u tab, ap length tl ∙ length-append (misses f (slice p u tab)) (drop u tab))

    -- the two steps of the loop, by its own counters and the value that it stores
    pub step_hit : (out : List A) (front back i : ℕ) (d x : A) → Partitioned f g tab p u out front back i → p < i → f (get_or tab (i - 1) d) ≡ true → x ≡ g (get_or tab (i - 1) d)
        → Partitioned f g tab p u (set out front x) (front + 1) back (i - 1)
    step_hit out front back i d x c h e v =
        let s : i ≡ suc (i - 1) = omega arith in
        let c' : Partitioned f g tab p u out front back (suc (i - 1)) = subst (λ (k : ℕ). Partitioned f g tab p u out front back k) s c in
        rw (v, add-one front) (partition_hit out front back (i - 1) d c' (omega arith) e)

    pub step_miss : (out : List A) (front back i : ℕ) (d : A) → Partitioned f g tab p u out front back i → p < i → f (get_or tab (i - 1) d) ≡ false
        → Partitioned f g tab p u (set out (back - 1) (get_or tab (i - 1) d)) front (back - 1) (i - 1)
    step_miss out front back i d c h e =
        let s : i ≡ suc (i - 1) = omega arith in
        let b : back ≡ suc (back - 1) = omega (arith, c) in
        let c' : Partitioned f g tab p u out front (suc (back - 1)) (suc (i - 1)) =
        subst (λ (k : ℕ). Partitioned f g tab p u out front (suc (back - 1)) k) s (subst (λ (k : ℕ). Partitioned f g tab p u out front k i) b c)
        in
        partition_miss out front (back - 1) (i - 1) d c' (omega arith) e
