-- The places of a table looked at from the last to the first: how many pass a test, and which is the first. Assumes nothing.
use Prim.Native.Nat.{ℕ, suc, ◌+◌, ◌-◌, ◌≤◌, ◌<◌}
use mathlib.Core.Path.{◌≡◌, refl, sym, ap, ◌∙◌}
use mathlib.Core.Bool.{Bool, true, false}
use mathlib.Core.List.{List, []}
use native.Mathlib.Omega.{arith}
use native.Mathlib.Nat.{zero-add}
use native.Mathlib.Numerals.{add-one}
use lib.Dec.{leb, ltb, eqb}
use lib.ListN.{length, take, get_or, drop_of_length-le}
use lib.Seq.{slice, slice-cons, length-take-le}
use borrow.Author.Tests.{ltb-true, ltb-false, leb-true, ne_eqb, eqb-true, lt-ltb}
use Rattle.definition.specs.Status.{pick, ◌and◌}
use Rattle.definition.specs.declared.Places.{Places}
use Rattle.definition.specs.Port.{filter, used, matches, matching}
use Rattle.port.specs.few.Few.{index_of, only_match}
use Rattle.port.proofs.places.Lists.{filter-yes, filter-no}
use Rattle.std.proofs.Common.{Some, None}
use Rattle.port.proofs.few.Cancelled.{all-matching, at-used}

module _ {A : Type 0} where
  -- of the elements of tab from i to u, n pass; the first of them stands at k, which is 0 where none does
  pub record Found (f : A → Bool) (tab : List A) (u i n k : ℕ) : Type 0 where
    pub count : n ≡ length (filter f (slice i u tab))
    pub first : k ≡ pick (eqb n 0) 0 (i + index_of f (slice i u tab))

  module _ (f : A → Bool) (tab : List A) (u : ℕ) (fits : u ≤ length tab) where
    none_from : (i : ℕ) → u ≤ i → slice i u tab ≡ []
    none_from i h =
        let l : length (take u tab) ≤ i = omega (arith, length-take-le u tab fits) in
        drop_of_length-le (take u tab) l

    pub found-start : (i : ℕ) → u ≤ i → Found f tab u i 0 0
    unfolding filter pick
    found-start i h = record { count = rw (none_from i h) refl; first = refl }

    first_in : (i : ℕ) (d : A) → i < u → f (get_or tab i d) ≡ true → index_of f (slice i u tab) ≡ 0
    unfolding index_of pick
    first_in i d h e = ap (index_of f) (slice-cons i u tab d h fits) ∙ rw e refl

    first_out : (i : ℕ) (d : A) → i < u → f (get_or tab i d) ≡ false → index_of f (slice i u tab) ≡ suc (index_of f (slice (i + 1) u tab))
    unfolding index_of pick
    first_out i d h e = ap (index_of f) (slice-cons i u tab d h fits) ∙ rw (e, add-one i) refl

    count_in_lem : (i : ℕ) (d : A) → i < u → f (get_or tab i d) ≡ true → length (filter f (slice i u tab)) ≡ suc (length (filter f (slice (i + 1) u tab)))
    count_in_lem i d h e =
        ap (λ (l : List A). length (filter f l)) (slice-cons i u tab d h fits)
        ∙ ap length (filter-yes f (get_or tab i d) (slice (suc i) u tab) e)
        ∙ ap (λ (n : ℕ). suc (length (filter f (slice n u tab)))) (sym (add-one i))

    count-out : (i : ℕ) (d : A) → i < u → f (get_or tab i d) ≡ false → length (filter f (slice i u tab)) ≡ length (filter f (slice (i + 1) u tab))
    count-out i d h e =
        ap (λ (l : List A). length (filter f l)) (slice-cons i u tab d h fits)
        ∙ ap length (filter-no f (get_or tab i d) (slice (suc i) u tab) e)
        ∙ ap (λ (n : ℕ). length (filter f (slice n u tab))) (sym (add-one i))

    nothing-more : (i n k : ℕ) → u ≤ i → Found f tab u (i + 1) n k → Found f tab u i n k
    unfolding filter pick
    nothing-more i n k h c =
        let z : n ≡ 0 = c.count ∙ rw (none_from (i + 1) (omega arith)) refl in
        record {
          count = z ∙ rw (none_from i h) refl;
          first = c.first ∙ rw z refl;
        }

    found_in : (i n k : ℕ) (d : A) → i < u → f (get_or tab i d) ≡ true → Found f tab u (i + 1) n k → Found f tab u i (n + 1) i
    unfolding pick
    found_in i n k d h e c =
        record {
          count = omega (arith, c.count, count_in_lem i d h e);
          first = rw (ne_eqb (n + 1) 0 (λ z. omega (arith, z))) (omega (arith, first_in i d h e));
        }

    found-out : (i n k : ℕ) (d : A) → i < u → f (get_or tab i d) ≡ false → Found f tab u (i + 1) n k → Found f tab u i n k
    found-out i n k d h e c =
        let s : (i + 1) + index_of f (slice (i + 1) u tab) ≡ i + index_of f (slice i u tab) = omega (arith, first_out i d h e) in
        record {
          count = c.count ∙ sym (count-out i d h e);
          first = c.first ∙ ap (λ (m : ℕ). pick (eqb n 0) 0 m) s;
        }

    pub found_turn : (i n k : ℕ) (d : A) (hit : Bool) → hit ≡ (ltb i u and f (get_or tab i d)) → Found f tab u (i + 1) n k
        → Found f tab u i (pick hit (n + 1) n) (pick hit i k)
    unfolding pick ◌and◌
    found_turn i n k d hit q c = by (ltb i u) (f (get_or tab i d)) refl refl
      where
        by : (b e : Bool) → ltb i u ≡ b → f (get_or tab i d) ≡ e → Found f tab u i (pick hit (n + 1) n) (pick hit i k)
        by true true l t = rw (q, l, t) (found_in i n k d (ltb-true i u l) t c)
        by true false l t = rw (q, l, t) (found-out i n k d (ltb-true i u l) t c)
        by false e l t = rw (q, l) (nothing-more i n k (ltb-false i u l) c)

-- what is found in the whole table
pub found_all : (asked one : Bool) (key : ℕ) (t : Places) (u n k : ℕ) → length t.table ≡ 128 → u ≡ pick (leb (used t) 8) (used t) 0
    → Found (matches one key) t.table u 0 n k
    → pick (asked and eqb n 1) (Some k) None ≡ pick (ltb (only_match asked one key t) 8) (Some (only_match asked one key t)) None
unfolding only_match pick ◌and◌ filter
found_all false one key t u n k l e c = refl
found_all true one key t u n k l e c = by (leb (used t) 8) refl
  where
    at : ℕ
    at = index_of (matches one key) (take (used t) t.table)

    m : ℕ
    m = pick (leb (used t) 8 and eqb (matching one key t) 1) at 8

    by : (b : Bool) → leb (used t) 8 ≡ b → pick (eqb n 1) (Some k) None ≡ pick (ltb m 8) (Some m) None
    by true b =
        let few = leb-true (used t) 8 b in
        let h : used t ≤ length t.table = omega (arith, few, l) in
        let w : u ≡ used t = e ∙ rw b refl in
        let q : n ≡ matching one key t = c.count ∙ rw w (all-matching one key t h) in
        let f = matches one key in
        let z : 0 + index_of f (slice 0 u t.table) ≡ at =
        zero-add (index_of f (slice 0 u t.table)) ∙ ap (λ (v : ℕ). index_of f (take v t.table)) w in
        let i : k ≡ pick (eqb n 0) 0 at = c.first ∙ ap (λ (v : ℕ). pick (eqb n 0) 0 v) z in
        rw (b, ← q) (counted (eqb n 1) refl h few q i)
      where
        counted : (y : Bool) → eqb n 1 ≡ y → used t ≤ length t.table → used t ≤ 8 → n ≡ matching one key t → k ≡ pick (eqb n 0) 0 at
            → pick (eqb n 1) (Some k) None ≡ pick (ltb (pick (eqb n 1) at 8) 8) (Some (pick (eqb n 1) at 8)) None
        counted true y h few q i =
            let o = eqb-true n 1 y in
            let below = at-used one key t h (sym q ∙ o) in
            rw (y, lt-ltb at 8 (omega (arith, below, few)), i, o) refl
        counted false y h few q i = rw y refl
    by false b =
        let w : u ≡ 0 = e ∙ rw b refl in
        let z : n ≡ 0 = c.count ∙ rw w refl in
        rw (b, z) refl

-- at most 8 places are looked at
pub at-most-eight : (n : ℕ) → pick (leb n 8) n 0 ≤ 8
unfolding pick
at-most-eight n = by (leb n 8) refl
  where
    by : (b : Bool) → leb n 8 ≡ b → pick (leb n 8) n 0 ≤ 8
    by true b = rw b (leb-true n 8 b)
    by false b = rw b (omega arith)

-- the count with one more
pub counted-most : (hit : Bool) (n i : ℕ) → 0 < i → n + i ≤ 8 → pick hit (n + 1) n + (i - 1) ≤ 8
unfolding pick
counted-most true n i h l = omega arith
counted-most false n i h l = omega arith
