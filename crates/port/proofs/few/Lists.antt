-- Lists of which the front is written element by element, with an element put in or taken out. Assumes nothing.
use Prim.Native.Nat.{ℕ, suc, ◌+◌, ◌-◌, ◌≤◌, ◌<◌}
use mathlib.Core.Path.{◌≡◌, refl, sym, ap, ◌∙◌}
use mathlib.Core.Bool.{Bool, true, false, not}
use mathlib.Core.Logic.{⊎_elim}
use mathlib.Core.List.{List, [], ◌∷◌, ◌++◌, append_assoc}
use native.Mathlib.Omega.{arith}
use native.Mathlib.Numerals.{add-one}
use lib.Dec.{leb, ltb, eqb}
use lib.ListN.{length, take, drop, get_or, set, length-append, take-append-drop}
use lib.Seq.{slice, length-slice, length-take-le, take-suc, take_at, drop_at, drop-cons, drop-drop, set_at, get_or_at, get_or-take, get_or-drop, get_or-append-add}
use borrow.Author.Tests.{ltb-true, ltb-false, leb-true, leb-false, eqb-true, eqb-false, lt-ltb, le-ltb, lt-leb, ne_eqb}
use Rattle.definition.specs.Status.{pick, ◌and◌}
use Rattle.definition.specs.Port.{filter}
use Rattle.port.specs.few.Few.{index_of, removed_at}
use Rattle.port.proofs.places.Lists.{either, filter-append, filter-all, filter_empty}

-- what stands at i once the element at k is taken out of those up to `last`, by what stood there and behind it
unfoldable pub element_without : {A : Type 0} → (i k last : ℕ) (z here next : A) → A
element_without i k last z here next = pick (eqb i last) z (pick (leb k i and ltb i last) next here)

module _ {A : Type 0} where
  -- ---- a list whose first elements are those of another

  pub written_step : (to from : List A) (i : ℕ) (d : A) → i < length to → i < length from
      → set (take i to ++ drop i from) i (get_or to i d) ≡ take (i + 1) to ++ drop (i + 1) from
  written_step to from i d h k =
      let v = get_or to i d in
      ap (λ (l : List A). set (take i to ++ l) i v) (drop-cons from i d k)
      ∙ set_at (take i to) (get_or from i d) (drop (suc i) from) v i (length-take-le i to (omega arith))
      ∙ sym (append_assoc (take i to) (v ∷ []) (drop (suc i) from))
      ∙ ap (λ (l : List A). l ++ drop (suc i) from) (sym (take-suc to i d h))
      ∙ ap (λ (n : ℕ). take n to ++ drop n from) (sym (add-one i))

  pub written_all : (to from : List A) (n : ℕ) → drop n to ≡ drop n from → take n to ++ drop n from ≡ to
  written_all to from n e = ap (λ (l : List A). take n to ++ l) (sym e) ∙ take-append-drop n to

  -- an element before the seam of two lists, and one behind it
  before_seam : (a b : List A) (n i : ℕ) (d : A) → length a ≡ n → i < n → get_or (a ++ b) i d ≡ get_or a i d
  before_seam a b n i d l h = sym (get_or-take n (a ++ b) i d h) ∙ ap (λ (c : List A). get_or c i d) (take_at a b n l)

  behind_seam : (a b : List A) (n j : ℕ) (d : A) → length a ≡ n → get_or (a ++ b) (n + j) d ≡ get_or b j d
  behind_seam a b n j d l = ap (λ (m : ℕ). get_or (a ++ b) (m + j) d) (sym l) ∙ get_or-append-add a b j d

  in_slice : (tab : List A) (p u j : ℕ) (d : A) → p + j < u → get_or (slice p u tab) j d ≡ get_or tab (p + j) d
  in_slice tab p u j d h = get_or-drop p (take u tab) j d ∙ get_or-take u tab (p + j) d h

  -- ---- an element taken out

  module _ (tab : List A) (z d : A) (k last : ℕ) (h : k ≤ last) (l : last < length tab) where
    len_front : length (take k tab) ≡ k
    len_front = length-take-le k tab (omega arith)

    len_moved : length (slice (suc k) (suc last) tab) ≡ last - k
    len_moved = length-slice (suc k) (suc last) tab (omega arith) ∙ omega arith

    removed-behind : (j : ℕ) → get_or (removed_at k last z tab) (k + j) d ≡ get_or (slice (suc k) (suc last) tab ++ (z ∷ drop (suc last) tab)) j d
    unfolding removed_at
    removed-behind j = behind_seam (take k tab) _ k j d len_front

    removed_low : (i : ℕ) → i < k → get_or (removed_at k last z tab) i d ≡ get_or tab i d
    unfolding removed_at
    removed_low i b = before_seam (take k tab) _ k i d len_front b ∙ get_or-take k tab i d b

    removed-moved : (i : ℕ) → k ≤ i → i < last → get_or (removed_at k last z tab) i d ≡ get_or tab (i + 1) d
    removed-moved i b c =
        let e : k + (i - k) ≡ i = omega arith in
        let f : suc k + (i - k) ≡ i + 1 = omega arith in
        ap (λ (n : ℕ). get_or (removed_at k last z tab) n d) (sym e)
        ∙ removed-behind (i - k)
        ∙ before_seam (slice (suc k) (suc last) tab) (z ∷ drop (suc last) tab) (last - k) (i - k) d len_moved (omega arith)
        ∙ in_slice tab (suc k) (suc last) (i - k) d (omega arith)
        ∙ ap (λ (n : ℕ). get_or tab n d) f

    removed-last : get_or (removed_at k last z tab) last d ≡ z
    removed-last =
        let e : k + (last - k) ≡ last = omega arith in
        ap (λ (n : ℕ). get_or (removed_at k last z tab) n d) (sym e)
        ∙ removed-behind (last - k)
        ∙ get_or_at (slice (suc k) (suc last) tab) z (drop (suc last) tab) d (last - k) len_moved

    removed_high : (i : ℕ) → last < i → get_or (removed_at k last z tab) i d ≡ get_or tab i d
    removed_high i b =
        let e : k + ((last - k) + suc (i - suc last)) ≡ i = omega arith in
        let f : suc last + (i - suc last) ≡ i = omega arith in
        ap (λ (n : ℕ). get_or (removed_at k last z tab) n d) (sym e)
        ∙ removed-behind ((last - k) + suc (i - suc last))
        ∙ behind_seam (slice (suc k) (suc last) tab) (z ∷ drop (suc last) tab) (last - k) (suc (i - suc last)) d len_moved
        ∙ get_or-drop (suc last) tab (i - suc last) d
        ∙ ap (λ (n : ℕ). get_or tab n d) f

    pub removed_at_lem : (i : ℕ) → element_without i k last z (get_or tab i d) (get_or tab (i + 1) d) ≡ get_or (removed_at k last z tab) i d
    unfolding element_without pick ◌and◌
    removed_at_lem i =
        ⊎_elim
        (λ (e : eqb i last ≡ true). rw e (sym (ap (λ (n : ℕ). get_or (removed_at k last z tab) n d) (eqb-true i last e) ∙ removed-last)))
        (λ (e : eqb i last ≡ false).
        let ne = eqb-false i last e in
        ⊎_elim
        (λ (b : leb k i ≡ true).
        ⊎_elim
        (λ (c : ltb i last ≡ true). rw (e, b, c) (sym (removed-moved i (leb-true k i b) (ltb-true i last c))))
        (λ (c : ltb i last ≡ false). let le = ltb-false i last c in rw (e, b, c) (sym (removed_high i (omega (arith, le, ne)))))
        (either (ltb i last)))
        (λ (b : leb k i ≡ false). rw (e, b) (sym (removed_low i (leb-false k i b))))
        (either (leb k i)))
        (either (eqb i last))

    pub removed-size : length (removed_at k last z tab) ≡ length tab
    unfolding removed_at
    removed-size =
        length-append (take k tab) (slice (suc k) (suc last) tab ++ (z ∷ drop (suc last) tab))
        ∙ omega (
          arith,
          len_front,
          len_moved,
          length-append (slice (suc k) (suc last) tab) (z ∷ drop (suc last) tab),
          ap length (take-append-drop (suc last) tab),
          length-append (take (suc last) tab) (drop (suc last) tab),
          length-take-le (suc last) tab (omega arith),
        )

    pub removed-rest : drop (suc last) (removed_at k last z tab) ≡ drop (suc last) tab
    unfolding removed_at
    removed-rest =
        let m = slice (suc k) (suc last) tab in
        let c = drop (suc last) tab in
        ap (drop (suc last)) (sym (append_assoc ((take k tab) ++ m) (z ∷ []) c ∙ append_assoc (take k tab) m (z ∷ c)))
        ∙ drop_at ((take k tab ++ m) ++ (z ∷ [])) c (suc last)
        (length-append (take k tab ++ m) (z ∷ []) ∙ omega (arith, length-append (take k tab) m, len_front, len_moved))

  -- two lists that are alike from i on are alike from any later place on
  pub alike_later : (a b : List A) (i n : ℕ) → i ≤ n → drop i a ≡ drop i b → drop n a ≡ drop n b
  alike_later a b i n h e =
      let s : i + (n - i) ≡ n = omega arith in
      ap (λ (m : ℕ). drop m a) (sym s) ∙ sym (drop-drop (n - i) i a) ∙ ap (drop (n - i)) e ∙ drop-drop (n - i) i b ∙ ap (λ (m : ℕ). drop m b) s

  -- what stands at i, chosen step by step
  pub chosen_element : (i k last : ℕ) (z here next m : A) (w : Bool) → m ≡ pick w next here → w ≡ (leb k i and ltb i last)
      → pick (eqb i last) z m ≡ element_without i k last z here next
  unfolding element_without
  chosen_element i k last z here next m w e f = rw (e, f) refl

  -- nothing is taken out where all that is named lies behind
  stays : (i k last : ℕ) (z here next : A) → i < 8 → 8 ≤ last → 8 ≤ k → element_without i k last z here next ≡ here
  unfolding element_without pick ◌and◌
  stays i k last z here next h a b = rw (ne_eqb i last (λ e. omega (arith, e)), lt-leb k i (omega arith)) refl

  -- the same where that is one of the first 8, and no change where it is not
  module _ (tab : List A) (z d : A) (k last : ℕ) (on : ltb last 8 ≡ true → k ≤ last) (off : ltb last 8 ≡ false → 8 ≤ k) (l : 9 ≤ length tab) where
    pub taken_at : (i : ℕ) → i < 8 → element_without i k last z (get_or tab i d) (get_or tab (i + 1) d) ≡ get_or (pick (ltb last 8) (removed_at k last z tab) tab) i d
    unfolding pick
    taken_at i h = by (ltb last 8) refl
      where
        by : (b : Bool) → ltb last 8 ≡ b
            → element_without i k last z (get_or tab i d) (get_or tab (i + 1) d) ≡ get_or (pick (ltb last 8) (removed_at k last z tab) tab) i d
        by true b = let low = ltb-true last 8 b in rw b (removed_at_lem tab z d k last (on b) (omega (arith, low)) i)
        by false b = rw b (stays i k last z (get_or tab i d) (get_or tab (i + 1) d) h (ltb-false last 8 b) (off b))

    pub taken-size : length (pick (ltb last 8) (removed_at k last z tab) tab) ≡ length tab
    unfolding pick
    taken-size = by (ltb last 8) refl
      where
        by : (b : Bool) → ltb last 8 ≡ b → length (pick (ltb last 8) (removed_at k last z tab) tab) ≡ length tab
        by true b = let low = ltb-true last 8 b in rw b (removed-size tab z d k last (on b) (omega (arith, low)))
        by false b = rw b refl

    pub taken-rest : drop 8 (pick (ltb last 8) (removed_at k last z tab) tab) ≡ drop 8 tab
    unfolding pick
    taken-rest = by (ltb last 8) refl
      where
        by : (b : Bool) → ltb last 8 ≡ b → drop 8 (pick (ltb last 8) (removed_at k last z tab) tab) ≡ drop 8 tab
        by true b =
            let low = ltb-true last 8 b in
            rw b (alike_later (removed_at k last z tab) tab (suc last) 8 (omega (arith, low)) (removed-rest tab z d k last (on b) (omega (arith, low))))
        by false b = rw b refl

  -- ---- the only element that passes

  -- the others are those before it and those behind it
  pub others_of_one : (f : A → Bool) (xs : List A) → length (filter f xs) ≡ 1
      → (index_of f xs < length xs) × (filter (λ y. not (f y)) xs ≡ take (index_of f xs) xs ++ drop (suc (index_of f xs)) xs)
  unfolding filter pick index_of
  others_of_one f [] e = absurd (omega (arith, e))
  others_of_one f (x ∷ xs) e =
      ⊎_elim
      (λ (t : f x ≡ true). rw t (omega arith, filter-all f xs (filter_empty f xs (omega (arith, rw t at e)))))
      (λ (t : f x ≡ false).
      let i = others_of_one f xs (rw t at e) in
      rw t (omega (arith, i.0), ap (λ (l : List A). x ∷ l) i.1))
      (either (f x))

  -- whether it is among the first ones
  pub one_among : (f : A → Bool) (xs ys : List A) → length (filter f (xs ++ ys)) ≡ 1
      → length (filter f xs) ≡ pick (ltb (index_of f (xs ++ ys)) (length xs)) 1 0
  unfolding filter pick index_of
  one_among f [] ys e = sym (ap (λ (b : Bool). pick b 1 0) (le-ltb (index_of f ys) 0 (omega arith)))
  one_among f (x ∷ xs) ys e =
      ⊎_elim
      (λ (t : f x ≡ true).
      let none : length (filter f xs) ≡ 0 = omega (arith, rw t at e, ap length (filter-append f xs ys), length-append (filter f xs) (filter f ys)) in
      rw (t, lt-ltb 0 (suc (length xs)) (omega arith)) (omega (arith, none)))
      (λ (t : f x ≡ false).
      let i = one_among f xs ys (rw t at e) in
      rw (t, suc-ltb (index_of f (xs ++ ys)) (length xs)) i)
      (either (f x))
    where
      suc-ltb : (a b : ℕ) → ltb (suc a) (suc b) ≡ ltb a b
      suc-ltb a b =
          ⊎_elim
          (λ (t : ltb a b ≡ true). lt-ltb (suc a) (suc b) (omega (arith, ltb-true a b t)) ∙ sym t)
          (λ (t : ltb a b ≡ false). le-ltb (suc a) (suc b) (omega (arith, ltb-false a b t)) ∙ sym t)
          (either (ltb a b))
