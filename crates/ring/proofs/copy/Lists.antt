-- Facts of lists over any element: one entry of `++` and of `paste`, equality by entries, and a copy to a part of a list. Assumes nothing.
use Prim.Native.Nat.{ℕ, ◌+◌, ◌-◌, ◌≤◌, ◌<◌}
use mathlib.Core.Path.{◌≡◌, refl, sym, ap, ◌∙◌, subst}
use mathlib.Core.List.{List, [], ◌∷◌, ◌++◌, append_assoc}
use native.Mathlib.Omega.{arith}
use native.Mathlib.Decide.{dec_le}
use native.Mathlib.Nat.{lt_of_not-le, le_refl, zero-add}
use lib.ListN.{length, get_or, take, drop, length-append, length-take, length-drop, get_or-append, take-append-drop}
use lib.Seq.{paste, drop-append-le, take-append-le, get_or-take, get_or-drop, get_or-append-add, ext_get_or, take-length, take-add, take-append_seam, drop-append-add, take-paste, drop-paste, take-take, drop-drop}

-- one order of two numbers or the other
pub split {ℓ} : {X : Type ℓ} (a b : ℕ) → (a ≤ b → X) → (b < a → X) → X
split a b f g = elim (dec_le a b) [ yes h ↦ f h | no h ↦ g (lt_of_not-le h) ]

module _ {A : Type 0} where
  -- two lists of one length are equal if each entry is, whatever stands for an entry past the end
  pub ext : (l m : List A) → length l ≡ length m → ((d : A) (i : ℕ) → i < length l → get_or l i d ≡ get_or m i d) → l ≡ m
  ext [] [] e f = refl
  ext [] (y ∷ ys) e f = ext_get_or y [] (y ∷ ys) e (f y)
  ext (x ∷ xs) m e f = ext_get_or x (x ∷ xs) m e (f x)

  -- an entry of `++` in the second list
  pub get_or-right : (xs ys : List A) (i : ℕ) (d : A) → length xs ≤ i → get_or (xs ++ ys) i d ≡ get_or ys (i - length xs) d
  get_or-right xs ys i d h =
      let e : i ≡ length xs + (i - length xs) = omega arith in
      subst (λ (k : ℕ). get_or (xs ++ ys) k d ≡ get_or ys (i - length xs) d) (sym e) (get_or-append-add xs ys (i - length xs) d)

  -- an entry of a paste: before it, in it, after it
  module _ (l : List A) (at : ℕ) (xs : List A) (n : ℕ) (room : at + n ≤ length l) (has : n ≤ length xs) (d : A) where
    head_length_lem : length (take at l ++ take n xs) ≡ at + n
    head_length_lem = simp (length-append, length-take) (omega arith)

    at_length : length (take at l) ≡ at
    at_length = simp length-take (omega arith)

    pub paste-before : (i : ℕ) → i < at → get_or (paste l at xs n) i d ≡ get_or l i d
    paste-before i h =
        get_or-append (take at l ++ take n xs) (drop (at + n) l) d i (omega (arith, head_length_lem))
        ∙ get_or-append (take at l) (take n xs) d i (omega (arith, at_length))
        ∙ get_or-take at l i d h

    pub paste_in : (i : ℕ) → i < n → get_or (paste l at xs n) (at + i) d ≡ get_or xs i d
    paste_in i h =
        get_or-append (take at l ++ take n xs) (drop (at + n) l) d (at + i) (omega (arith, head_length_lem))
        ∙ get_or-right (take at l) (take n xs) (at + i) d (omega (arith, at_length))
        ∙ ap (λ (k : ℕ). get_or (take n xs) k d) (let e : at + i - length (take at l) ≡ i = omega (arith, at_length) in e)
        ∙ get_or-take n xs i d h

    pub paste-after : (i : ℕ) → at + n ≤ i → get_or (paste l at xs n) i d ≡ get_or l i d
    paste-after i h =
        get_or-right (take at l ++ take n xs) (drop (at + n) l) i d (omega (arith, head_length_lem))
        ∙ get_or-drop (at + n) l (i - length (take at l ++ take n xs)) d
        ∙ ap (λ (k : ℕ). get_or l k d) (let e : at + n + (i - length (take at l ++ take n xs)) ≡ i = omega (arith, head_length_lem) in e)

  -- a copy through a list z: xs is the part of z after the first copy, and ys the part of l after the second
  pub copied_through : (z s l xs ys : List A) → xs ≡ s → ys ≡ take (length s) (xs ++ drop (length s) z) → ys ++ drop (length s) l ≡ paste l 0 s (length s)
  copied_through z s l xs ys first f =
      let second : ys ≡ s = f ∙ simp (first, take-append_seam) in
      simp (second, take-length, zero-add)

  -- a part of a list past its first k entries, with what stands behind the part
  drop_part : (k n : ℕ) (l : List A) → k ≤ n → n ≤ length l → drop k (take n l) ++ drop n l ≡ drop k l
  drop_part k n l h room =
      sym (drop-append-le k (take n l) (drop n l) (simp length-take (omega arith))) ∙ ap (drop k) (take-append-drop n l)

  -- the entries past the first j of a part
  pub take_part : (i j n : ℕ) (l : List A) → i + j ≤ n → n ≤ length l → take i (drop j (take n l)) ≡ take i (drop j l)
  take_part i j n l h room =
      sym (take-append-le i (drop j (take n l)) (drop n l) (simp (length-drop, length-take) (omega arith)))
      ∙ ap (take i) (drop_part j n l (omega arith) room)

  -- a copy to the start of the part of l that has n entries from `at` on
  pub copied_part : (l f ys : List A) (at n k : ℕ) → k ≤ n → at + n ≤ length l → ys ≡ paste (take n (drop at l)) 0 f k
      → take at l ++ (ys ++ drop n (drop at l)) ≡ paste l at f k
  copied_part l f ys at n k h room e =
      let rest : drop k (take n (drop at l)) ++ drop n (drop at l) ≡ drop (at + k) l
      = drop_part k n (drop at l) h (simp length-drop (omega arith)) ∙ drop-drop k at l in
      rw (e, zero-add, append_assoc (take k f), rest, ← append_assoc (take at l)) refl

  -- the next n of xs copied behind the first i of it
  pub paste-next : (l : List A) (at : ℕ) (xs : List A) (i n : ℕ) → at ≤ length l → i + n ≤ length xs
      → paste (paste l at xs i) (at + i) (take n (drop i xs)) (length (take n (drop i xs))) ≡ paste l at xs (i + n)
  paste-next l at xs i n h has =
      let k : length (take n (drop i xs)) ≡ n = simp (length-take, length-drop) (omega arith) in
      let behind : drop (at + i + n) (paste l at xs i) ≡ drop (at + (i + n)) l
      = sym (drop-drop n (at + i) (paste l at xs i))
      ∙ ap (drop n) (drop-paste l at xs i h (omega arith))
      ∙ drop-drop n (at + i) l
      ∙ ap (λ (j : ℕ). drop j l) (let e : at + i + n ≡ at + (i + n) = omega arith in e) in
      rw (k, take-paste l at xs i h (omega arith), behind, take-take n n (drop i xs) (le_refl n), append_assoc (take at l) (take i xs) (take n (drop i xs)), ← take-add i n xs)

  -- a copy of the next n of xs to the part of m from i on, where m has the first i of xs at its start
  pub copied_next : (l m xs ys : List A) (i n : ℕ) → i + n ≤ length xs → i + n ≤ length m → m ≡ paste l 0 xs i
      → ys ≡ paste (take (length m - i) (drop i m)) 0 (take (i + n - i) (drop i xs)) (length (take (i + n - i) (drop i xs)))
      → take i m ++ (ys ++ drop (length m - i) (drop i m)) ≡ paste l 0 xs (i + n)
  copied_next l m xs ys i n has room e f =
      let k : i + n - i ≡ n = omega arith in
      let len : length (take (i + n - i) (drop i xs)) ≤ length m - i = simp (length-take, length-drop) (omega arith) in
      copied_part m (take (i + n - i) (drop i xs)) ys i (length m - i) (length (take (i + n - i) (drop i xs))) len (omega arith) f
      ∙ rw (k, e)
      (subst (λ (j : ℕ). paste (paste l 0 xs i) j (take n (drop i xs)) (length (take n (drop i xs))) ≡ paste l 0 xs (i + n)) (zero-add i)
      (paste-next l 0 xs i n (omega arith) has))

  -- a copy of a part of xs, as a copy of the first n from f on
  pub paste_part : (l : List A) (at : ℕ) (xs : List A) (f n : ℕ) → f + n ≤ length xs
      → paste l at (take n (drop f xs)) (length (take n (drop f xs))) ≡ paste l at (drop f xs) n
  paste_part l at xs f n h =
      let e : length (take n (drop f xs)) ≡ n = simp (length-take, length-drop) (omega arith) in
      simp (e, take-take n n (drop f xs) (le_refl n))

  -- two copies, one behind the other
  pub paste-both : (l us vs : List A) → paste (paste l 0 us (length us)) (length us) vs (length vs) ≡ paste l 0 (us ++ vs) (length (us ++ vs))
  paste-both l us vs =
      simp (take-length, zero-add, take-append_seam, drop-append-add, drop-drop) (ap (λ (k : ℕ). us ++ vs ++ drop k l) (sym (length-append us vs)))
