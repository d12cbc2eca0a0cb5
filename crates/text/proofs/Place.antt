-- Laws of text put into a list at a place, and of writers called one after the other. Assumes nothing.
use Prim.Native.Nat.{ℕ, suc, ◌+◌, ◌≤◌, ◌<◌}
use native.Mathlib.Omega.{arith}
use mathlib.Core.Path.{◌≡◌, sym, ap, ◌∙◌, subst}
use mathlib.Core.List.{List, [], ◌∷◌, ◌++◌, append_assoc}
use lib.ListN.{length, take, drop, get_or, set, length-append, length-take, length-drop, take-append-drop}
use lib.Seq.{take-suc, take_at, drop_at, drop-append-add, drop-drop, set_at, length-take-le}
use borrow.Rule.Slice.PartMut.{put_mid}
use Rattle.definition_script.specs.Call.{written_at}
use Rattle.text.specs.Put.{Put, Fit, Written}

pub place_none : (at : ℕ) (l : List ℕ) → written_at at [] l ≡ l
unfolding written_at
place_none at l = ap (λ (k : ℕ). take at l ++ drop k l) (let e : at + 0 ≡ at = omega arith in e) ∙ take-append-drop at l

head : (at : ℕ) (xs l : List ℕ) → at ≤ length l → length (take at l ++ xs) ≡ at + length xs
head at xs l h = length-append (take at l) xs ∙ ap (λ (k : ℕ). k + length xs) (length-take-le at l h)

pub place-length : (at : ℕ) (xs l : List ℕ) → at + length xs ≤ length l → length (written_at at xs l) ≡ length l
unfolding written_at
place-length at xs l h = simp (length-append, length-take, length-drop) (omega arith)

-- two texts, the second behind the first, are one
pub place-place : (at : ℕ) (xs ys l : List ℕ) → at + length xs ≤ length l → written_at (at + length xs) ys (written_at at xs l) ≡ written_at at (xs ++ ys) l
unfolding written_at
place-place at xs ys l h =
    let p : List ℕ = take at l ++ xs in
    let n : ℕ = at + length xs in
    let q : List ℕ = drop n l in
    let lp : length p ≡ n = head at xs l (omega arith) in
    let e : take at l ++ (xs ++ q) ≡ p ++ q = sym (append_assoc (take at l) xs q) in
    let t : take n (p ++ q) ≡ p = take_at p q n lp in
    let d : drop (n + length ys) (p ++ q) ≡ drop (n + length ys) l =
    ap (λ (k : ℕ). drop (k + length ys) (p ++ q)) (sym lp) ∙ drop-append-add p q (length ys) ∙ drop-drop (length ys) n l
    in
    let m : n + length ys ≡ at + length (xs ++ ys) = simp length-append (omega arith) in
    ap (λ (z : List ℕ). take n z ++ (ys ++ drop (n + length ys) z)) e
    ∙ ap (λ (z : List ℕ). z ++ (ys ++ drop (n + length ys) (p ++ q))) t
    ∙ ap (λ (z : List ℕ). p ++ (ys ++ z)) d
    ∙ ap (λ (k : ℕ). p ++ (ys ++ drop k l)) m
    ∙ append_assoc (take at l) xs (ys ++ drop (at + length (xs ++ ys)) l)
    ∙ ap (λ (z : List ℕ). take at l ++ z) (sym (append_assoc xs ys (drop (at + length (xs ++ ys)) l)))

-- one byte stored before a text
pub place-cons : (at v : ℕ) (ys l : List ℕ) → at + suc (length ys) ≤ length l → set (written_at (suc at) ys l) at v ≡ written_at at (v ∷ ys) l
unfolding written_at
place-cons at v ys l h =
    let r : List ℕ = ys ++ drop (suc at + length ys) l in
    ap (λ (z : List ℕ). set (z ++ r) at v) (take-suc l at 0 (omega arith))
    ∙ ap (λ (z : List ℕ). set z at v) (append_assoc (take at l) (get_or l at 0 ∷ []) r)
    ∙ set_at (take at l) (get_or l at 0) r v at (length-take-le at l (omega arith))
    ∙ ap (λ (k : ℕ). take at l ++ (v ∷ (ys ++ drop k l))) (let e : suc at + length ys ≡ at + suc (length ys) = omega arith in e)

pub place-one : (at v : ℕ) (l : List ℕ) → at < length l → set l at v ≡ written_at at (v ∷ []) l
place-one at v l h = ap (λ (z : List ℕ). set z at v) (sym (place_none (suc at) l)) ∙ place-cons at v [] l (omega arith)

-- one byte stored behind a text
pub place-snoc : (at v : ℕ) (xs l : List ℕ) → at + length xs < length l → set (written_at at xs l) (at + length xs) v ≡ written_at at (xs ++ (v ∷ [])) l
place-snoc at v xs l h =
    place-one (at + length xs) v (written_at at xs l) (rw (place-length at xs l (omega arith)) h) ∙ place-place at xs (v ∷ []) l (omega arith)

-- a text copied over a part of a list that is as long
pub place-mid : (at k : ℕ) (xs ys l : List ℕ) → k ≡ length xs → ys ≡ xs → put_mid at k l ys ≡ written_at at xs l
unfolding written_at
place-mid at k xs ys l e f = rw (e, f) (ap (λ (z : List ℕ). take at l ++ (xs ++ z)) (drop-drop (length xs) at l))

-- ---- writers

join : (j k at r r' : ℕ) (xs ys l l' l'' : List ℕ) → Put j at xs r l l' → Put k r ys r' l' l'' → Put (j + k) at (xs ++ ys) r' l l''
join j k at r r' xs ys l l' l'' p q =
    let h : at + length xs ≤ length l = omega (arith, p.next, p.fits) in
    let s : length l' ≡ length l = ap length p.out ∙ place-length at xs l h in
    record {
      next = simp length-append (omega (arith, p.next, q.next));
      most = omega (arith, p.most, q.most);
      fits = omega (arith, q.fits, s);
      out = q.out ∙ ap (λ (z : List ℕ). written_at r ys z) p.out ∙ ap (λ (n : ℕ). written_at n ys (written_at at xs l)) p.next ∙ place-place at xs ys l h;
    }

room : (j k at r : ℕ) (xs l l' : List ℕ) → Put j at xs r l l' → at + (j + k) ≤ length l → r + k ≤ length l'
room j k at r xs l l' p h =
    let s : length l' ≡ length l = ap length p.out ∙ place-length at xs l (omega (arith, p.next, p.fits)) in
    omega (arith, p.most, s)

-- one writer, then another at the place that the first gave
pub seq : {j k at r r' : ℕ} {xs ys l l' l'' : List ℕ} → Fit j at xs r l l' → Fit k r ys r' l' l'' → Fit (j + k) at (xs ++ ys) r' l l''
seq {j} {k} {at} {r} {r'} {xs} {ys} {l} {l'} {l''} p q =
    record {
      put = λ h.
          let f : Put j at xs r l l' = p.put (omega arith) in
          join j k at r r' xs ys l l' l'' f (q.put (room j k at r xs l l' f h));
    }

-- a writer that asks for more room
pub up_to : {j at r : ℕ} {xs l l' : List ℕ} (k : ℕ) → j ≤ k → Fit j at xs r l l' → Fit k at xs r l l'
up_to {j} {at} {r} {xs} {l} {l'} k h p =
    record {
      put = λ g.
          let f : Put j at xs r l l' = p.put (omega arith) in
          record { next = f.next; most = omega (arith, f.most); fits = f.fits; out = f.out };
    }

-- nothing is put
pub nothing : (k at : ℕ) (l : List ℕ) → Fit k at [] at l l
nothing k at l = record { put = λ h. record { next = omega arith; most = omega arith; fits = omega arith; out = sym (place_none at l) } }

-- the same text, said in another way
pub same : {k at r : ℕ} {xs l l' : List ℕ} (ys : List ℕ) → xs ≡ ys → Fit k at xs r l l' → Fit k at ys r l l'
same {k} {at} {r} {xs} {l} {l'} ys e p = subst (λ (z : List ℕ). Fit k at z r l l') e p

-- a writer that had room
pub had_room : {k at r : ℕ} {xs l l' : List ℕ} → at + k ≤ length l → Fit k at xs r l l' → Written k at xs r l l'
had_room h p = record { fit = p; kept = λ g. absurd (let z : ⊥ = omega arith in z) }

-- the text stands in the list up to the place behind it
pub place-front : (at : ℕ) (xs l : List ℕ) → at ≤ length l → take (at + length xs) (written_at at xs l) ≡ take at l ++ xs
unfolding written_at
place-front at xs l h =
    ap (λ (z : List ℕ). take (at + length xs) z) (sym (append_assoc (take at l) xs (drop (at + length xs) l)))
    ∙ take_at (take at l ++ xs) (drop (at + length xs) l) (at + length xs) (head at xs l h)

-- what stands behind it is as before
pub place-behind : (at : ℕ) (xs l : List ℕ) → at ≤ length l → drop (at + length xs) (written_at at xs l) ≡ drop (at + length xs) l
unfolding written_at
place-behind at xs l h =
    ap (λ (z : List ℕ). drop (at + length xs) z) (sym (append_assoc (take at l) xs (drop (at + length xs) l)))
    ∙ drop_at (take at l ++ xs) (drop (at + length xs) l) (at + length xs) (head at xs l h)
