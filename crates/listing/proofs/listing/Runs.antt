-- What is written when a script is run into a buffer. Assumes nothing.
use Prim.Native.Nat.{ℕ, ◌+◌, ◌-◌, ◌≤◌}
use native.Mathlib.Nat.{zero-add}
use native.Mathlib.Omega.{arith}
use mathlib.Core.Path.{◌≡◌, refl, sym, ap, ◌∙◌}
use mathlib.Core.Bool.{Bool, true, false}
use mathlib.Core.List.{List, [], ◌++◌, append-nil, append_assoc}
use mathlib.Core.Logic.{⊎_elim}
use lib.Dec.{leb}
use lib.ListN.{length, take, drop, length-take, length-drop, length-append, drop_of_length-le}
use lib.Seq.{drop-drop, take_all, take-append-add, take-append-le}
use borrow.Author.Tests.{le-leb, leb-true, leb-false}
use borrow.Rule.Slice.PartMut.{mid_of, put_mid, post_of, same_len_mid}
use Rattle.definition.specs.Status.{pick, ◌and◌}
use Rattle.port.proofs.places.Lists.{either}
use Rattle.definition_script.specs.Call.{written_at, Rings}
use Rattle.text.specs.Put.{Put, Written}
use Rattle.text.proofs.Place.{place-front, place_none, place-place}
use Rattle.definition_script.specs.declared.ScriptState.{ScriptState}
use Rattle.feed.specs.declared.Fed.{Fed}
use Rattle.line.specs.line.LineDone.{LINE}
use Rattle.feed.specs.Turn.{LIMIT}
use Rattle.definition_script.specs.Listing.{start_state, Machine, machine, move_of, stay, header, run, closing}
use Rattle.feed.specs.Feed.{is_ready, Block, fed_of, FeedDone}
use Rattle.listing.proofs.script.Runs.{run-stay}
use Rattle.listing.proofs.script.Tells.{fed-rest, fed_stuck}
use Rattle.listing.specs.listing.Ran.{if_room, lines_text, ran_text, ran_machine, RanLent, Ran}

-- what a writer gives back lies in the list
written-fits : {k at r : ℕ} {xs l l' : List ℕ} → Written k at xs r l l' → at ≤ length l → r ≤ length l
written-fits {k} {at} {r} {xs} {l} {l'} w h =
    ⊎_elim
    (λ (e : leb (at + k) (length l) ≡ true). (w.fit.put (leb-true (at + k) (length l) e)).fits)
    (λ (e : leb (at + k) (length l) ≡ false). omega (arith, (w.kept (leb-false (at + k) (length l) e)).0))
    (either (leb (at + k) (length l)))

put_all : {k r : ℕ} {xs l l' : List ℕ} → Put k 0 xs r l l' → take r l' ≡ xs
put_all {k} {r} {xs} {l} {l'} p =
    ap (λ (z : List ℕ). take r z) p.out ∙ ap (λ (n : ℕ). take n (written_at 0 xs l)) p.next ∙ place-front 0 xs l (omega arith)

-- the front of a list, and what was put behind it
two : (a b : ℕ) (x y p : List ℕ) → a ≤ length x → b ≤ length y → take (a + b) (take a x ++ (y ++ p)) ≡ take a x ++ take b y
two a b x y p ha hb =
    let e : a ≡ length (take a x) = omega (arith, length-take a x) in
    ap (λ (n : ℕ). take (n + b) (take a x ++ (y ++ p))) e ∙ take-append-add (take a x) (y ++ p) b
    ∙ ap (λ (l : List ℕ). take a x ++ l) (take-append-le b y p hb)

ready : (input memory : ℕ) → input ≤ LIMIT → memory ≤ 4096 → is_ready start_state 0 input memory ≡ true
unfolding is_ready start_state ◌and◌
ready input memory hi hm = simp (le-leb input 4611686018427387904 hi, le-leb memory 4096 hm)

-- a list, when its part from a place on is back
abbrev pub behind : (at : ℕ) → (l part : List ℕ) → List ℕ
behind at l part = put_mid at (length l - at) l part

-- the output keeps its length when the part behind the header is back, and then the part behind the lines
pub out-length : (n w : ℕ) (out out₁ sub sub₂ : List ℕ) → length out₁ ≡ length out → length sub ≡ length (mid_of n (length out₁ - n) out₁)
    → length sub₂ ≡ length (mid_of (n + w) (length (behind n out₁ sub) - (n + w)) (behind n out₁ sub)) → length (behind (n + w) (behind n out₁ sub) sub₂) ≡ length out
out-length n w out out₁ sub sub₂ same₁ same same₂ =
    same_len_mid (n + w) (length (behind n out₁ sub) - (n + w)) (behind n out₁ sub) sub₂ same₂ ∙ same_len_mid n (length out₁ - n) out₁ sub same ∙ same₁

module _ (s memory memory' l sub l₂ sub₂ : List ℕ) (z z' : Rings) (c : ℕ) (f : Fed)
    (d : FeedDone start_state 0 s memory memory' z z' l sub f)
    (w : Written 26 0 (closing f.taken f.state.ended (drop f.taken s)) c l₂ sub₂)
    (small : length memory ≤ 4096)
  where
    -- with room for a line, the block leaves no move, and then comes what the end of the input puts out
    lines : length s ≤ LIMIT → f.written + LINE ≤ length sub → 26 ≤ length l₂ → take f.written sub ++ take c sub₂ ≡ run 0 (machine start_state memory z) s
    lines hs room last =
        let m : Machine = machine f.state memory' z' in
        let left : List ℕ = drop f.taken s in
        let still : move_of m left ≡ stay = fed_stuck d (ready (length s) (length memory) hs small) (omega arith) in
        let end : run f.taken m left ≡ take c sub₂ = run-stay f.taken m left still ∙ sym (put_all (w.fit.put last)) in
        let begin : run 0 (machine start_state memory z) s ≡ take f.written sub ++ run (0 + f.taken) m (left ++ []) =
        ap (λ (x : List ℕ). run 0 (machine start_state memory z) x) (sym (append-nil s)) ∙ fed-rest d [] in
        let same : run (0 + f.taken) m (left ++ []) ≡ run f.taken m left =
        ap (λ (n : ℕ). run n m (left ++ [])) (zero-add f.taken) ∙ ap (λ (x : List ℕ). run f.taken m x) (append-nil left) in
        sym (begin ∙ ap (λ (x : List ℕ). take f.written sub ++ x) (same ∙ end))

-- ---- the text as a whole

-- what a writer put, whether it had room or not
put_if : {k r : ℕ} {xs l l' : List ℕ} → Written k 0 xs r l l' → (r ≡ length (if_room k (length l) xs)) × (l' ≡ written_at 0 (if_room k (length l) xs) l)
unfolding if_room pick
put_if {k} {r} {xs} {l} {l'} w =
    ⊎_elim
    (λ (e : leb k (length l) ≡ true).
    let p = w.fit.put (omega (arith, leb-true k (length l) e)) in rw e (omega (arith, p.next), p.out))
    (λ (e : leb k (length l) ≡ false).
    let p = w.kept (omega (arith, leb-false k (length l) e)) in rw e (p.0, p.1 ∙ sym (place_none 0 l)))
    (either (leb k (length l)))

-- a text that was put at the front of a part was put at the part's place
part_put : (at : ℕ) (xs l : List ℕ) → at ≤ length l → behind at l (written_at 0 xs (mid_of at (length l - at) l)) ≡ written_at at xs l
unfolding written_at
part_put at xs l h =
    let n : ℕ = length l - at in
    let e : mid_of at n l ≡ drop at l = take_all n (drop at l) (omega (arith, length-drop at l)) in
    let p : post_of at n l ≡ [] = drop_of_length-le (drop at l) (let k : length (drop at l) ≤ n = omega (arith, length-drop at l) in k) in
    let z : 0 + length xs ≡ length xs = omega arith in
    ap (λ (x : List ℕ). take at l ++ ((xs ++ drop (0 + length xs) x) ++ post_of at n l)) e
    ∙ ap (λ (x : List ℕ). take at l ++ ((xs ++ drop (0 + length xs) (drop at l)) ++ x)) p
    ∙ ap (λ (x : List ℕ). take at l ++ x) (append-nil (xs ++ drop (0 + length xs) (drop at l)))
    ∙ ap (λ (k : ℕ). take at l ++ (xs ++ drop k (drop at l))) z
    ∙ ap (λ (x : List ℕ). take at l ++ (xs ++ x)) (drop-drop (length xs) at l)

-- the three texts are those of the definition
text-is : (room : ℕ) (m : Machine) (s hd : List ℕ) (b : Block) (cl : List ℕ) (i j : ℕ) (f : Fed) → hd ≡ if_room 22 room header → i ≡ room - length hd
    → b ≡ fed_of 0 i m s → j ≡ i - length b.text → cl ≡ if_room 26 j (closing f.taken f.state.ended (drop f.taken s))
    → f.taken ≡ b.taken → f.state.ended ≡ b.after.state.ended → (hd ++ b.text) ++ cl ≡ ran_text room m s
unfolding ran_text lines_text
text-is room m s hd b cl i j f eh ei eb ej ec et ee =
    append_assoc hd b.text cl
    ∙ ap (λ (x : List ℕ). hd ++ (b.text ++ x))
    (ec
    ∙ ap (λ (k : ℕ). if_room 26 k (closing f.taken f.state.ended (drop f.taken s))) ej
    ∙ ap (λ (k : ℕ). if_room 26 (i - length b.text) (closing k f.state.ended (drop k s))) et
    ∙ ap (λ (v : Bool). if_room 26 (i - length b.text) (closing b.taken v (drop b.taken s))) ee)
    ∙ ap (λ (v : Block). hd ++ (v.text ++ if_room 26 (i - length v.text) (closing v.taken v.after.state.ended (drop v.taken s)))) eb
    ∙ ap (λ (k : ℕ). hd ++ lines_text k s (fed_of 0 k m s)) ei
    ∙ ap (λ (v : List ℕ). v ++ lines_text (room - length v) s (fed_of 0 (room - length v) m s)) eh

-- what the block leaves of memory, rings and tables
ran-lent :
    {s memory memory' out out₁ l sub : List ℕ} {z z' : Rings} {n : ℕ} {st : ScriptState} {f : Fed}
    → st ≡ start_state → Written 22 0 header n out out₁ → length out₁ ≡ length out → FeedDone st 0 s memory memory' z z' l sub f
    → l ≡ mid_of n (length out₁ - n) out₁ → RanLent (length out) (machine start_state memory z) s memory' z'
unfolding ran_machine
ran-lent {s} {memory} {memory'} {out} {out₁} {l} {sub} {z} {z'} {n} {st} {f} e h same d₀ part =
    let m : Machine = machine start_state memory z in
    let d : FeedDone start_state 0 s memory memory' z z' l sub f = rw e at d₀ in
    let hd : List ℕ = if_room 22 (length out) header in
    let x = put_if h in
    let begins : n ≤ length out = written-fits h (omega arith) in
    let k : length l ≡ length out - length hd =
    ap length part ∙ (omega (arith, length-take (length out₁ - n) (drop n out₁), length-drop n out₁, x.0)) in
    let a : machine f.state memory' z' ≡ (fed_of 0 (length out - length hd) m s).after = d.block.after ∙ ap (λ (j : ℕ). (fed_of 0 j m s).after) k in
    record { memory = ap (λ (v : Machine). v.memory) a; lent = ap (λ (v : Machine). v.lent) a }

-- the header, the lines in the part behind it, and the end of the input in the part behind these
pub ran :
    {s memory memory' out out₁ l sub l₂ sub₂ : List ℕ} {z z' : Rings} {n c : ℕ} {st : ScriptState} {f : Fed}
    → length memory ≤ 4096 → st ≡ start_state → Written 22 0 header n out out₁ → length out₁ ≡ length out
    → FeedDone st 0 s memory memory' z z' l sub f → length sub ≡ length l
    → Written 26 0 (closing f.taken f.state.ended (mid_of f.taken (length s - f.taken) s)) c l₂ sub₂ → length sub₂ ≡ length l₂
    → l ≡ mid_of n (length out₁ - n) out₁ → l₂ ≡ mid_of (n + f.written) (length (behind n out₁ sub) - (n + f.written)) (behind n out₁ sub)
    → Ran (machine start_state memory z) s (n + f.written + c) out (behind (n + f.written) (behind n out₁ sub) sub₂)
    × RanLent (length out) (machine start_state memory z) s memory' z'
ran {s} {memory} {memory'} {out} {out₁} {l} {sub} {l₂} {sub₂} {z} {z'} {n} {c} {st} {f} small e h same₁ d₀ same w₀ same₂ part part₂ =
    let d : FeedDone start_state 0 s memory memory' z z' l sub f = rw e at d₀ in
    let left : mid_of f.taken (length s - f.taken) s ≡ drop f.taken s = take_all (length s - f.taken) (drop f.taken s) (omega (arith, length-drop f.taken s)) in
    let w : Written 26 0 (closing f.taken f.state.ended (drop f.taken s)) c l₂ sub₂ = rw left at w₀ in
    let at : ℕ = n + f.written in
    let out₂ : List ℕ = behind n out₁ sub in
    let same₀ : length sub ≡ length (mid_of n (length out₁ - n) out₁) = same ∙ ap length part in
    let len₁ : length out₂ ≡ length out = same_len_mid n (length out₁ - n) out₁ sub same₀ ∙ same₁ in
    let all : length (behind at out₂ sub₂) ≡ length out = out-length n f.written out out₁ sub sub₂ same₁ same₀ (same₂ ∙ ap length part₂) in
    let rests : c ≤ length l₂ = written-fits w (omega arith) in
    let begins : n ≤ length out = written-fits h (omega arith) in
    let len : n + length sub ≡ length out = omega (arith, same₀, length-take (length out₁ - n) (drop n out₁), length-drop n out₁) in
    let within : at ≤ length out₂ = omega (arith, d.fits) in
    let len₂ : at + length l₂ ≡ length out = omega (arith, ap length part₂, length-take (length out₂ - at) (drop at out₂), length-drop at out₂) in
    let m : Machine = machine start_state memory z in
    let hd : List ℕ = if_room 22 (length out) header in
    let x = put_if h in
    let b : Block = fed_of 0 (length l) m s in
    let cl : List ℕ = if_room 26 (length l₂) (closing f.taken f.state.ended (drop f.taken s)) in
    let y = put_if w in
    let ll : length l ≡ length out - n = ap length part ∙ (omega (arith, length-take (length out₁ - n) (drop n out₁), length-drop n out₁)) in
    let o₂ : out₂ ≡ written_at 0 (hd ++ b.text) out =
    ap (λ (v : List ℕ). behind n out₁ v) (d.block.text ∙ ap (λ (v : List ℕ). written_at 0 b.text v) part)
    ∙ part_put n b.text out₁ (omega arith)
    ∙ ap (λ (k : ℕ). written_at k b.text out₁) (let k : n ≡ 0 + length hd = omega (arith, x.0) in k)
    ∙ ap (λ (v : List ℕ). written_at (0 + length hd) b.text v) x.1
    ∙ place-place 0 hd b.text out (omega (arith, x.0))
    in
    let o₃ : behind at out₂ sub₂ ≡ written_at 0 ((hd ++ b.text) ++ cl) out =
    ap (λ (v : List ℕ). behind at out₂ v) (y.1 ∙ ap (λ (v : List ℕ). written_at 0 cl v) part₂)
    ∙ part_put at cl out₂ within
    ∙ ap (λ (k : ℕ). written_at k cl out₂) (let k : at ≡ 0 + length (hd ++ b.text) = omega (arith, x.0, d.block.written, length-append hd b.text) in k)
    ∙ ap (λ (v : List ℕ). written_at (0 + length (hd ++ b.text)) cl v) o₂
    ∙ place-place 0 (hd ++ b.text) cl out (omega (arith, x.0, d.block.written, length-append hd b.text))
    in
    let t : (hd ++ b.text) ++ cl ≡ ran_text (length out) m s = text-is (length out) m s hd b cl (length l) (length l₂) f refl (ll ∙ (omega (arith, x.0))) refl (omega (arith, x.0, d.block.written)) refl
    d.block.taken (ap (λ (v : Machine). v.state.ended) d.block.after) in (
      record {
        fits = omega arith;
        next = omega (arith, x.0, d.block.written, y.0, length-append hd b.text, length-append (hd ++ b.text) cl, ap length t);
        text = o₃ ∙ ap (λ (v : List ℕ). written_at 0 v out) t;
        whole = λ hs room.
            let front : take n out₁ ≡ header = put_all (h.fit.put (omega arith)) in
            let text : take f.written sub ++ take c sub₂ ≡ run 0 (machine start_state memory z) s =
            lines s memory memory' l sub l₂ sub₂ z z' c f d w small hs (omega arith) (omega arith) in
            two at c out₂ sub₂ (post_of at (length out₂ - at) out₂) within (omega arith)
            ∙ ap (λ (x : List ℕ). x ++ take c sub₂) (two n f.written out₁ sub (post_of n (length out₁ - n) out₁) (omega arith) d.fits)
            ∙ append_assoc (take n out₁) (take f.written sub) (take c sub₂)
            ∙ ap (λ (x : List ℕ). x ++ (take f.written sub ++ take c sub₂)) front
            ∙ ap (λ (x : List ℕ). header ++ x) text;
      },
      ran-lent e h same₁ d₀ part,
    )
