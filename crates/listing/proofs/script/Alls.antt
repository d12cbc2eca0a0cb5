-- What all moves do, done in blocks. Assumes nothing.
use Prim.Native.Nat.{ℕ, zero, suc, ◌+◌, ◌-◌, ◌≤◌, ◌<◌}
use native.Mathlib.Omega.{arith}
use mathlib.Core.Path.{◌≡◌, refl, sym, ap, ◌∙◌}
use mathlib.Core.List.{List, [], ◌++◌, append_assoc, append-nil}
use lib.Dec.{leb}
use lib.ListN.{length, drop, length-drop}
use lib.Seq.{drop-drop}
use Rattle.script_call.proofs.record.Records.{cases}
use Rattle.definition_script.specs.Line.{stop_of}
use Rattle.line.specs.line.LineDone.{LINE}
use Rattle.definition_script.specs.Listing.{Machine, Move, stay, halt, go, move_of}
use Rattle.feed.specs.Turn.{machine_after}
use Rattle.feed.specs.Feed.{Block, no_block, behind, fed_move, fed_by, fed_from, all_of}
use Rattle.feed.proofs.Moves.{goes}
use Rattle.feed.proofs.Blocks.{block, fed-stay, fed-halt, fed-go, stopped_stays}
use Rattle.listing.proofs.script.Tells.{Passes, tells}

pub all_stay : (offset : ℕ) (m : Machine) (s : List ℕ) → move_of m s ≡ stay → all_of offset m s ≡ no_block m
unfolding all_of
all_stay offset m s e = fed-stay 0 offset 0 m s e

all-halt : (offset : ℕ) (m : Machine) (s : List ℕ) → move_of m s ≡ halt → all_of offset m s ≡ block (machine_after m halt) 0 (stop_of offset)
unfolding all_of
all-halt offset m s e = fed-halt 0 offset 0 m s (omega arith) e

all_go : (offset : ℕ) (m : Machine) (s : List ℕ) (m' : Machine) (l : List ℕ) (n : ℕ) → move_of m s ≡ go m' l n
    → all_of offset m s ≡ behind n l (all_of (offset + n) m' (drop n s))
unfolding all_of
all_go offset m s m' l n e =
    fed-go 0 offset 0 m s m' l n (omega arith) e
    ∙ ap (λ (r : ℕ). behind n l (fed_from 0 (offset + n) r m' (drop n s))) (let z : 0 - length l ≡ 0 = omega arith in z)

pub all_passes : (offset : ℕ) (m : Machine) (s : List ℕ) → Passes offset m s (all_of offset m s)
unfolding all_of
all_passes offset m s = (tells 0 offset 0 m s).passes

-- ---- a block, and then all moves of the rest, are all moves

abbrev pub Splits : (offset : ℕ) → Machine → List ℕ → Block → Type 0
Splits offset m s b = all_of offset m s ≡ behind b.taken b.text (all_of (offset + b.taken) b.after (drop b.taken s))

splits_none : (offset : ℕ) (m : Machine) (s : List ℕ) → Splits offset m s (no_block m)
splits_none offset m s =
    let x : Block = all_of offset m s in
    let e : offset + 0 ≡ offset = omega arith in
    let k : x.taken ≡ 0 + x.taken = omega arith in
    ap (λ (n : ℕ). block x.after n x.text) k ∙ ap (λ (n : ℕ). behind 0 [] (all_of n m s)) (sym e)

splits_halt : (offset : ℕ) (m : Machine) (s : List ℕ) → move_of m s ≡ halt → Splits offset m s (block (machine_after m halt) 0 (stop_of offset))
splits_halt offset m s e =
    all-halt offset m s e
    ∙ ap (λ (l : List ℕ). block (machine_after m halt) 0 l) (sym (append-nil (stop_of offset)))
    ∙ ap (λ (b : Block). behind 0 (stop_of offset) b) (sym (all_stay (offset + 0) (machine_after m halt) s (stopped_stays m s)))

splits_go : (offset : ℕ) (m : Machine) (s : List ℕ) (m' : Machine) (l : List ℕ) (n : ℕ) (b : Block) → move_of m s ≡ go m' l n
    → Splits (offset + n) m' (drop n s) b → Splits offset m s (behind n l b)
splits_go offset m s m' l n b e f =
    let k : offset + n + b.taken ≡ offset + (n + b.taken) = omega arith in
    let x : Block = all_of (offset + (n + b.taken)) b.after (drop (n + b.taken) s) in
    let i : n + (b.taken + x.taken) ≡ n + b.taken + x.taken = omega arith in
    all_go offset m s m' l n e
    ∙ ap (λ (y : Block). behind n l y) f
    ∙ ap (λ (j : ℕ). behind n l (behind b.taken b.text (all_of j b.after (drop b.taken (drop n s))))) k
    ∙ ap (λ (y : List ℕ). behind n l (behind b.taken b.text (all_of (offset + (n + b.taken)) b.after y))) (drop-drop b.taken n s)
    ∙ ap (λ (j : ℕ). block x.after j (l ++ (b.text ++ x.text))) i
    ∙ ap (λ (y : List ℕ). block x.after (n + b.taken + x.taken) y) (sym (append_assoc l b.text x.text))

splits_move : (k offset room : ℕ) (m : Machine) (s : List ℕ) (mv : Move) → length s < suc k → move_of m s ≡ mv
    → ((offset' room' : ℕ) (m' : Machine) (s' : List ℕ) → length s' < k → Splits offset' m' s' (fed_by LINE k offset' room' m' s'))
    → Splits offset m s (fed_move (fed_by LINE k) offset room m s mv)
unfolding fed_move
splits_move k offset room m s stay h e f = splits_none offset m s
splits_move k offset room m s halt h e f = splits_halt offset m s e
splits_move k offset room m s (go m' l n) h e f =
    let g = goes m s m' l n e in
    splits_go offset m s m' l n _ e (f (offset + n) (room - length l) m' (drop n s) (omega (arith, g.within, g.some, length-drop n s)))

splits_by : (k offset room : ℕ) (m : Machine) (s : List ℕ) → length s < k → Splits offset m s (fed_by LINE k offset room m s)
unfolding fed_by
splits_by zero offset room m s h = absurd (let z : ⊥ = omega arith in z)
splits_by (suc k) offset room m s h =
    cases Block (Splits offset m s) (leb LINE room) _ _
    (λ e. splits_move k offset room m s (move_of m s) h refl (λ o r m' s' g. splits_by k o r m' s' g))
    (λ e. splits_none offset m s)

pub splits : (offset room : ℕ) (m : Machine) (s : List ℕ) → Splits offset m s (fed_from LINE offset room m s)
unfolding fed_from
splits offset room m s = splits_by (suc (length s)) offset room m s (omega arith)

-- ---- a block that takes nothing, though there was room for a line

abbrev Idle : List ℕ → Block → Type 0
Idle s b = b.taken ≡ 0 → move_of b.after s ≡ stay

idle_by : (offset room : ℕ) (m : Machine) (s : List ℕ) (mv : Move) → LINE ≤ room → move_of m s ≡ mv → Idle s (fed_from LINE offset room m s)
idle_by offset room m s stay h e = rw (fed-stay LINE offset room m s e) (λ g. e)
idle_by offset room m s halt h e = rw (fed-halt LINE offset room m s h e) (λ g. stopped_stays m s)
idle_by offset room m s (go m' l n) h e =
    let w = goes m s m' l n e in
    rw (fed-go LINE offset room m s m' l n h e) (λ g. absurd (let z : ⊥ = omega (arith, g, w.some) in z))

pub fed_idle : (offset room : ℕ) (m : Machine) (s : List ℕ) → LINE ≤ room → (fed_from LINE offset room m s).taken ≡ 0
    → move_of (fed_from LINE offset room m s).after s ≡ stay
fed_idle offset room m s h = idle_by offset room m s (move_of m s) h refl
