-- What a block does, move by move. Assumes nothing.
use Prim.Native.Nat.{ℕ, zero, suc, ◌+◌, ◌-◌, ◌≤◌, ◌<◌}
use native.Mathlib.Omega.{arith}
use mathlib.Core.Path.{◌≡◌, refl, ap, ◌∙◌}
use mathlib.Core.Bool.{Bool, true, false}
use mathlib.Core.List.{List}
use lib.Dec.{leb}
use lib.ListN.{length, drop, length-drop}
use borrow.Author.Tests.{le-leb, lt-leb}
use Rattle.definition.specs.Status.{pick}
use Rattle.definition_script.specs.Line.{stop_of}
use Rattle.line.specs.line.LineDone.{LINE}
use Rattle.definition_script.specs.Listing.{Machine, stopped_state, Move, stay, halt, go, move_of}
use Rattle.feed.specs.Turn.{machine_after}
use Rattle.feed.specs.Feed.{is_ready, Block, no_block, behind, fed_move, fed_by, fed_from, fed_of}
use Rattle.feed.proofs.Moves.{goes, move_ended}

abbrev pub block : Machine → ℕ → List ℕ → Block
block m n l = record { after = m; taken = n; text = l }

move_same : (f g : ℕ → ℕ → Machine → List ℕ → Block) (offset room : ℕ) (m : Machine) (s : List ℕ) (mv : Move)
    → ((m' : Machine) (l : List ℕ) (n : ℕ) → mv ≡ go m' l n
    → f (offset + n) (room - length l) m' (drop n s) ≡ g (offset + n) (room - length l) m' (drop n s))
    → fed_move f offset room m s mv ≡ fed_move g offset room m s mv
unfolding fed_move
move_same f g offset room m s stay h = refl
move_same f g offset room m s halt h = refl
move_same f g offset room m s (go m' l n) h = ap (λ (b : Block). behind n l b) (h m' l n refl)

-- any number of moves that is enough gives the same
enough : (need j k offset room : ℕ) (m : Machine) (s : List ℕ) → length s < j → length s < k
    → fed_by need j offset room m s ≡ fed_by need k offset room m s
unfolding fed_by
enough need zero k offset room m s h g = absurd (let z : ⊥ = omega arith in z)
enough need (suc j) zero offset room m s h g = absurd (let z : ⊥ = omega arith in z)
enough need (suc j) (suc k) offset room m s h g =
    ap (λ (b : Block). pick (leb need room) b (no_block m))
    (move_same (fed_by need j) (fed_by need k) offset room m s (move_of m s)
    (λ m' l n e.
    let w = goes m s m' l n e in
    let d : length (drop n s) ≡ length s - n = length-drop n s in
    enough need j k (offset + n) (room - length l) m' (drop n s) (omega (arith, w.within, w.some)) (omega (arith, w.within, w.some))))

pick_same : {X : Type 0} (b : Bool) (x : X) → pick b x x ≡ x
unfolding pick
pick_same true x = refl
pick_same false x = refl

-- ---- by the room and the move

pub fed_full : (need offset room : ℕ) (m : Machine) (s : List ℕ) → room < need → fed_from need offset room m s ≡ no_block m
unfolding fed_from fed_by pick
fed_full need offset room m s h =
    ap (λ (b : Bool). pick b (fed_move (fed_by need (length s)) offset room m s (move_of m s)) (no_block m)) (lt-leb need room h)

pub fed-stay : (need offset room : ℕ) (m : Machine) (s : List ℕ) → move_of m s ≡ stay → fed_from need offset room m s ≡ no_block m
unfolding fed_from fed_by fed_move
fed-stay need offset room m s e =
    ap (λ (v : Move). pick (leb need room) (fed_move (fed_by need (length s)) offset room m s v) (no_block m)) e ∙ pick_same (leb need room) (no_block m)

-- where there is room
fed_move_lem : (need offset room : ℕ) (m : Machine) (s : List ℕ) (mv : Move) → need ≤ room → move_of m s ≡ mv
    → fed_from need offset room m s ≡ fed_move (fed_by need (length s)) offset room m s mv
unfolding fed_from fed_by pick
fed_move_lem need offset room m s mv h e =
    ap (λ (b : Bool). pick b (fed_move (fed_by need (length s)) offset room m s (move_of m s)) (no_block m)) (le-leb need room h)
    ∙ ap (λ (v : Move). fed_move (fed_by need (length s)) offset room m s v) e

pub fed-halt : (need offset room : ℕ) (m : Machine) (s : List ℕ) → need ≤ room → move_of m s ≡ halt
    → fed_from need offset room m s ≡ block (machine_after m halt) 0 (stop_of offset)
unfolding fed_move
fed-halt need offset room m s h e = fed_move_lem need offset room m s halt h e

pub fed-go : (need offset room : ℕ) (m : Machine) (s : List ℕ) (m' : Machine) (l : List ℕ) (n : ℕ) → need ≤ room → move_of m s ≡ go m' l n
    → fed_from need offset room m s ≡ behind n l (fed_from need (offset + n) (room - length l) m' (drop n s))
unfolding fed_move fed_from
fed-go need offset room m s m' l n h e =
    let w = goes m s m' l n e in
    let d : length (drop n s) ≡ length s - n = length-drop n s in
    fed_move_lem need offset room m s (go m' l n) h e
    ∙ ap (λ (b : Block). behind n l b)
    (enough need (length s) (suc (length (drop n s))) (offset + n) (room - length l) m' (drop n s) (omega (arith, w.within, w.some)) (omega arith))

-- ---- a script that stopped

pub stopped_ended : (m : Machine) → (machine_after m halt).state.ended ≡ true
unfolding machine_after stopped_state
stopped_ended m = refl

pub stopped_number : (m : Machine) → (machine_after m halt).state.number ≡ m.state.number
unfolding machine_after stopped_state
stopped_number m = refl

pub stopped_stays : (m : Machine) (s : List ℕ) → move_of (machine_after m halt) s ≡ stay
stopped_stays m s = move_ended (machine_after m halt) s (stopped_ended m)

-- ---- the block that `feed` is given

pub fed_ready : (offset room : ℕ) (m : Machine) (s : List ℕ) → is_ready m.state offset (length s) (length m.memory) ≡ true
    → fed_of offset room m s ≡ fed_from LINE offset room m s
unfolding fed_of pick
fed_ready offset room m s e = rw e

pub fed_unready : (offset room : ℕ) (m : Machine) (s : List ℕ) → is_ready m.state offset (length s) (length m.memory) ≡ false
    → fed_of offset room m s ≡ no_block m
unfolding fed_of pick
fed_unready offset room m s e = rw e
