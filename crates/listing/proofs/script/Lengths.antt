-- A move keeps memory's length, and the text of a block has room. Assumes nothing.
use Prim.Native.Nat.{ℕ, zero, suc, ◌+◌, ◌-◌, ◌≤◌}
use native.Mathlib.Omega.{arith}
use mathlib.Core.Path.{◌≡◌, refl, sym, ap, ◌∙◌, subst}
use mathlib.Core.Bool.{Bool, true, false}
use mathlib.Core.List.{List, [], ◌∷◌}
use lib.Dec.{eqb, leb}
use lib.ListN.{length, take, drop, length-append, length-take, length-drop}
use lib.Seq.{length-paste}
use borrow.Author.Tests.{eqb-true, eqb-false, leb-true}
use Rattle.definition.specs.Status.{Answer}
use Rattle.definition.specs.Status.{count_of, is_done}
use Rattle.definition.specs.declared.Pair.{Pair}
use Rattle.definition.specs.Pair.{is_one, peer, ends_of}
use Rattle.definition.specs.Tests.{lent_of}
use Rattle.definition.specs.Memory.{fits, little_endian, count_put}
use Rattle.user_answers.proofs.memory.Landed.{fits_in, count_put_lem, count_none, count-out, count_in_lem}
use Rattle.transfer.proofs.read.user_memory.Landed.{landed-length}
use Rattle.transfer.proofs.write.user_memory.Passed.{write-passed}
use Rattle.definition_script.specs.declared.Decoded.{Decoded}
use Rattle.definition_script.specs.declared.Decoded.TheVariants.{Whole, Bad, Cut}
use Rattle.definition_script.specs.declared.TransferBody.{TransferBody}
use Rattle.definition_script.specs.Record.{READ, FILL, record_of, eight, transfer_of, is_misplaced}
use Rattle.script_call.proofs.record.Records.{cases}
use Rattle.text.proofs.Place.{place_none, place-length}
use Rattle.line.specs.line.LineDone.{LINE}
use Rattle.line.proofs.line.Lengths.{line-most, stop-most}
use Rattle.definition_script.specs.Call.{BASE, delivered, after_count, Rings, own_ring, own_table, peer_ring, peer_table, filled, Called, write_answer_of, write_leaves, write_call, read_answer_of, read_leaves, read_call, fill_call, call_of}
use Rattle.definition_script.specs.Listing.{Machine, Move, stay, halt, go, move_by, move_of, stepped, called_line, step_line}
use Rattle.feed.specs.Turn.{machine_after}
use Rattle.feed.specs.Feed.{Block, no_block, fed_move, fed_by, fed_from}

-- ---- memory keeps its length

-- it has so many bytes
abbrev Long : ℕ → List ℕ → Type 0
Long k l = length l ≡ k

little_length : (k n : ℕ) → length (little_endian k n) ≡ k
unfolding little_endian
little_length zero n = refl
little_length (suc k) n = ap (λ (j : ℕ). suc j) (little_length k _)

-- as a count lands
put-length : (base countAt n : ℕ) (memory : List ℕ) → Long (length memory) (count_put base countAt n memory)
put-length base countAt n memory = by (eqb countAt 0) (fits base (length memory) countAt 8) refl refl
  where
    by : (a b : Bool) → eqb countAt 0 ≡ a → fits base (length memory) countAt 8 ≡ b → Long (length memory) (count_put base countAt n memory)
    by true b e f = ap length (sym (count_none base countAt n memory (eqb-true _ _ e)))
    by false false e f = ap length (sym (count-out base countAt n memory (eqb-false _ _ e) f))
    by false true e f =
        let z = eqb-false _ _ e in
        let w = fits_in base (length memory) countAt 8 f (λ y. omega (arith, y)) in
        ap length (sym (count_in_lem base countAt n memory z f))
        ∙ length-paste memory (countAt - base) (little_endian 8 n) 8 w.1 (omega (arith, little_length 8 n))

-- by a call
module _ (memory : List ℕ) (z : Rings) (p : Pair) where
  write-length : (t : TransferBody) → Long (length memory) (write_call memory z p t).memory
  unfolding write_call write_leaves write_answer_of
  write-length t =
      let one = is_one t.handle in
      let lent = lent_of p.datagram (peer one (ends_of p)).queue (peer_ring one z) (peer_table one z) in
      let a : Answer = write_answer_of memory z p t in
      cases (List ℕ) (Long (length memory)) (is_done a) _ memory
      (λ d.
      let w = write-passed (ends_of p) lent t.handle BASE (length memory) t.options t.address t.count t.count_at a refl d in
      ap length (sym (count_put_lem BASE t.count_at (count_of a) memory w.count)) ∙ put-length BASE t.count_at (count_of a) memory)
      (λ d. refl)

  read_length : (t : TransferBody) → Long (length memory) (read_call memory z p t).memory
  unfolding read_call read_leaves read_answer_of
  read_length t =
      let one = is_one t.handle in
      landed-length p t.handle BASE t.options t.address t.count t.count_at (own_ring one z) (own_table one z) memory _ refl

  fill-length : (address : ℕ) (bs : List ℕ) → Long (length memory) (fill_call memory z p address bs).memory
  unfolding fill_call filled
  fill-length address [] = cases (List ℕ) (Long (length memory)) _ _ memory (λ e. ap length (place_none (address - BASE) memory)) (λ e. refl)
  fill-length address (b ∷ bs) =
      cases (List ℕ) (Long (length memory)) _ _ memory
      (λ e.
      let w = fits_in BASE (length memory) address (length (b ∷ bs)) e (λ y. let n : ⊥ = omega (arith, y) in n) in
      place-length (address - BASE) (b ∷ bs) memory w.1)
      (λ e. refl)

  call_length : (tag : ℕ) (b : List ℕ) → Long (length memory) (call_of memory z p tag b).memory
  unfolding call_of
  call_length tag b =
      let P : Called → Type 0 = λ (d : Called). Long (length memory) d.memory in
      cases Called P (eqb tag 1) _ _ (λ e. write-length (transfer_of b))
      (λ e. cases Called P (eqb tag READ) _ _ (λ f. read_length (transfer_of b))
      (λ f. cases Called P (eqb tag FILL) _ _ (λ g. fill-length (eight b 0) (drop 8 b)) (λ g. refl)))

settled_length : (tag : ℕ) (b : List ℕ) (a : Answer) (memory : List ℕ) → Long (length memory) (after_count tag b a memory)
unfolding after_count
settled_length tag b a memory =
    cases (List ℕ) (Long (length memory)) (eqb tag READ) _ memory
    (λ e. cases (List ℕ) (Long (length memory)) (is_done a) _ memory (λ d. put-length BASE (eight b 24) (count_of a) memory) (λ d. refl))
    (λ e. refl)

-- ---- a move

-- memory keeps its length, and the line is no longer than LINE
record Keeps (m m' : Machine) (l : List ℕ) : Type 0 where
  pub memory : length m'.memory ≡ length m.memory
  pub line : length m.memory ≤ 4096 → length l ≤ LINE

delivered-most : (tag : ℕ) (b : List ℕ) (a : Answer) (memory : List ℕ) → length (delivered tag b a memory) ≤ length memory
unfolding delivered
delivered-most tag b a memory = simp (length-take, length-drop) (omega arith)

step_keeps : (m : Machine) (tag : ℕ) (b : List ℕ) → Keeps m (stepped m tag b) (step_line m tag b)
unfolding stepped step_line called_line
step_keeps m tag b =
    let d : Called = call_of m.memory m.lent m.state.pair tag b in
    let k : length d.memory ≡ length m.memory = call_length m.memory m.lent m.state.pair tag b in
    record {
      memory = settled_length tag b d.step.answer d.memory ∙ k;
      line = λ h. line-most _ _ _ _ _ (omega (arith, h, k, delivered-most tag b d.step.answer d.memory));
    }

MoveKeeps : Machine → Move → Type 0
MoveKeeps m stay = Unit
MoveKeeps m halt = Unit
MoveKeeps m (go m' l n) = Keeps m m' l

move_keeps_by : (m : Machine) (s : List ℕ) (r : Decoded) → MoveKeeps m (move_by m s r)
unfolding MoveKeeps move_by
move_keeps_by m s Cut = tt
move_keeps_by m s Bad = tt
move_keeps_by m s (Whole tag n) =
    cases Move (MoveKeeps m) (is_misplaced tag m.state.number) _ _ (λ e. tt) (λ e. step_keeps m tag (take n (drop 3 s)))

move_keeps : (m : Machine) (s : List ℕ) → MoveKeeps m (move_of m s)
unfolding MoveKeeps move_of
move_keeps m s = cases Move (MoveKeeps m) m.state.ended _ _ (λ e. tt) (λ e. move_keeps_by m s (record_of s))

keeps : (m : Machine) (s : List ℕ) (m' : Machine) (l : List ℕ) (n : ℕ) → move_of m s ≡ go m' l n → Keeps m m' l
unfolding MoveKeeps
keeps m s m' l n e = subst (λ (v : Move). MoveKeeps m v) e (move_keeps m s)

-- ---- a block

-- memory keeps its length, and the text has room
pub record BlockFits (room : ℕ) (m : Machine) (b : Block) : Type 0 where
  pub memory : length b.after.memory ≡ length m.memory
  pub text : length b.text ≤ room

none-fits : (room : ℕ) (m : Machine) → BlockFits room m (no_block m)
none-fits room m = record { memory = refl; text = omega arith }

move_fits : (k offset room : ℕ) (m : Machine) (s : List ℕ) (mv : Move) → move_of m s ≡ mv → length m.memory ≤ 4096 → LINE ≤ room
    → ((offset' room' : ℕ) (m' : Machine) (s' : List ℕ) → length m'.memory ≤ 4096 → BlockFits room' m' (fed_by LINE k offset' room' m' s'))
    → BlockFits room m (fed_move (fed_by LINE k) offset room m s mv)
unfolding fed_move machine_after
move_fits k offset room m s stay e h g f = none-fits room m
move_fits k offset room m s halt e h g f = record { memory = refl; text = omega (arith, g, stop-most offset) }
move_fits k offset room m s (go m' l n) e h g f =
    let w = keeps m s m' l n e in
    let x : Block = fed_by LINE k (offset + n) (room - length l) m' (drop n s) in
    let y = f (offset + n) (room - length l) m' (drop n s) (omega (arith, h, w.memory)) in
    record { memory = y.memory ∙ w.memory; text = omega (arith, g, w.line h, y.text, length-append l x.text) }

fits_by : (k offset room : ℕ) (m : Machine) (s : List ℕ) → length m.memory ≤ 4096 → BlockFits room m (fed_by LINE k offset room m s)
unfolding fed_by
fits_by zero offset room m s h = none-fits room m
fits_by (suc k) offset room m s h =
    cases Block (BlockFits room m) (leb LINE room) _ _
    (λ e. move_fits k offset room m s (move_of m s) refl h (leb-true LINE room e) (λ o r m' s' g. fits_by k o r m' s' g))
    (λ e. none-fits room m)

pub block-fits : (offset room : ℕ) (m : Machine) (s : List ℕ) → length m.memory ≤ 4096 → BlockFits room m (fed_from LINE offset room m s)
unfolding fed_from
block-fits offset room m s h = fits_by (suc (length s)) offset room m s h
