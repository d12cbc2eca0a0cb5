-- What a block tells of the listing. Assumes nothing.
use Prim.Native.Nat.{ℕ, zero, suc, ◌+◌, ◌-◌, ◌≤◌, ◌<◌}
use native.Mathlib.Omega.{arith}
use mathlib.Core.Path.{◌≡◌, refl, sym, ap, ◌∙◌}
use mathlib.Core.Bool.{true}
use mathlib.Core.List.{List, ◌++◌, append_assoc, append-nil}
use lib.Dec.{leb}
use lib.ListN.{length, take, drop, length-append, length-drop}
use lib.Seq.{drop-drop, drop-append-le}
use borrow.Author.Tests.{leb-false}
use Rattle.script_call.proofs.record.Records.{cases}
use Rattle.definition_script.specs.Line.{stop_of}
use Rattle.definition_script.specs.Call.{written_at, Rings}
use Rattle.text.proofs.Place.{place-front}
use Rattle.line.specs.line.LineDone.{LINE}
use Rattle.definition_script.specs.declared.ScriptState.{ScriptState}
use Rattle.feed.specs.declared.Fed.{Fed}
use Rattle.definition_script.specs.Listing.{Machine, machine, Move, stay, halt, go, move_of, run}
use Rattle.feed.specs.Turn.{machine_after}
use Rattle.feed.specs.Feed.{is_ready, Block, no_block, behind, fed_move, fed_by, fed_from, fed_of, BlockDone, FeedDone}
use Rattle.feed.proofs.Moves.{goes, halts}
use Rattle.feed.proofs.Blocks.{block, stopped_ended, stopped_number, stopped_stays, fed_ready}
use Rattle.listing.proofs.script.Runs.{run-go, run-halt, run_ended}

-- ---- what a block tells

-- whatever bytes follow, the listing is the text put out, and then the listing from the machine after it with the bytes that are left
pub record Passes (offset : ℕ) (m : Machine) (s : List ℕ) (b : Block) : Type 0 where
  pub within : b.taken ≤ length s
  pub count : b.after.state.number ≤ m.state.number + b.taken
  pub rest : (t : List ℕ) → run offset m (s ++ t) ≡ b.text ++ run (offset + b.taken) b.after (drop b.taken s ++ t)

-- and it ends where room may be lacking, or where the bytes left make no move
pub record Tells (need offset room : ℕ) (m : Machine) (s : List ℕ) (b : Block) : Type 0 where
  pub passes : Passes offset m s b
  pub stuck : need ≤ room - length b.text → move_of b.after (drop b.taken s) ≡ stay

passes_none : (offset : ℕ) (m : Machine) (s : List ℕ) → Passes offset m s (no_block m)
passes_none offset m s =
    let e : offset + 0 ≡ offset = omega arith in
    record { within = omega arith; count = omega arith; rest = λ t. ap (λ (k : ℕ). run k m (s ++ t)) (sym e) }

tells_none : (need offset room : ℕ) (m : Machine) (s : List ℕ) → (need ≤ room → move_of m s ≡ stay) → Tells need offset room m s (no_block m)
tells_none need offset room m s h = record { passes = passes_none offset m s; stuck = λ g. h (omega arith) }

passes_halt : (offset : ℕ) (m : Machine) (s : List ℕ) → move_of m s ≡ halt → Passes offset m s (block (machine_after m halt) 0 (stop_of offset))
passes_halt offset m s e =
    record {
      within = omega arith;
      count = omega (arith, stopped_number m);
      rest = λ t.
          run-halt offset m (s ++ t) (halts m s e t)
          ∙ sym (append-nil (stop_of offset))
          ∙ ap (λ (x : List ℕ). stop_of offset ++ x) (sym (run_ended (offset + 0) (machine_after m halt) (s ++ t) (stopped_ended m)));
    }

module _ (offset : ℕ) (m : Machine) (s : List ℕ) (m' : Machine) (l : List ℕ) (n : ℕ) (b : Block) (e : move_of m s ≡ go m' l n) where
  passes_go : Passes (offset + n) m' (drop n s) b → Passes offset m s (behind n l b)
  passes_go f =
      let g = goes m s m' l n e in
      let ls : length (drop n s) ≡ length s - n = length-drop n s in
      let k : offset + n + b.taken ≡ offset + (n + b.taken) = omega arith in
      record {
        within = omega (arith, g.within, f.within);
        count = omega (arith, g.number, g.some, f.count);
        rest = λ t.
            run-go offset m (s ++ t) m' l n (g.more t)
            ∙ ap (λ (x : List ℕ). l ++ run (offset + n) m' x) (drop-append-le n s t g.within)
            ∙ ap (λ (x : List ℕ). l ++ x) (f.rest t)
            ∙ sym (append_assoc l b.text (run (offset + n + b.taken) b.after (drop b.taken (drop n s) ++ t)))
            ∙ ap (λ (x : List ℕ). (l ++ b.text) ++ run (offset + n + b.taken) b.after (x ++ t)) (drop-drop b.taken n s)
            ∙ ap (λ (i : ℕ). (l ++ b.text) ++ run i b.after (drop (n + b.taken) s ++ t)) k;
      }

  tells_go : (need room : ℕ) → Tells need (offset + n) (room - length l) m' (drop n s) b → Tells need offset room m s (behind n l b)
  tells_go need room f =
      record {
        passes = passes_go f.passes;
        stuck = λ h.
            ap (λ (x : List ℕ). move_of b.after x) (sym (drop-drop b.taken n s)) ∙ f.stuck (omega (arith, h, length-append l b.text));
      }

tells_move : (need k offset room : ℕ) (m : Machine) (s : List ℕ) (mv : Move) → length s < suc k → move_of m s ≡ mv
    → ((offset' room' : ℕ) (m' : Machine) (s' : List ℕ) → length s' < k → Tells need offset' room' m' s' (fed_by need k offset' room' m' s'))
    → Tells need offset room m s (fed_move (fed_by need k) offset room m s mv)
unfolding fed_move
tells_move need k offset room m s stay h e f = tells_none need offset room m s (λ g. e)
tells_move need k offset room m s halt h e f = record { passes = passes_halt offset m s e; stuck = λ g. stopped_stays m s }
tells_move need k offset room m s (go m' l n) h e f =
    let g = goes m s m' l n e in
    tells_go offset m s m' l n _ e need room
    (f (offset + n) (room - length l) m' (drop n s) (omega (arith, g.within, g.some, length-drop n s)))

tells_by : (need k offset room : ℕ) (m : Machine) (s : List ℕ) → length s < k → Tells need offset room m s (fed_by need k offset room m s)
unfolding fed_by
tells_by need zero offset room m s h = absurd (let z : ⊥ = omega arith in z)
tells_by need (suc k) offset room m s h =
    cases Block (Tells need offset room m s) (leb need room) _ _
    (λ e. tells_move need k offset room m s (move_of m s) h refl (λ o r m' s' g. tells_by need k o r m' s' g))
    (λ e. tells_none need offset room m s (λ g. absurd (let z : ⊥ = omega (arith, leb-false need room e) in z)))

pub tells : (need offset room : ℕ) (m : Machine) (s : List ℕ) → Tells need offset room m s (fed_from need offset room m s)
unfolding fed_from
tells need offset room m s = tells_by need (suc (length s)) offset room m s (omega arith)

-- ---- the block that `feed` is given

pub passes : (offset room : ℕ) (m : Machine) (s : List ℕ) → Passes offset m s (fed_of offset room m s)
unfolding fed_of
passes offset room m s =
    cases Block (Passes offset m s) (is_ready m.state offset (length s) (length m.memory)) _ _ (λ e. (tells LINE offset room m s).passes)
    (λ e. passes_none offset m s)

-- ---- a block that was done

-- its text is what stands before the place that was given back
pub shown : {b : Block} {memory' : List ℕ} {z' : Rings} {out out' : List ℕ} {r : Fed} → BlockDone b memory' z' out out' r → take r.written out' ≡ b.text
shown {b} {memory'} {z'} {out} {out'} {r} d =
    ap (λ (x : List ℕ). take r.written x) d.text
    ∙ ap (λ (k : ℕ). take k (written_at 0 b.text out)) (let e : r.written ≡ 0 + length b.text = omega (arith, d.written) in e)
    ∙ place-front 0 b.text out (omega arith)

behind-text : {b : Block} {memory' : List ℕ} {z' : Rings} {out out' : List ℕ} {r : Fed} → BlockDone b memory' z' out out' r
    → length out' ≡ r.written + (length out - r.written)
unfolding written_at
behind-text {b} {memory'} {z'} {out} {out'} {r} d =
    let n : ℕ = 0 + length b.text in
    let l : length out' ≡ length (b.text ++ drop n out) = ap length d.text in
    omega (arith, d.written, l, length-append b.text (drop n out), length-drop n out)

pub fed-rest : {st : ScriptState} {offset : ℕ} {input memory memory' : List ℕ} {z z' : Rings} {out out' : List ℕ} {r : Fed}
    → FeedDone st offset input memory memory' z z' out out' r → (t : List ℕ)
    → run offset (machine st memory z) (input ++ t)
    ≡ take r.written out' ++ run (offset + r.taken) (machine r.state memory' z') (drop r.taken input ++ t)
fed-rest {st} {offset} {input} {memory} {memory'} {z} {z'} {out} {out'} {r} d t =
    let b : Block = fed_of offset (length out) (machine st memory z) input in
    (passes offset (length out) (machine st memory z) input).rest t
    ∙ ap (λ (x : List ℕ). x ++ run (offset + b.taken) b.after (drop b.taken input ++ t)) (sym (shown d.block))
    ∙ ap (λ (n : ℕ). take r.written out' ++ run (offset + n) b.after (drop n input ++ t)) (sym d.block.taken)
    ∙ ap (λ (x : Machine). take r.written out' ++ run (offset + r.taken) x (drop r.taken input ++ t)) (sym d.block.after)

pub fed_stuck : {st : ScriptState} {offset : ℕ} {input memory memory' : List ℕ} {z z' : Rings} {out out' : List ℕ} {r : Fed}
    → FeedDone st offset input memory memory' z z' out out' r → is_ready st offset (length input) (length memory) ≡ true
    → LINE ≤ length out' - r.written → move_of (machine r.state memory' z') (drop r.taken input) ≡ stay
fed_stuck {st} {offset} {input} {memory} {memory'} {z} {z'} {out} {out'} {r} d e h =
    let m : Machine = machine st memory z in
    let f : Block = fed_from LINE offset (length out) m input in
    let b : fed_of offset (length out) m input ≡ f = fed_ready offset (length out) m input e in
    let w : r.written ≡ length f.text = d.block.written ∙ ap (λ (x : Block). length x.text) b in
    ap (λ (x : Machine). move_of x (drop r.taken input)) (d.block.after ∙ ap (λ (x : Block). x.after) b)
    ∙ ap (λ (n : ℕ). move_of f.after (drop n input)) (d.block.taken ∙ ap (λ (x : Block). x.taken) b)
    ∙ (tells LINE offset (length out) m input).stuck (omega (arith, h, w, behind-text d.block))
