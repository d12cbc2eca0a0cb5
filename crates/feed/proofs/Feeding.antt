-- What the loop of a block keeps. Assumes nothing.
use Prim.Native.Nat.{ℕ, ◌+◌, ◌-◌, ◌≤◌, ◌<◌}
use native.Mathlib.Omega.{arith}
use mathlib.Core.Path.{◌≡◌, refl, sym, ap, ◌∙◌, subst}
use mathlib.Core.Bool.{Bool, true, false, cond}
use mathlib.Core.List.{List, ◌++◌, append_assoc, append-nil}
use lib.ListN.{length, take, drop, length-drop, take-append-drop}
use lib.Seq.{drop-drop, length-take-le}
use borrow.Author.Tests.{leb-true}
use Rattle.definition.specs.Status.{◌and◌}
use Rattle.definition_script.specs.Line.{stop_of}
use Rattle.definition_script.specs.Call.{written_at, Rings}
use Rattle.text.specs.declared.Writer.{Writer}
use Rattle.text.proofs.Place.{place_none, place-length, place-front, place-behind}
use Rattle.definition_script.specs.declared.ScriptState.{ScriptState}
use Rattle.feed.specs.declared.Fed.{Fed}
use Rattle.feed.specs.declared.turn.Turned.{Turned}
use Rattle.line.specs.line.LineDone.{LINE}
use Rattle.definition_script.specs.Listing.{Machine, machine, Move, stay, halt, go, move_of}
use Rattle.feed.specs.Turn.{LIMIT, machine_after, text_of, taken_by, goes_on, TurnDone}
use Rattle.feed.specs.Feed.{is_ready, Block, no_block, behind, fed_from, fed_of, FeedDone}
use Rattle.feed.proofs.Moves.{goes}
use Rattle.feed.proofs.Blocks.{block, fed_full, fed-stay, fed-halt, fed-go, fed_ready, fed_unready, stopped_number, stopped_stays}

pub never : ◌≡◌ {A = Bool} true false → ⊥
never e = let z : ◌≡◌ {A = ℕ} 1 0 = ap (λ (b : Bool). cond b 1 0) e in omega arith

-- ---- what a block that can be fed tells

pub record Ready (st : ScriptState) (o i k : ℕ) : Type 0 where
  pub number : st.number ≤ LIMIT
  pub offset : o ≤ LIMIT
  pub input : i ≤ LIMIT
  pub memory : k ≤ 4096

both : (a b : Bool) → (a and b) ≡ true → (a ≡ true) × (b ≡ true)
unfolding ◌and◌
both true b e = (refl, e)
both false b e = absurd (never (sym e))

pub ready : (st : ScriptState) (offset input memory : ℕ) → is_ready st offset input memory ≡ true → Ready st offset input memory
unfolding is_ready
ready st offset input memory e =
    let a = both _ _ e in
    let b = both _ _ a.1 in
    let c = both _ _ b.1 in
    record { number = leb-true _ _ a.0; offset = leb-true _ _ b.0; input = leb-true _ _ c.0; memory = leb-true _ _ c.1 }

-- ---- the loop's invariant

-- with the bytes before `from` taken and the text before `at` put out, what is left to do is what the machine m does
pub record SoFar (m₀ : Machine) (offset : ℕ) (input out₀ : List ℕ) (m : Machine) (out : List ℕ) (from at : ℕ) (more : Bool) : Type 0 where
  pub within : from ≤ length input
  pub fits : at ≤ length out
  pub count : m.state.number ≤ m₀.state.number + from
  pub same : length out ≡ length out₀
  pub kept : drop at out ≡ drop at out₀
  pub whole :
      fed_from LINE offset (length out₀) m₀ input
      ≡ behind from (take at out) (fed_from LINE (offset + from) (length out₀ - at) m (drop from input))
  pub idle : more ≡ false → move_of m (drop from input) ≡ stay

pub begins : (m : Machine) (offset : ℕ) (input out : List ℕ) → SoFar m offset input out m out 0 0 true
begins m offset input out =
    let e : offset + 0 ≡ offset = omega arith in
    let r : length out - 0 ≡ length out = omega arith in
    let b : Block = fed_from LINE offset (length out) m input in
    let k : 0 + b.taken ≡ b.taken = omega arith in
    record {
      within = omega arith;
      fits = omega arith;
      count = omega arith;
      same = refl;
      kept = refl;
      whole = rw (e, r) (ap (λ (n : ℕ). block b.after n b.text) (sym k));
      idle = λ x. absurd (never x);
    }

module _ (m₀ m : Machine) (offset : ℕ) (input out₀ out : List ℕ) (from at : ℕ) (f : SoFar m₀ offset input out₀ m out from at true) where
  -- the text of a move stands behind what was put out before
  text-behind : (l : List ℕ) → at + length l ≤ length out → drop (at + length l) (written_at at l out) ≡ drop (at + length l) out₀
  text-behind l h =
      place-behind at l out f.fits
      ∙ sym (drop-drop (length l) at out) ∙ ap (λ (x : List ℕ). drop (length l) x) f.kept ∙ drop-drop (length l) at out₀

  text-front : (l : List ℕ) → take at out ++ l ≡ take (at + length l) (written_at at l out)
  text-front l = sym (place-front at l out f.fits)

  whole-halt : at + LINE ≤ length out → move_of m (drop from input) ≡ halt
      → fed_from LINE offset (length out₀) m₀ input
      ≡ behind from (take (at + length (stop_of (offset + from))) (written_at at (stop_of (offset + from)) out))
      (fed_from LINE (offset + from) (length out₀ - (at + length (stop_of (offset + from)))) (machine_after m halt) (drop from input))
  whole-halt h e =
      let l : List ℕ = stop_of (offset + from) in
      let n : Machine = machine_after m halt in
      f.whole
      ∙ ap (λ (b : Block). behind from (take at out) b)
      (fed-halt LINE (offset + from) (length out₀ - at) m (drop from input) (omega (arith, f.same)) e)
      ∙ ap (λ (x : List ℕ). block n (from + 0) x) (text-front l ∙ sym (append-nil (take (at + length l) (written_at at l out))))
      ∙ ap (λ (b : Block). behind from (take (at + length l) (written_at at l out)) b)
      (sym (fed-stay LINE (offset + from) (length out₀ - (at + length l)) n (drop from input) (stopped_stays m (drop from input))))

  whole-go : (m' : Machine) (l : List ℕ) (n : ℕ) → at + LINE ≤ length out → move_of m (drop from input) ≡ go m' l n
      → fed_from LINE offset (length out₀) m₀ input
      ≡ behind (from + n) (take (at + length l) (written_at at l out))
      (fed_from LINE (offset + (from + n)) (length out₀ - (at + length l)) m' (drop (from + n) input))
  whole-go m' l n h e =
      let k : offset + from + n ≡ offset + (from + n) = omega arith in
      let r : length out₀ - at - length l ≡ length out₀ - (at + length l) = omega arith in
      let b : Block = fed_from LINE (offset + (from + n)) (length out₀ - (at + length l)) m' (drop (from + n) input) in
      let i : from + (n + b.taken) ≡ from + n + b.taken = omega arith in
      f.whole
      ∙ ap (λ (x : Block). behind from (take at out) x)
      (fed-go LINE (offset + from) (length out₀ - at) m (drop from input) m' l n (omega (arith, f.same)) e)
      ∙ ap (λ (x : ℕ). behind from (take at out) (behind n l (fed_from LINE x (length out₀ - at - length l) m' (drop n (drop from input))))) k
      ∙ ap (λ (x : ℕ). behind from (take at out) (behind n l (fed_from LINE (offset + (from + n)) x m' (drop n (drop from input))))) r
      ∙ ap (λ (x : List ℕ). behind from (take at out) (behind n l (fed_from LINE (offset + (from + n)) (length out₀ - (at + length l)) m' x))) (drop-drop n from input)
      ∙ ap (λ (x : ℕ). block b.after x (take at out ++ (l ++ b.text))) i
      ∙ ap (λ (x : List ℕ). block b.after (from + n + b.taken) x)
      (sym (append_assoc (take at out) l b.text) ∙ ap (λ (x : List ℕ). x ++ b.text) (text-front l))

  next_by : (mv : Move) → move_of m (drop from input) ≡ mv → at + LINE ≤ length out → at + length (text_of (offset + from) mv) ≤ length out
      → SoFar m₀ offset input out₀ (machine_after m mv) (written_at at (text_of (offset + from) mv) out) (from + taken_by mv) (at + length (text_of (offset + from) mv)) (goes_on mv)
  unfolding machine_after text_of taken_by goes_on
  next_by stay e g h =
      let a : at + 0 ≡ at = omega arith in
      let b : from + 0 ≡ from = omega arith in
      rw (place_none at out, a, b)
      (record { within = f.within; fits = f.fits; count = f.count; same = f.same; kept = f.kept; whole = f.whole; idle = λ x. e })
  next_by halt e g h =
      let l : List ℕ = stop_of (offset + from) in
      let b : from + 0 ≡ from = omega arith in
      rw b
      (record {
        within = f.within;
        fits = rw (place-length at l out h) h;
        count = rw (stopped_number m) f.count;
        same = place-length at l out h ∙ f.same;
        kept = text-behind l h;
        whole = whole-halt g e;
        idle = λ x. stopped_stays m (drop from input);
      })
  next_by (go m' l n) e g h =
      let w = goes m (drop from input) m' l n e in
      let ls : length (drop from input) ≡ length input - from = length-drop from input in
      record {
        within = omega (arith, w.within, f.within);
        fits = rw (place-length at l out h) h;
        count = omega (arith, w.number, w.some, f.count);
        same = place-length at l out h ∙ f.same;
        kept = text-behind l h;
        whole = whole-go m' l n g e;
        idle = λ x. absurd (never x);
      }

-- a turn from there on
pub next : (m₀ m : Machine) (offset : ℕ) (input out₀ : List ℕ) (from : ℕ) (memory' : List ℕ) (z' : Rings) (w w' : Writer) (r : Turned)
    → SoFar m₀ offset input out₀ m w.out.now from w.at true → TurnDone m (move_of m (drop from input)) offset from memory' z' w w' r
    → w.at + LINE ≤ length w.out.now → SoFar m₀ offset input out₀ (machine r.state memory' z') w'.out.now r.from w'.at r.more
next m₀ m offset input out₀ from memory' z' w w' r f d h =
    let mv : Move = move_of m (drop from input) in
    let p = d.text.fit.put h in
    rw (d.memory, d.lent, p.out, d.state, d.next, p.next, d.more)
    (next_by m₀ m offset input out₀ w.out.now from w.at f mv refl h (omega (arith, p.next, p.fits)))

-- the measure falls
pub left : (input : List ℕ) (from : ℕ) (more : Bool) → ℕ
left input from more = cond more 1 0 + (length input - from)

falls_by : (m : Machine) (input : List ℕ) (from : ℕ) (mv : Move) → from ≤ length input → move_of m (drop from input) ≡ mv
    → left input (from + taken_by mv) (goes_on mv) < left input from true
unfolding taken_by goes_on left
falls_by m input from stay w e = omega arith
falls_by m input from halt w e = omega arith
falls_by m input from (go m' l n) w e =
    let g = goes m (drop from input) m' l n e in
    let d : length (drop from input) ≡ length input - from = length-drop from input in
    omega (arith, g.within, g.some)

pub falls : (m : Machine) (offset : ℕ) (input : List ℕ) (from : ℕ) (memory' : List ℕ) (z' : Rings) (w w' : Writer) (r : Turned) → from ≤ length input
    → TurnDone m (move_of m (drop from input)) offset from memory' z' w w' r
    → left input r.from r.more < left input from true
falls m offset input from memory' z' w w' r h d = rw (d.next, d.more) (falls_by m input from (move_of m (drop from input)) h refl)

-- ---- the end of a block

-- nothing is left to do
done_by : (m₀ : Machine) (offset : ℕ) (input out₀ : List ℕ) (st : ScriptState) (memory : List ℕ) (z : Rings) (out : List ℕ) (from at : ℕ) (more : Bool)
    → SoFar m₀ offset input out₀ (machine st memory z) out from at more
    → fed_from LINE (offset + from) (length out₀ - at) (machine st memory z) (drop from input) ≡ no_block (machine st memory z)
    → is_ready m₀.state offset (length input) (length m₀.memory) ≡ true
    → FeedDone m₀.state offset input m₀.memory memory m₀.lent z out₀ out (record { state = st; taken = from; written = at })
unfolding written_at
done_by m₀ offset input out₀ st memory z out from at more f e g =
    let b : fed_of offset (length out₀) m₀ input ≡ block (machine st memory z) from (take at out) =
    fed_ready offset (length out₀) m₀ input g
    ∙ f.whole
    ∙ ap (λ (x : Block). behind from (take at out) x) e
    ∙ ap (λ (x : List ℕ). block (machine st memory z) (from + 0) x) (append-nil (take at out))
    ∙ ap (λ (n : ℕ). block (machine st memory z) n (take at out)) (let k : from + 0 ≡ from = omega arith in k)
    in
    let l : length (take at out) ≡ at = length-take-le at out f.fits in
    record {
      block =
          rw b
          (record {
            after = refl;
            taken = refl;
            written = sym l;
            text =
                sym (take-append-drop at out)
                ∙ ap (λ (x : List ℕ). take at out ++ x) f.kept
                ∙ ap (λ (n : ℕ). take at out ++ drop n out₀) (sym l ∙ let k : length (take at out) ≡ 0 + length (take at out) = omega arith in k);
          });
      within = f.within;
      fits = f.fits;
    }

pub done_full : (m₀ : Machine) (offset : ℕ) (input out₀ : List ℕ) (st : ScriptState) (memory : List ℕ) (z : Rings) (out : List ℕ) (from at : ℕ) (more : Bool)
    → SoFar m₀ offset input out₀ (machine st memory z) out from at more → length out - at < LINE
    → is_ready m₀.state offset (length input) (length m₀.memory) ≡ true
    → FeedDone m₀.state offset input m₀.memory memory m₀.lent z out₀ out (record { state = st; taken = from; written = at })
done_full m₀ offset input out₀ st memory z out from at more f h g =
    done_by m₀ offset input out₀ st memory z out from at more f
    (fed_full LINE (offset + from) (length out₀ - at) (machine st memory z) (drop from input) (omega (arith, f.same))) g

pub done-stay : (m₀ : Machine) (offset : ℕ) (input out₀ : List ℕ) (st : ScriptState) (memory : List ℕ) (z : Rings) (out : List ℕ) (from at : ℕ) (more : Bool)
    → SoFar m₀ offset input out₀ (machine st memory z) out from at more → more ≡ false
    → is_ready m₀.state offset (length input) (length m₀.memory) ≡ true
    → FeedDone m₀.state offset input m₀.memory memory m₀.lent z out₀ out (record { state = st; taken = from; written = at })
done-stay m₀ offset input out₀ st memory z out from at more f h g =
    done_by m₀ offset input out₀ st memory z out from at more f
    (fed-stay LINE (offset + from) (length out₀ - at) (machine st memory z) (drop from input) (f.idle h)) g

-- said of a list that is the output
pub fed_into : {st : ScriptState} {offset : ℕ} {input memory memory' : List ℕ} {z z' : Rings} {out out' out'' : List ℕ} {r : Fed} → out'' ≡ out'
    → FeedDone st offset input memory memory' z z' out out' r → FeedDone st offset input memory memory' z z' out out'' r
fed_into {st} {offset} {input} {memory} {memory'} {z} {z'} {out} {out'} {out''} {r} e d =
    subst (λ (x : List ℕ). FeedDone st offset input memory memory' z z' out x r) (sym e) d

-- a block that cannot be fed is left whole
pub unready : (st : ScriptState) (offset : ℕ) (input memory : List ℕ) (z : Rings) (out : List ℕ) → is_ready st offset (length input) (length memory) ≡ false
    → FeedDone st offset input memory memory z z out out (record { state = st; taken = 0; written = 0 })
unready st offset input memory z out e =
    record {
      block =
          rw (fed_unready offset (length out) (machine st memory z) input e)
          (record { after = refl; taken = refl; written = refl; text = sym (place_none 0 out) });
      within = omega arith;
      fits = omega arith;
    }
