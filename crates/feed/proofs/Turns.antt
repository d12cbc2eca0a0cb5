-- What the functions say that make one turn. Assumes nothing.
use Prim.Native.Nat.{ℕ, ◌+◌, ◌-◌, ◌≤◌}
use native.Mathlib.Omega.{arith}
use mathlib.Core.Path.{◌≡◌, refl, sym, ap, ◌∙◌, subst}
use mathlib.Core.Bool.{Bool, true, false}
use mathlib.Core.List.{List, []}
use lib.ListN.{length, take, drop, length-drop}
use lib.Seq.{drop-drop, length-take-le}
use Rattle.definition.specs.Status.{Answer}
use Rattle.definition.specs.Status.{pick, ◌or◌}
use Rattle.definition.specs.Signal.{SignalWord}
use Rattle.definition.specs.Pair.{shown, is_handle, shown_by}
use Rattle.text.specs.declared.Writer.{Writer}
use Rattle.text.specs.Puts.{Appends}
use Rattle.text.proofs.Writers.{appends_nothing, appends_up_to, appends_same}
use Rattle.definition.specs.declared.Pair.{Pair}
use Rattle.definition.specs.declared.Step.{Step}
use Rattle.script_call.proofs.fill.Fills.{part_all}
use Rattle.definition_script.specs.declared.ScriptState.{ScriptState}
use Rattle.feed.specs.declared.turn.Turned.{Turned}
use Rattle.definition_script.specs.declared.Decoded.{Decoded}
use Rattle.definition_script.specs.declared.Decoded.TheVariants.{Whole, Bad, Cut}
use Rattle.definition_script.specs.Record.{is_body, record_of, is_misplaced, is_last}
use Rattle.script_call.proofs.record.Records.{cases, Full, full}
use Rattle.line.specs.line.LineDone.{LINE}
use Rattle.line.specs.line.LineWritten.{LineWritten}
use Rattle.definition_script.specs.Line.{line_of}
use Rattle.definition_script.specs.Call.{Rings, rings, delivered, after_count, call_of}
use Rattle.script_call.specs.call.CallDone.{CallDone}
use Rattle.definition_script.specs.Listing.{Machine, machine, Move, stay, halt, go, move_of, stepped_state, stepped, called_line, step_line}
use Rattle.line.proofs.call_line.Lines.{delivered-small}
use Rattle.feed.proofs.state.States.{mk_state}
use Rattle.feed.proofs.Moves.{move_ended, move_cut, move_bad, move_misplaced, move_step}
use Rattle.feed.specs.Turn.{placed, next_of, machine_after, text_of, taken_by, goes_on, StepDone, StopDone, TurnDone}

-- ---- what the bytes begin with

pub next_ended : (b : Bool) (number : ℕ) (s : List ℕ) → b ≡ true → Cut ≡ next_of b number s
unfolding next_of pick
next_ended b number s e = rw e refl

-- from what was decoded of the bytes from a place on
pub next-from : (b : Bool) (number from : ℕ) (l : List ℕ) (r q : Decoded) → b ≡ false → from ≤ length l → r ≡ record_of (take (length l - from) (drop from l)) → r ≡ q
    → placed number q ≡ next_of b number (drop from l)
unfolding next_of pick
next-from b number from l r q e h f g = rw e (ap (placed number) (sym g ∙ f ∙ ap record_of (part_all from l h)))

pub next_misplaced : (number tag n : ℕ) → is_misplaced tag number ≡ true → Bad ≡ placed number (Whole tag n)
unfolding placed pick
next_misplaced number tag n e = rw e refl

pub next-placed : (number tag n : ℕ) → is_misplaced tag number ≡ false → Whole tag n ≡ placed number (Whole tag n)
unfolding placed pick
next-placed number tag n e = rw e refl

-- the move that it tells
NextTells : Machine → List ℕ → Decoded → Type 0
NextTells m s Cut = move_of m s ≡ stay
NextTells m s Bad = move_of m s ≡ halt
NextTells m s (Whole tag n) = Full s tag n × (move_of m s ≡ go (stepped m tag (take n (drop 3 s))) (step_line m tag (take n (drop 3 s))) (3 + n))

next_tells_by : (m : Machine) (s : List ℕ) (r : Decoded) → m.state.ended ≡ false → record_of s ≡ r → NextTells m s (placed m.state.number r)
unfolding NextTells placed
next_tells_by m s Cut e f = move_cut m s e f
next_tells_by m s Bad e f = move_bad m s e f
next_tells_by m s (Whole tag n) e f =
    cases Decoded (NextTells m s) (is_misplaced tag m.state.number) Bad (Whole tag n)
    (λ g. move_misplaced m s tag n e f g)
    (λ g. (full s tag n f, move_step m s tag n e f g))

next_tells : (m : Machine) (s : List ℕ) → NextTells m s (next_of m.state.ended m.state.number s)
unfolding NextTells next_of
next_tells m s =
    cases Decoded (NextTells m s) m.state.ended Cut (placed m.state.number (record_of s))
    (λ e. move_ended m s e)
    (λ e. next_tells_by m s (record_of s) e refl)

module _ (m : Machine) (s : List ℕ) (r : Decoded) (e : r ≡ next_of m.state.ended m.state.number s) where
  next-is : (q : Decoded) → r ≡ q → NextTells m s q
  next-is q f = subst (λ (x : Decoded). NextTells m s x) (sym e ∙ f) (next_tells m s)

  pub next-cut : r ≡ Cut → move_of m s ≡ stay
  unfolding NextTells
  next-cut f = next-is Cut f

  pub next-bad : r ≡ Bad → move_of m s ≡ halt
  unfolding NextTells
  next-bad f = next-is Bad f

  pub next-whole : (tag n : ℕ) → r ≡ Whole tag n
      → Full s tag n × (move_of m s ≡ go (stepped m tag (take n (drop 3 s))) (step_line m tag (take n (drop 3 s))) (3 + n))
  unfolding NextTells
  next-whole tag n f = next-is (Whole tag n) f

body-length : (from n : ℕ) (l : List ℕ) → from + 3 + n ≤ length l → length (take (from + 3 + n - (from + 3)) (drop (from + 3) l)) ≡ n
body-length from n l h =
    let e : from + 3 + n - (from + 3) ≡ n = omega arith in
    ap (λ (k : ℕ). length (take k (drop (from + 3) l))) e ∙ length-take-le n (drop (from + 3) l) (omega (arith, length-drop (from + 3) l))

-- a record that is all there lies in the input, and its body is right for its tag
module _ (st : ScriptState) (from : ℕ) (l : List ℕ) (r : Decoded) (tag n : ℕ) (h : from ≤ length l) (e : r ≡ next_of st.ended st.number (drop from l))
    (f : r ≡ Whole tag n) where
  whole : Full (drop from l) tag n
  whole = (next-whole (machine st [] (rings [] [] [] [])) (drop from l) r e tag n f).0

  pub record-within : from + 3 + n ≤ length l
  record-within = let z : 3 + n ≤ length l - from = rw (← length-drop from l) whole.long in omega arith

  pub record-body : is_body tag (length (take (from + 3 + n - (from + 3)) (drop (from + 3) l))) ≡ true
  record-body = ap (λ (k : ℕ). is_body tag k) (body-length from n l record-within) ∙ whole.body

-- ---- one turn

pub body_at : (from n : ℕ) (l : List ℕ) → take (from + 3 + n - (from + 3)) (drop (from + 3) l) ≡ take n (drop 3 (drop from l))
body_at from n l =
    let e : from + 3 + n - (from + 3) ≡ n = omega arith in
    ap (λ (k : ℕ). take k (drop (from + 3) l)) e ∙ ap (λ (z : List ℕ). take n z) (sym (drop-drop 3 from l))

module _ (m : Machine) (mv : Move) (offset from : ℕ) (w : Writer) where
  pub turn_stay : mv ≡ stay → TurnDone m mv offset from m.memory m.lent w w (record { state = m.state; from = from; more = false })
  unfolding machine_after text_of taken_by goes_on
  turn_stay e =
      subst (λ (v : Move). TurnDone m v offset from m.memory m.lent w w (record { state = m.state; from = from; more = false })) (sym e)
      (record { state = refl; memory = refl; lent = refl; next = omega arith; more = refl; text = appends_nothing LINE w })

  pub turn_stop : (w' : Writer) (r : Turned) → mv ≡ halt → StopDone m.state offset from w w' r → TurnDone m mv offset from m.memory m.lent w w' r
  unfolding machine_after text_of taken_by goes_on
  turn_stop w' r e h =
      subst (λ (v : Move). TurnDone m v offset from m.memory m.lent w w' r) (sym e)
      (record {
        state = h.state;
        memory = refl;
        lent = refl;
        next = h.next ∙ (let z : from ≡ from + 0 = omega arith in z);
        more = h.more;
        text = appends_up_to LINE (omega arith) h.text;
      })

  pub turn_step : (tag n : ℕ) (body body' memory' : List ℕ) (z' : Rings) (w' : Writer) (q : ScriptState)
      → mv ≡ go (stepped m tag body') (step_line m tag body') (3 + n) → body ≡ body' → StepDone m tag body memory' z' w w' q
      → TurnDone m mv offset from memory' z' w w' (record { state = q; from = from + 3 + n; more = true })
  unfolding machine_after text_of taken_by goes_on
  turn_step tag n body body' memory' z' w' q e b d =
      let f : StepDone m tag body' memory' z' w w' q = subst (λ (x : List ℕ). StepDone m tag x memory' z' w w' q) b d in
      subst (λ (v : Move). TurnDone m v offset from memory' z' w w' (record { state = q; from = from + 3 + n; more = true })) (sym e)
      (record {
        state = f.state;
        memory = f.memory;
        lent = f.lent;
        next = (let z : from + 3 + n ≡ from + (3 + n) = omega arith in z);
        more = refl;
        text = f.text;
      })

-- ---- one step

-- a line whose bytes are no more than a read delivers
line_appends : {number : ℕ} {a : Answer} {one two : SignalWord} {bs : List ℕ} {w w' : Writer} → LineWritten number a one two bs w w' → length bs ≤ 4096
    → Appends LINE (line_of number a one two bs) w w'
line_appends p h = record { fit = (p.done.put h).fit; same_slice = p.same_slice }

-- the words that both ends show
shown-one : (p : Pair) → shown p.one ≡ shown_by p 1
unfolding shown_by is_handle pick ◌or◌
shown-one p = refl

shown-two : (p : Pair) → shown p.two ≡ shown_by p 2
unfolding shown_by is_handle pick ◌or◌
shown-two p = refl

module _ (st : ScriptState) (tag : ℕ) (b memory memory₁ memory₂ : List ℕ) (z z₁ : Rings) (r : Step) (last : Bool) (to to' : Writer)
    (w : CallDone (call_of memory z st.pair tag b) memory₁ z₁ r)
    (small : length memory ≤ 4096) (kept : length memory₁ ≡ length memory)
    (f : LineWritten st.number r.answer (shown r.pair.one) (shown r.pair.two) (delivered tag b r.answer memory₁) to to')
    (l : memory₂ ≡ after_count tag b r.answer memory₁) (i : last ≡ is_last tag r.answer) where
  -- the answer and the pair are those of the call
  answer-is : r.answer ≡ (call_of memory z st.pair tag b).step.answer
  answer-is = ap (λ (x : Step). x.answer) w.step

  pair_is : r.pair ≡ (call_of memory z st.pair tag b).step.pair
  pair_is = ap (λ (x : Step). x.pair) w.step

  step-state : mk_state r.pair (st.number + 1) last ≡ stepped_state st tag (call_of memory z st.pair tag b)
  unfolding stepped_state
  step-state =
      ap (λ (x : Bool). mk_state r.pair (st.number + 1) x) (i ∙ ap (is_last tag) answer-is)
      ∙ ap (λ (x : Pair). mk_state x (st.number + 1) (is_last tag (call_of memory z st.pair tag b).step.answer)) pair_is

  step-memory : memory₂ ≡ after_count tag b (call_of memory z st.pair tag b).step.answer (call_of memory z st.pair tag b).memory
  step-memory =
      l ∙ ap (λ (x : Answer). after_count tag b x memory₁) answer-is
      ∙ ap (λ (x : List ℕ). after_count tag b (call_of memory z st.pair tag b).step.answer x) w.memory

  step-text : line_of st.number r.answer (shown r.pair.one) (shown r.pair.two) (delivered tag b r.answer memory₁)
      ≡ called_line st.number tag b (call_of memory z st.pair tag b)
  unfolding called_line
  step-text =
      ap (λ (x : SignalWord). line_of st.number r.answer x (shown r.pair.two) (delivered tag b r.answer memory₁)) (shown-one r.pair)
      ∙ ap (λ (x : SignalWord). line_of st.number r.answer (shown_by r.pair 1) x (delivered tag b r.answer memory₁)) (shown-two r.pair)
      ∙ ap (λ (x : Pair). line_of st.number r.answer (shown_by x 1) (shown_by x 2) (delivered tag b r.answer memory₁)) pair_is
      ∙ ap (λ (x : Answer). line_of st.number x (shown_by called 1) (shown_by called 2) (delivered tag b x memory₁)) answer-is
      ∙ ap (λ (x : List ℕ). line_of st.number (call_of memory z st.pair tag b).step.answer (shown_by called 1) (shown_by called 2)
      (delivered tag b (call_of memory z st.pair tag b).step.answer x))
      w.memory
    where
      called : Pair
      called = (call_of memory z st.pair tag b).step.pair

  pub step-done : StepDone (machine st memory z) tag b memory₂ z₁ to to' (mk_state r.pair (st.number + 1) last)
  unfolding stepped step_line
  step-done = record { state = step-state; memory = step-memory; lent = w.lent; text = appends_same _ step-text (line_appends f (delivered-small tag b r.answer memory₁ (omega arith))) }
