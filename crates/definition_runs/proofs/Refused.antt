-- A refused call changes nothing, whatever it is called on; memory at exit. Assumes nothing.
use Prim.Native.Nat.{ℕ}
use mathlib.Core.Path.{◌≡◌, refl, sym, ap, ap₂, ◌∙◌}
use mathlib.Core.Bool.{Bool, true, false}
use mathlib.Core.List.{List, []}
use Rattle.definition.specs.declared.Status.{Status}
use Rattle.std.specs.declared.result.Result.TheVariants.{Err}
use Rattle.definition.specs.Status.{pick, ◌or◌, count_of, is_done}
use Rattle.definition.specs.Write.{ring_written, table_written, pair_written}
use Rattle.definition.specs.declared.Pair.{Pair}
use Rattle.definition.specs.Pair.{is_one}
use Rattle.definition.specs.Read.{pair_read, is_peek}
use Rattle.definition.specs.Calls.{Call, write, read, plain_write, plain_read, close, control, Input, State, peer_slices, with_peer_slices, Outcome, View, view, pair_after, memory_after, written, state_after, landed, delivered_in, answer_of, after_by, delivered_by, after, outcome}
use Rattle.definition_runs.specs.TwoRuns.{OriginLines, added, removed, lines_after, source_of}
use Rattle.definition_runs.specs.Laws.{RefusedChangesNothing, MemoryAtExit}
use Rattle.definition_runs.proofs.runs.Match.{calls_match}

none_written : (s : State) (h : ℕ) (src : List ℕ) → written s h 0 src ≡ s
unfolding written pair_written ring_written table_written pick
none_written s h src = go (is_one h)
  where
    go : (t : Bool) → with_peer_slices t s.pair (record { ring = (peer_slices t s).ring; table = (peer_slices t s).table }) s ≡ s
    go true = refl
    go false = refl

none_read : (p : Pair) (h first : ℕ) (peek : Bool) → pair_read p h peek first 0 ≡ p
unfolding pair_read pick ◌or◌
none_read p h first true = refl
none_read p h first false = refl

pub pair_stays : (v : View) (c : Call) (e : Status) → pair_after v c (Err e) ≡ v.pair
unfolding pair_after count_of is_done pair_written pick
pair_stays v (write h o a n at) e = refl
pair_stays v (read h o a n at) e = none_read v.pair h _ (is_peek o)
pair_stays v (plain_write h) e = refl
pair_stays v (plain_read h peek) e = none_read v.pair h _ peek
pair_stays v (close h) e = refl
pair_stays v (control c) e = refl

state_stays : (s : State) (i : Input) (c : Call) (e : Status) → state_after s i c (Err e) s.pair ≡ s
unfolding state_after count_of
state_stays s i (write h o a n at) e = none_written s h _
state_stays s i (read h o a n at) e = refl
state_stays s i (plain_write h) e = none_written s h _
state_stays s i (plain_read h peek) e = refl
state_stays s i (close h) e = refl
state_stays s i (control c) e = refl

-- memory stays where nothing is delivered
memory_stays : (base : ℕ) (memory : List ℕ) (c : Call) (e : Status) → memory_after base memory c (Err e) [] ≡ memory
unfolding memory_after is_done pick
memory_stays base memory (write h o a n at) e = refl
memory_stays base memory (read h o a n at) e = refl
memory_stays base memory (plain_write h) e = refl
memory_stays base memory (plain_read h peek) e = refl
memory_stays base memory (close h) e = refl
memory_stays base memory (control c) e = refl

pub delivers-nothing : (base : ℕ) (memory : List ℕ) (c : Call) (e : Status) → delivered_in base memory c (Err e) ≡ []
unfolding delivered_in count_of
delivers-nothing base memory (write h o a n at) e = refl
delivers-nothing base memory (read h o a n at) e = refl
delivers-nothing base memory (plain_write h) e = refl
delivers-nothing base memory (plain_read h peek) e = refl
delivers-nothing base memory (close h) e = refl
delivers-nothing base memory (control c) e = refl

-- nor does it change a line, and it has no source
none-removed : (dg t peek : Bool) (ln : OriginLines) → removed dg t peek 0 ln ≡ ln
unfolding removed pick
none-removed dg t true ln = refl
none-removed dg t false ln = refl

pub lines_stay : (dg : Bool) (w : ℕ) (c : Call) (e : Status) (ln : OriginLines) → lines_after dg w c (Err e) ln ≡ ln
unfolding lines_after count_of is_done added pick
lines_stay dg w (write h o a n at) e ln = refl
lines_stay dg w (read h o a n at) e ln = none-removed dg (is_one h) (is_peek o) ln
lines_stay dg w (plain_write h) e ln = refl
lines_stay dg w (plain_read h peek) e ln = none-removed dg (is_one h) peek ln
lines_stay dg w (close h) e ln = refl
lines_stay dg w (control c) e ln = refl

pub no_source : (ln : OriginLines) (c : Call) (e : Status) → source_of ln c (Err e) ≡ []
unfolding source_of count_of
no_source ln (write h o a n at) e = refl
no_source ln (read h o a n at) e = refl
no_source ln (plain_write h) e = refl
no_source ln (plain_read h peek) e = refl
no_source ln (close h) e = refl
no_source ln (control c) e = refl

pub refused-after : (s : State) (i : Input) (e : Status) → answer_of s i ≡ Err e → after s i ≡ s
unfolding after
refused-after s i e r =
    ap (after_by s i) r
    ∙ ap (state_after s i i.call (Err e)) (pair_stays (view s) i.call e)
    ∙ state_stays s i i.call e

pub refused-delivers : (s : State) (i : Input) (e : Status) → answer_of s i ≡ Err e → (outcome s i).delivered ≡ []
unfolding outcome
refused-delivers s i e r =
    ap (delivered_by s i) r ∙ delivers-nothing i.base (landed s i.base i.memory i.call (Err e)) i.call e

refused-memory : (s : State) (i : Input) (e : Status) → answer_of s i ≡ Err e → (outcome s i).memory ≡ i.memory
unfolding outcome
refused-memory s i e r =
    ap₂ (memory_after i.base i.memory i.call) r (refused-delivers s i e r) ∙ memory_stays i.base i.memory i.call e

pub refused-changes-nothing : RefusedChangesNothing
unfolding outcome
refused-changes-nothing s i s' o d e r =
    let m = calls_match s i s' o d in
    let a : answer_of s i ≡ Err e = sym (ap (λ (x : Outcome). x.seen.answer) m.out) ∙ r in
    record {
      state = m.state ∙ refused-after s i e a;
      memory = ap (λ (x : Outcome). x.memory) m.out ∙ refused-memory s i e a;
      delivers = ap (λ (x : Outcome). x.delivered) m.out ∙ refused-delivers s i e a;
    }

-- memory at exit, from what is computed
pub memory-at_exit : MemoryAtExit
unfolding outcome
memory-at_exit s i s' o d =
    let m = calls_match s i s' o d in
    rw m.out refl
