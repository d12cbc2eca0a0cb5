-- A run of exported calls is a `Run`. Assumes nothing.
use Prim.Native.Nat.{ℕ}
use mathlib.Core.Path.{◌≡◌, refl, sym, ap, ap₂, ◌∙◌}
use mathlib.Core.Bool.{Bool, true}
use mathlib.Core.List.{List, [], ◌∷◌}
use lib.IntN.{ℤ}
use lib.Dec.{eqb}
use Rattle.definition.specs.Status.{pick, answer_word, is_done}
use Rattle.definition.specs.declared.Pair.{Pair}
use Rattle.definition.specs.Create.{new_pair, no_pair}
use Rattle.definition.specs.Calls.{Create, Slices, State, Outcome, created_by, CreatesBy}
use Rattle.definition_runs.specs.Run.{Chain, none, next, Does, run as run_of}
use Rattle.definition_runs.specs.Exported.{Answered, Passed, Returned, is_count, Exported, run, inputs, arrays_after, Gives, RunsAreRuns, CreateStarts}
use Rattle.definition_runs.proofs.exported.Words.{is_count_lem}
use Rattle.definition_runs.proofs.exported.Steps.{calls_are_steps}

-- ---- create

pub created_word : (p : Pair) (c : Create) (one two : Slices) (p' : Pair) (w : ℤ) → Answered (CreatesBy p c one two) p' w → w ≡ answer_word (created_by c one two)
created_word p c one two p' w k = k.word ∙ ap answer_word k.kept.answer

pub create-starts : CreateStarts
unfolding pick
create-starts p c one two p' w k =
    record {
      word = created_word p c one two p' w k;
      starts = λ d is os s calls. run_of {r = record { pair = p'; answer = created_by c one two }} (record { answer = refl; pair = new d }) calls;
      refused = λ d. k.kept.pair ∙ ap (λ (b : Bool). pick b made p) (done d);
    }
  where
    made : Pair
    made = new_pair (eqb c.kind 1) c.capacity c.rights1 c.rights2

    -- the word tells whether create was done
    done : {b : Bool} → is_count w ≡ b → is_done (created_by c one two) ≡ b
    done d = sym (is_count_lem (created_by c one two)) ∙ ap is_count (sym (created_word p c one two p' w k)) ∙ d

    new : is_count w ≡ true → p' ≡ pick (is_done (created_by c one two)) made no_pair
    new d = k.kept.pair ∙ ap (λ (b : Bool). pick b made p) (done d) ∙ sym (ap (λ (b : Bool). pick b made no_pair) (done d))

-- ---- the calls

pub record CallsOf (s : State) (xs : List Passed) (ys : List Returned) (s' : State) : Type 0 where
  pub outcomes : List Outcome
  pub calls : Chain Does s (inputs xs) outcomes s'
  pub gives : Gives xs ys outcomes

calls_of : {s : State} {xs : List Passed} {ys : List Returned} {s' : State} → Chain Exported s xs ys s' → CallsOf s xs ys s'
unfolding arrays_after
calls_of none = record { outcomes = []; calls = none; gives = record { words = refl; pairs = refl; bytes = refl; memories = refl; arrays = refl } }
calls_of (next {s} {s'} {s''} {i = x} {o = y} {is = xs} {os = ys} d ds) =
    let k = calls_are_steps s x s' y d in
    let ks = calls_of ds in
    record {
      outcomes = k.outcome ∷ ks.outcomes;
      calls = next k.step ks.calls;
      gives =
          record {
            words = ap₂ (λ (h : ℤ) (t : List ℤ). h ∷ t) k.word ks.gives.words;
            pairs = ap₂ (λ (h : Pair) (t : List Pair). h ∷ t) k.pair ks.gives.pairs;
            bytes = ap₂ (λ (h : List ℕ) (t : List (List ℕ)). h ∷ t) k.delivered ks.gives.bytes;
            memories = ap₂ (λ (h : List ℕ) (t : List (List ℕ)). h ∷ t) k.memory ks.gives.memories;
            arrays = ap₂ (λ (h : List ℕ) (t : List (List ℕ)). h ∷ t) k.array ks.gives.arrays;
          };
    }

pub runs_are_runs : RunsAreRuns
runs_are_runs c one two xs p' ys s (run {before} {p} {w} k d calls) =
    let ks = calls_of calls in
    record { outcomes = ks.outcomes; run = (create-starts before c one two p w k).starts d (inputs xs) ks.outcomes s ks.calls; gives = ks.gives }
