-- A whole run of the code is the computed one. Assumes nothing.
use mathlib.Core.Path.{◌≡◌, refl, ap, ap₂, ◌∙◌}
use mathlib.Core.List.{List, ◌∷◌}
use lib.Dec.{eqb}
use Rattle.definition.specs.declared.Pair.{Pair}
use Rattle.definition.specs.declared.Step.{Step}
use Rattle.definition.specs.Create.{new_pair, no_pair}
use Rattle.definition.specs.Tests.{Steps}
use Rattle.definition.specs.Calls.{Create, Input, Slices, State, state, seen_of, Outcome, created_by, outcomes, after_all, pair_created}
use Rattle.definition_runs.specs.Run.{Chain, none, next, Does, run, RunsMatch}
use Rattle.definition_runs.proofs.runs.Match.{calls_match}

pub record Computed (s : State) (is : List Input) (os : List Outcome) (s' : State) : Type 0 where
  pub calls : os ≡ outcomes s is
  pub last : s' ≡ after_all s is

pub calls_computed : {s : State} {is : List Input} {os : List Outcome} {s' : State} → Chain Does s is os s' → Computed s is os s'
unfolding outcomes after_all
calls_computed none = record { calls = refl; last = refl }
calls_computed (next {s} {s'} {s''} {i} {o} {is} {os} d c) =
    let m = calls_match s i s' o d in
    let k = calls_computed c in
    record {
      calls = ap₂ (λ (x : Outcome) (xs : List Outcome). x ∷ xs) m.out (k.calls ∙ ap (λ (x : State). outcomes x is) m.state);
      last = k.last ∙ ap (λ (x : State). after_all x is) m.state;
    }

pub created_pair : (c : Create) (one two : Slices) (r : Step)
    → Steps no_pair (created_by c one two) (new_pair (eqb c.kind 1) c.capacity c.rights1 c.rights2) r
    → r.pair ≡ pair_created c (created_by c one two)
unfolding pair_created
created_pair c one two r e = e.pair

pub runs_match : RunsMatch
runs_match c one two is x os s (run {r} e k) =
    let p = created_pair c one two r e in
    let m = calls_computed k in
    record {
      create = λ i. seen_of (e.answer i) (p i);
      calls = m.calls ∙ ap (λ (q : Pair). outcomes (state q one two) is) p;
      last = m.last ∙ ap (λ (q : Pair). after_all (state q one two) is) p;
    }
