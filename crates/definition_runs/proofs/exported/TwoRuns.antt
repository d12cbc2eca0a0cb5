-- Two runs of exported calls, by the claim on two runs. Assumes nothing.
use mathlib.Core.Path.{◌≡◌, refl, sym, ap, ap₂, ◌∙◌}
use mathlib.Core.List.{List, [], map, map-map}
use mathlib.Core.Option.{some}
use Rattle.definition.specs.Status.{Answer}
use Rattle.definition.specs.Status.{answer_word}
use Rattle.definition.specs.declared.Pair.{Pair}
use Rattle.definition_runs.specs.Exported.{signal_number, inputs, arrays_in, pairs_of, arrays_after, CreatesAlike, ExportedTwoRuns}
use Rattle.definition.specs.Calls.{Call, Input, Public, public, Seen, seen_of, Outcome, created_by, memories_after}
use Rattle.definition_runs.specs.TwoRuns.{seen, answers, calls}
use Rattle.definition_runs.proofs.Claims.{claims}
use Rattle.definition_runs.proofs.exported.Runs.{created_word, runs_are_runs}

pub creates-alike : CreatesAlike
creates-alike c one two one' two' e k before before' p p' w w' a b =
    let bare = claims.two_runs c one two one' two' e k [] [] refl _ _ _ _ _ _ (claims.runs_exist c one two []) (claims.runs_exist c one' two' []) in
    created_word before c one two p w a
    ∙ ap (λ (x : Seen). answer_word x.answer) bare.create
    ∙ sym (created_word before' c one' two' p' w' b)

answers-same : (os os' : List Outcome) → seen os ≡ seen os' → answers os ≡ answers os'
answers-same os os' e =
    sym (map-map (λ (x : Seen). x.answer) (λ (o : Outcome). o.seen) os)
    ∙ ap (map (λ (x : Seen). x.answer)) e
    ∙ map-map (λ (x : Seen). x.answer) (λ (o : Outcome). o.seen) os'

calls_same : (is js : List Input) → map public is ≡ map public js → calls is ≡ calls js
calls_same is js e =
    sym (map-map (λ (x : Public). x.call) public is) ∙ ap (map (λ (x : Public). x.call)) e ∙ map-map (λ (x : Public). x.call) public js

pairs-same : (os os' : List Outcome) → seen os ≡ seen os' → map (λ (o : Outcome). o.seen.pair) os ≡ map (λ (o : Outcome). o.seen.pair) os'
pairs-same os os' e =
    sym (map-map (λ (x : Seen). x.pair) (λ (o : Outcome). o.seen) os)
    ∙ ap (map (λ (x : Seen). x.pair)) e
    ∙ map-map (λ (x : Seen). x.pair) (λ (o : Outcome). o.seen) os'

pub exported_two_runs : ExportedTwoRuns
exported_two_runs c one two one' two' e k xs xs' same p p' ys ys' s s' r r' =
    let a = runs_are_runs c one two xs p ys s r in
    let b = runs_are_runs c one' two' xs' p' ys' s' r' in
    let os = a.outcomes in
    let os' = b.outcomes in
    let t = claims.two_runs c one two one' two' e k (inputs xs) (inputs xs') same
    (seen_of (created_by c one two) p) (seen_of (created_by c one' two') p') os os' s s' a.run b.run in
    let rs = answers-same os os' t.same in
    let ps : pairs_of ys ≡ pairs_of ys' = a.gives.pairs ∙ pairs-same os os' t.same ∙ sym b.gives.pairs in
    record {
      create = ap (λ (x : Seen). x.pair) t.create;
      words = a.gives.words ∙ ap (map answer_word) rs ∙ sym b.gives.words;
      pairs = ps;
      signals = λ h. ap (map (λ (x : Pair). signal_number x h)) ps;
      answers = answers os;
      answered = a.gives.words;
      arrays = a.gives.arrays;
      arrays' =
          b.gives.arrays
          ∙ sym (ap₂ (λ (cs : List Call) (given : List Answer). arrays_after cs given (arrays_in xs')) (calls_same (inputs xs) (inputs xs') same) rs);
      first = ap (map (map some)) a.gives.bytes ∙ t.first;
      second = ap (map (map some)) b.gives.bytes ∙ t.second;
      memory = a.gives.memories ∙ t.memory ∙ ap (memories_after (inputs xs) (answers os)) (sym a.gives.bytes);
      memory' = b.gives.memories ∙ t.memory' ∙ ap (memories_after (inputs xs') (answers os)) (sym b.gives.bytes);
    }
