-- What a refused create hands back: every call on it is INTERNAL. Assumes nothing.
use Prim.Native.Nat.{ℕ, suc}
use mathlib.Core.Path.{◌≡◌, refl, sym, ap, ap₂, ◌∙◌}
use mathlib.Core.Bool.{Bool}
use mathlib.Core.List.{List, [], ◌∷◌, map}
use mathlib.Core.Option.{Option, some}
use lib.ListN.{length}
use Rattle.definition.specs.declared.Status.TheVariants.{Internal}
use Rattle.definition.specs.Status.{Answer}
use Rattle.std.specs.declared.result.Result.TheVariants.{Err}
use Rattle.definition.specs.Status.{◌and◌, refuse_unless, ◌then◌}
use Rattle.definition.specs.Info.{info_answer}
use Rattle.definition.specs.Read.{read_answer, user_read_answer}
use Rattle.definition.specs.Tests.{sound_ends, sound_test, opening_test, Lent}
use Rattle.definition.specs.Threshold.{read_threshold_answer, write_threshold_answer, thresholds_answer}
use Rattle.definition.specs.Port.{wait_answer, take_answer, cancel_answer}
use Rattle.definition.specs.Write.{write_answer, user_write_answer}
use Rattle.definition.specs.Create.{no_pair}
use Rattle.definition.specs.Shutdown.{shutdown_answer, user_shutdown_answer}
use Rattle.definition.specs.Close.{close_answer}
use Rattle.definition.specs.Disposition.{plain_dispose_answer, user_dispose_answer}
use Rattle.definition.specs.Calls.{Control, set_disposition, shutdown, plain_disposition, plain_shutdown, set_read_threshold, set_write_threshold, get_thresholds, get_info, wait, take_packet, cancel, Call, write, read, plain_write, plain_read, close, control, Input, Public, public, Slices, State, state, seen_of, View, view, control_answer, answer_to, pair_after, answer_of, outcome, outcomes}
use Rattle.definition_runs.specs.TwoRuns.{Origin, OriginLines, no_lines, lines_after, source_of, sources_from, seen, answers, deliveries, calls}
use Rattle.definition_runs.proofs.Lists.{cons_path}
use Rattle.definition_runs.proofs.Refused.{pair_stays, lines_stay, no_source, refused-after, refused-delivers}

abbrev no-view : (z1 z2 : Lent) → View
no-view z1 z2 = record { pair = no_pair; one = z1; two = z2 }

control-internal : (z1 z2 : Lent) (c : Control) → control_answer (no-view z1 z2) c ≡ Err Internal
unfolding control_answer no_pair sound_ends sound_test opening_test refuse_unless ◌then◌ ◌and◌ read_threshold_answer write_threshold_answer thresholds_answer shutdown_answer info_answer wait_answer take_answer cancel_answer plain_dispose_answer user_dispose_answer user_shutdown_answer
control-internal z1 z2 (set_disposition h a b) = refl
control-internal z1 z2 (shutdown h o) = refl
control-internal z1 z2 (plain_disposition h a b) = refl
control-internal z1 z2 (plain_shutdown h a b) = refl
control-internal z1 z2 (set_read_threshold h n) = refl
control-internal z1 z2 (set_write_threshold h n) = refl
control-internal z1 z2 (get_thresholds h) = refl
control-internal z1 z2 (get_info h) = refl
control-internal z1 z2 (wait h k m x) = refl
control-internal z1 z2 take_packet = refl
control-internal z1 z2 (cancel h k) = refl

internal : (z1 z2 : Lent) (base size : ℕ) (c : Call) → answer_to (no-view z1 z2) base size c ≡ Err Internal
unfolding answer_to no_pair sound_ends sound_test opening_test refuse_unless ◌then◌ ◌and◌ write_answer read_answer close_answer user_write_answer user_read_answer
internal z1 z2 base size (write h o a n at) = refl
internal z1 z2 base size (read h o a n at) = refl
internal z1 z2 base size (plain_write h) = refl
internal z1 z2 base size (plain_read h peek) = refl
internal z1 z2 base size (close h) = refl
internal z1 z2 base size (control c) = control-internal z1 z2 c

module _ (one two : Slices) where
  none : State
  none = state no_pair one two

  answer-none : (i : Input) → answer_of none i ≡ Err Internal
  unfolding none
  answer-none i = internal _ _ i.base (length i.memory) i.call

  -- what is seen of each call
  seen_none : (i : Input) → (outcome none i).seen ≡ seen_of (Err Internal) no_pair
  unfolding none outcome
  seen_none i =
      ap (λ (x : Answer). seen_of x (pair_after (view none) i.call x)) (answer-none i)
      ∙ ap (seen_of (Err Internal)) (pair_stays (view none) i.call Internal)

  pub seen_all : (is : List Input) → seen (outcomes (state no_pair one two) is) ≡ map (λ (p : Public). seen_of (Err Internal) no_pair) (map public is)
  unfolding none outcomes
  seen_all [] = refl
  seen_all (i ∷ is) =
      cons_path (seen_none i) (ap (λ (s : State). seen (outcomes s is)) (refused-after none i Internal (answer-none i)) ∙ seen_all is)

  -- nothing is delivered, and nothing has a source
  pub origins-all : (f : Origin → Option ℕ) (dg : Bool) (w : ℕ) (is : List Input)
      → map (map some) (deliveries (outcomes (state no_pair one two) is))
      ≡ map (map f) (sources_from dg w no_lines (calls is) (answers (outcomes (state no_pair one two) is)))
  unfolding none outcomes sources_from outcome
  origins-all f dg w [] = refl
  origins-all f dg w (i ∷ is) =
      let a = answer-none i in
      let e = refused-after none i Internal a in
      let l : lines_after dg w i.call (answer_of none i) no_lines ≡ no_lines
      = ap (λ (x : Answer). lines_after dg w i.call x no_lines) a ∙ lines_stay dg w i.call Internal no_lines in
      cons_path
      (ap (map some) (refused-delivers none i Internal a)
      ∙ sym (ap (λ (x : Answer). map f (source_of no_lines i.call x)) a ∙ ap (map f) (no_source no_lines i.call Internal)))
      (ap (λ (s : State). map (map some) (deliveries (outcomes s is))) e
      ∙ origins-all f dg (suc w) is
      ∙ sym (ap₂ (λ (ln : OriginLines) (s : State). map (map f) (sources_from dg (suc w) ln (calls is) (answers (outcomes s is)))) l e))
