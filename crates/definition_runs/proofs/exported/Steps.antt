-- Each exported call is a step of `Does`, and a refused one changes nothing. Assumes nothing.
use Prim.Native.Nat.{ℕ, ◌-◌}
use mathlib.Core.Path.{◌≡◌, refl, sym, ap, ◌∙◌}
use mathlib.Core.Bool.{false}
use mathlib.Core.List.{List, []}
use native.Mathlib.Omega.{arith}
use lib.IntN.{ℤ}
use lib.ListN.{take, drop}
use Rattle.definition.specs.declared.Status.{Status}
use Rattle.definition.specs.Status.{Answer}
use Rattle.std.specs.declared.result.Result.TheVariants.{Ok, Err}
use Rattle.definition.specs.Status.{answer_word, count_of, is_done}
use Rattle.definition.specs.declared.Pair.{Pair}
use Rattle.definition.specs.declared.Step.{Step}
use Rattle.definition.specs.Pair.{is_one}
use Rattle.definition.specs.Read.{bytes_landed}
use Rattle.definition_runs.specs.Exported.{array_of, is_count, count_in, record_in, array_after, murgwethan_write, murgwethan_read, murgwethan_set_disposition, murgwethan_shutdown, murgwethan_set_read_threshold, murgwethan_set_write_threshold, murgwethan_thresholds, murgwethan_info, murgwethan_wait, murgwethan_take, murgwethan_cancel, murgwethan_close, murgwethan_user_write, murgwethan_user_read, murgwethan_user_set_disposition, murgwethan_user_shutdown, IsStep, CallsAreSteps, ExportedRefusedChangesNothing}
use Rattle.definition.specs.Calls.{Control, set_disposition, shutdown, plain_disposition, plain_shutdown, set_read_threshold, set_write_threshold, get_thresholds, get_info, wait, take_packet, cancel, Call, write, read, plain_write, plain_read, close, control, Input, State, own_slices, gives}
use Rattle.definition_runs.specs.Run.{Does, did_write, did_read, did_dispose, did_shutdown, did_plain_write, did_plain_read, did_plain_dispose, did_plain_shutdown, did_read_threshold, did_write_threshold, did_thresholds, did_info, did_wait, did_take, did_cancel, did_close}
use Rattle.definition_runs.proofs.Claims.{claims}
use Rattle.definition_runs.proofs.exported.Words.{count_in_lem, is_count_lem}

-- the answer and the pair at exit, as a by-value call would return them
abbrev stepped : Pair → Answer → Step
stepped p a = record { pair = p; answer = a }

counted : (w : ℤ) (a : Answer) → w ≡ answer_word a → count_in w ≡ count_of a
counted w a e = ap count_in e ∙ count_in_lem a

-- a call that delivers nothing and is lent no array
plain : (s s' : State) (i : Input) (p : Pair) (a : Answer) (w : ℤ) (memory : List ℕ)
    → Does s i s' (gives (stepped p a) s' [] memory) → w ≡ answer_word a → ([] ≡ array_after i.call a [])
    → IsStep s (record { input = i; array = [] }) s' (record { word = w; pair = p; delivered = []; memory = memory; array = [] })
plain s s' i p a w memory d e f =
    record { outcome = gives (stepped p a) s' [] memory; step = d; word = e; pair = refl; delivered = refl; memory = refl; array = f }

-- a call whose record goes to an array
recorded : (s s' : State) (i : Input) (p : Pair) (a : Answer) (w : ℤ) (out out' : List ℕ)
    → Does s i s' (gives (stepped p a) s' [] []) → w ≡ answer_word a → out' ≡ array_after i.call a out
    → IsStep s (record { input = i; array = out }) s' (record { word = w; pair = p; delivered = []; memory = []; array = out' })
recorded s s' i p a w out out' d e f =
    record { outcome = gives (stepped p a) s' [] []; step = d; word = e; pair = refl; delivered = refl; memory = refl; array = f }

pub calls_are_steps : CallsAreSteps
unfolding array_after record_in
calls_are_steps s x s' y (murgwethan_write {h} {bytes} {ring'} {table'} {p} {w} k) =
    plain s _ _ p k.answer w bytes (did_plain_write k.kept) k.word refl
calls_are_steps s x s' y (murgwethan_read {h} {peek} {buffer} {buffer'} {p} {w} k) =
    record {
      outcome = gives (stepped p k.answer) s (take (count_of k.answer) buffer') buffer';
      step = did_plain_read k.kept;
      word = k.word;
      pair = refl;
      delivered = ap (λ (m : ℕ). take m buffer') (counted w k.answer k.word);
      memory = refl;
      array = refl;
    }
calls_are_steps s x s' y (murgwethan_set_disposition {p = p} {w = w} k) = plain s _ _ p k.answer w [] (did_plain_dispose k.kept) k.word refl
calls_are_steps s x s' y (murgwethan_shutdown {p = p} {w = w} k) = plain s _ _ p k.answer w [] (did_plain_shutdown k.kept) k.word refl
calls_are_steps s x s' y (murgwethan_set_read_threshold {p = p} {w = w} k) = plain s _ _ p k.answer w [] (did_read_threshold k.kept) k.word refl
calls_are_steps s x s' y (murgwethan_set_write_threshold {p = p} {w = w} k) = plain s _ _ p k.answer w [] (did_write_threshold k.kept) k.word refl
calls_are_steps s x s' y (murgwethan_thresholds {h} {out} {out'} {p} {w} k) =
    recorded s _ _ p k.answer w out out' (did_thresholds k.kept.step) k.word k.kept.array
calls_are_steps s x s' y (murgwethan_info {h} {out} {out'} {p} {w} k) =
    recorded s _ _ p k.answer w out out' (did_info k.kept.step) k.word k.kept.array
calls_are_steps s x s' y (murgwethan_wait {p = p} {w = w} k) = plain s _ _ p k.answer w [] (did_wait k.kept) k.word refl
calls_are_steps s x s' y (murgwethan_take {out} {out'} {p} {w} k) =
    recorded s _ _ p k.answer w out out' (did_take k.kept.step) k.word k.kept.array
calls_are_steps s x s' y (murgwethan_cancel {p = p} {w = w} k) = plain s _ _ p k.answer w [] (did_cancel k.kept) k.word refl
calls_are_steps s x s' y (murgwethan_close {p = p} {w = w} k) = plain s _ _ p k.answer w [] (did_close k.kept) k.word refl
calls_are_steps s x s' y (murgwethan_user_write {memory' = memory'} {p = p} {w = w} k) =
    plain s _ _ p k.answer w memory' (did_write k.kept) k.word refl
calls_are_steps s x s' y (murgwethan_user_read {h} {o} {base} {a} {n} {at} {memory} {memory'} {p} {w} k) =
    let ring : List ℕ = (own_slices (is_one h) s).ring in
    record {
      outcome = gives (stepped p k.answer) s (take (count_of k.answer) (drop (a - base) (bytes_landed s.pair h base a (count_of k.answer) ring memory))) memory';
      step = did_read (record { answer = k.kept.answer; pair = k.kept.pair; user = refl }) k.kept;
      word = k.word;
      pair = refl;
      delivered = ap (λ (m : ℕ). take m (drop (a - base) (bytes_landed s.pair h base a m ring memory))) (counted w k.answer k.word);
      memory = refl;
      array = refl;
    }
calls_are_steps s x s' y (murgwethan_user_set_disposition {p = p} {w = w} k) = plain s _ _ p k.answer w [] (did_dispose k.kept) k.word refl
calls_are_steps s x s' y (murgwethan_user_shutdown {p = p} {w = w} k) = plain s _ _ p k.answer w [] (did_shutdown k.kept) k.word refl

-- ---- refused calls

record-kept : (c : Control) (e : Status) (out : List ℕ) → record_in c (Err e) out ≡ out
unfolding record_in array_of
record-kept (set_disposition h a b) e out = refl
record-kept (shutdown h o) e out = refl
record-kept (plain_disposition h a b) e out = refl
record-kept (plain_shutdown h reading writing) e out = refl
record-kept (set_read_threshold h n) e out = refl
record-kept (set_write_threshold h n) e out = refl
record-kept (get_thresholds h) e out = refl
record-kept (get_info h) e out = refl
record-kept (wait h key mask edge) e out = refl
record-kept take_packet e out = refl
record-kept (cancel h key) e out = refl

array-kept : (c : Call) (e : Status) (out : List ℕ) → array_after c (Err e) out ≡ out
unfolding array_after
array-kept (write h o a n at) e out = refl
array-kept (read h o a n at) e out = refl
array-kept (plain_write h) e out = refl
array-kept (plain_read h peek) e out = refl
array-kept (close h) e out = refl
array-kept (control c) e out = record-kept c e out

-- an answer that is not done has a status
status_of : (a : Answer) → is_done a ≡ false → (e : Status) × (a ≡ Err e)
unfolding is_done
status_of (Ok d) f = let z : ◌≡◌ {A = ℕ} 0 1 = cc in absurd (omega arith)
status_of (Err e) f = (e, refl)

pub refused_leaves : ExportedRefusedChangesNothing
refused_leaves s x s' y d f =
    let k = calls_are_steps s x s' y d in
    let r = status_of k.outcome.seen.answer (sym (is_count_lem k.outcome.seen.answer) ∙ ap is_count (sym k.word) ∙ f) in
    let u = claims.refused s x.input s' k.outcome k.step r.0 r.1 in
    record {
      state = u.state;
      memory = k.memory ∙ u.memory;
      array = k.array ∙ ap (λ (a : Answer). array_after x.input.call a x.array) r.1 ∙ array-kept x.input.call r.0 x.array;
    }
