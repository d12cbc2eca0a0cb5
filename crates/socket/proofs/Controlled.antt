-- A call without lent bytes is its effect once the waits are visited: the law for every effect, and what it says of each call. Assumes nothing.
use Prim.Native.Nat.{ℕ, ◌≤◌}
use mathlib.Core.Path.{◌≡◌, refl, sym, ap, subst, ◌∙◌}
use mathlib.Core.Bool.{Bool, true, false}
use native.Mathlib.Omega.{arith}
use lib.ListN.{length}
use Rattle.definition.specs.Status.{Answer}
use Rattle.definition.specs.declared.Disposition.{Disposition}
use Rattle.definition.specs.declared.Ends.{Ends}
use Rattle.definition.specs.declared.Pair.{Pair}
use Rattle.definition.specs.declared.Step.{Step}
use Rattle.definition.specs.Status.{pick, is_done}
use Rattle.definition.specs.Pair.{is_one, own, peer, ends_of}
use Rattle.definition.specs.Port.{sound}
use Rattle.definition.specs.Tests.{opening_test, Steps}
use Rattle.definition.specs.Effect.{Effect, keeping_waits, applied}
use Rattle.definition.specs.Threshold.{read_threshold_answer, read_threshold_effect, read_threshold_set, write_threshold_answer, write_threshold_effect, write_threshold_set}
use Rattle.definition.specs.Disposition.{dispose_answer, dispose_effect, disposed}
use Rattle.definition.specs.Shutdown.{shutdown_answer, shut_effect, shut}
use Rattle.definition.specs.Close.{close_answer, close_effect, closed}
use Rattle.endpoint.specs.declared.ends.EndsOutcome.{EndsOutcome}
use Rattle.endpoint.specs.ends.Outcome.{unchanged_ends}
use Rattle.endpoint.specs.ends.AtOnce.{moved_by, more_by}
use Rattle.endpoint.proofs.answer.Chains.{then_both}
use Rattle.answers.proofs.tests.Sound.{opening_passed}
use Rattle.control.specs.ByEffect.{done_outcome, moved_if}
use Rattle.control.proofs.ends.Outcomes.{by_kept, refused, done}
use Rattle.socket.specs.Deferred.{with_ends, settled_step, settled_close}
use Rattle.socket.proofs.Visiting.{applied-last, settled_last}
use Rattle.socket.proofs.Closed.{settled_dropping}
use Rattle.socket.proofs.Steps.{steps-refused, steps-done}

-- ---- the law

-- the step of a call by end t: one that drops waits drops them first
abbrev settled_by : (drops t : Bool) → EndsOutcome → Pair → Step
settled_by d t r p = pick d (settled_close t r p) (settled_step r p)

settled_by_lem : (t : Bool) (e : Effect) (a : Answer) (p : Pair) → length p.places.table ≡ 128 → length e.changes ≤ 4 → sound p.places ≡ true
    → settled_by e.drops t (done_outcome p.places.waits t a e) p ≡ record { pair = applied t e p; answer = a }
unfolding pick
settled_by_lem t e a p l n s = by e.drops refl
  where
    by : (d : Bool) → e.drops ≡ d → settled_by d t (done_outcome p.places.waits t a e) p ≡ record { pair = applied t e p; answer = a }
    by true k = settled_dropping t e a p l k n s
    by false k =
        ap (λ (r : EndsOutcome). settled_step r p) (sym (by_kept p.places.waits t a e k))
        ∙ settled_last p t a (moved_by t e) (more_by t e) l
        ∙ ap (λ (q : Pair). record { pair = q; answer = a }) (applied-last t e p k n s)

unchanged_by : (d t : Bool) (p : Pair) (a : Answer) → settled_by d t (unchanged_ends (ends_of p) a) p ≡ record { pair = p; answer = a }
unfolding settled_close settled_step unchanged_ends with_ends pick
unchanged_by true t p a = refl
unchanged_by false t p a = refl

-- a call by its answer, for any answer and any effect of at most four changes
pub call-whole : (p : Pair) (h : ℕ) (answer : Ends → Answer) (effect : Ends → Effect) (e : Ends) (r : EndsOutcome) → length p.places.table ≡ 128 → e ≡ ends_of p
    → length (effect (ends_of p)).changes ≤ 4 → (is_done (answer (ends_of p)) ≡ true → sound p.places ≡ true) → r ≡ moved_if e h (answer e) (effect e)
    → Steps p (answer (ends_of p)) (applied (is_one h) (effect (ends_of p)) p) (settled_by (effect (ends_of p)).drops (is_one h) r p)
call-whole p h answer effect e r l i n s g = by (is_done a) refl
  where
    a : Answer
    a = answer (ends_of p)

    f : Effect
    f = effect (ends_of p)

    is : r ≡ moved_if (ends_of p) h a f
    is = g ∙ ap (λ (k : Ends). moved_if k h (answer k) (effect k)) i

    by : (b : Bool) → is_done a ≡ b → Steps p a (applied (is_one h) f p) (settled_by f.drops (is_one h) r p)
    by true d =
        subst (Steps p a (applied (is_one h) f p))
        (sym (ap (λ (k : EndsOutcome). settled_by f.drops (is_one h) k p) (is ∙ sym (done (ends_of p) h a a f refl d)) ∙ settled_by_lem (is_one h) f a p l n (s d)))
        (steps-done p _ _ _ _ refl d refl)
    by false d =
        subst (Steps p a (applied (is_one h) f p))
        (sym (ap (λ (k : EndsOutcome). settled_by f.drops (is_one h) k p) (is ∙ sym (refused (ends_of p) h a a f refl d)) ∙ unchanged_by f.drops (is_one h) p a))
        (steps-refused p p _ _ _ refl d refl)

-- ---- each call

module _ (p : Pair) (h : ℕ) (e : Ends) (r : EndsOutcome) (l : length p.places.table ≡ 128) (i : e ≡ ends_of p) where
  pub shutdown-whole : (read write : Bool) → r ≡ moved_if e h (opening_test e h) (shut_effect (own (is_one h) e) (peer (is_one h) e) read write)
      → Steps p (shutdown_answer p h) (shut (is_one h) read write p) (settled_step r p)
  unfolding shutdown_answer shut shut_effect keeping_waits pick
  shutdown-whole read write g =
      call-whole p h (λ k. opening_test k h) (λ k. shut_effect (own (is_one h) k) (peer (is_one h) k) read write) e r l i (omega arith)
      (λ d. (opening_passed (ends_of p) h d).places) g

  pub close-whole : r ≡ moved_if e h (opening_test e h) (close_effect (own (is_one h) e) (peer (is_one h) e))
      → Steps p (close_answer p h) (closed (is_one h) p) (settled_close (is_one h) r p)
  unfolding close_answer closed close_effect pick
  close-whole g =
      call-whole p h (λ k. opening_test k h) (λ k. close_effect (own (is_one h) k) (peer (is_one h) k)) e r l i (omega arith)
      (λ d. (opening_passed (ends_of p) h d).places) g

  pub read_threshold_whole : (n : ℕ) → r ≡ moved_if e h (read_threshold_answer e h n) (read_threshold_effect (own (is_one h) e) (peer (is_one h) e) n)
      → Steps p (read_threshold_answer (ends_of p) h n) (read_threshold_set (is_one h) n p) (settled_step r p)
  unfolding read_threshold_answer read_threshold_set read_threshold_effect keeping_waits pick
  read_threshold_whole n g =
      call-whole p h (λ k. read_threshold_answer k h n) (λ k. read_threshold_effect (own (is_one h) k) (peer (is_one h) k) n) e r l i (omega arith)
      (λ d. (opening_passed (ends_of p) h (then_both _ _ d).0).places) g

  pub write_threshold_whole : (n : ℕ) → r ≡ moved_if e h (write_threshold_answer e h n) (write_threshold_effect e.capacity (own (is_one h) e) (peer (is_one h) e) n)
      → Steps p (write_threshold_answer (ends_of p) h n) (write_threshold_set (is_one h) n p) (settled_step r p)
  unfolding write_threshold_answer write_threshold_set write_threshold_effect keeping_waits pick
  write_threshold_whole n g =
      call-whole p h (λ k. write_threshold_answer k h n) (λ k. write_threshold_effect k.capacity (own (is_one h) k) (peer (is_one h) k) n) e r l i (omega arith)
      (λ d. (opening_passed (ends_of p) h (then_both _ _ d).0).places) g

  pub dispose_whole : (d f : Disposition) → r ≡ moved_if e h (dispose_answer e h d f) (dispose_effect (own (is_one h) e) (peer (is_one h) e) d f)
      → Steps p (dispose_answer (ends_of p) h d f) (disposed (is_one h) d f p) (settled_step r p)
  unfolding dispose_answer disposed dispose_effect keeping_waits pick
  dispose_whole d f g =
      call-whole p h (λ k. dispose_answer k h d f) (λ k. dispose_effect (own (is_one h) k) (peer (is_one h) k) d f) e r l i (omega arith)
      (λ c. (opening_passed (ends_of p) h (then_both _ _ c).0).places) g
