-- A disposition and a shutdown by their numbers are their effects once the waits are visited. Assumes nothing.
use Prim.Native.Nat.{ℕ}
use mathlib.Core.Path.{◌≡◌}
use native.Mathlib.Omega.{arith}
use lib.ListN.{length}
use Rattle.definition.specs.declared.Ends.{Ends}
use Rattle.definition.specs.declared.Pair.{Pair}
use Rattle.definition.specs.Status.{pick}
use Rattle.definition.specs.Pair.{is_one, own, peer, ends_of}
use Rattle.definition.specs.Tests.{Steps}
use Rattle.definition.specs.Effect.{keeping_waits}
use Rattle.definition.specs.Disposition.{dispose_effect, disposed, disposition_of, user_dispose_answer}
use Rattle.definition.specs.Shutdown.{shut_effect, shut, shuts_read, shuts_write, user_shutdown_answer}
use Rattle.endpoint.specs.declared.ends.EndsOutcome.{EndsOutcome}
use Rattle.endpoint.proofs.answer.Chains.{then_both}
use Rattle.answers.proofs.tests.Sound.{sound-passed}
use Rattle.control.specs.ByEffect.{moved_if}
use Rattle.socket.specs.Deferred.{settled_step}
use Rattle.socket.proofs.Controlled.{call-whole}

module _ (p : Pair) (h : ℕ) (e : Ends) (r : EndsOutcome) (l : length p.places.table ≡ 128) (i : e ≡ ends_of p) where
  pub dispose_whole : (a b : ℕ)
      → r ≡ moved_if e h (user_dispose_answer e h a b) (dispose_effect (own (is_one h) e) (peer (is_one h) e) (disposition_of a) (disposition_of b))
      → Steps p (user_dispose_answer (ends_of p) h a b) (disposed (is_one h) (disposition_of a) (disposition_of b) p) (settled_step r p)
  unfolding user_dispose_answer disposed dispose_effect keeping_waits pick
  dispose_whole a b g =
      call-whole p h (λ k. user_dispose_answer k h a b) (λ k. dispose_effect (own (is_one h) k) (peer (is_one h) k) (disposition_of a) (disposition_of b)) e r l i (omega arith)
      (λ d. (sound-passed (ends_of p) (then_both _ _ d).0).places) g

  pub shutdown-whole : (options : ℕ)
      → r ≡ moved_if e h (user_shutdown_answer e h) (shut_effect (own (is_one h) e) (peer (is_one h) e) (shuts_read options) (shuts_write options))
      → Steps p (user_shutdown_answer (ends_of p) h) (shut (is_one h) (shuts_read options) (shuts_write options) p) (settled_step r p)
  unfolding user_shutdown_answer shut shut_effect keeping_waits pick
  shutdown-whole options g =
      call-whole p h (λ k. user_shutdown_answer k h) (λ k. shut_effect (own (is_one h) k) (peer (is_one h) k) (shuts_read options) (shuts_write options)) e r l i (omega arith)
      (λ d. (sound-passed (ends_of p) (then_both _ _ d).0).places) g
