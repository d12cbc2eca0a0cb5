-- A call whose outcome was stored and whose waits were visited keeps what it promises of the step. Assumes nothing.
use Prim.Native.Nat.{ℕ}
use mathlib.Core.Path.{◌≡◌, subst}
use lib.IntN.{ℤ}
use Rattle.definition.specs.Status.{answer_word}
use Rattle.definition.specs.Pair.{is_one}
use Rattle.definition.specs.declared.Pair.{Pair}
use Rattle.definition.specs.declared.Step.{Step}
use Rattle.definition_runs.specs.Exported.{Answered}
use Rattle.endpoint.specs.declared.ends.EndsOutcome.{EndsOutcome}
use Rattle.socket.specs.Deferred.{settled_step, settled_close}
use Rattle.kept.proofs.pair.Stored.{settled_as, closed_as}

module _ (promise : Step → Type 0) (r : EndsOutcome) (p p' : Pair) (w : ℤ) (v : w ≡ answer_word r.answer) where
  pub settled : p' ≡ (settled_step r p).pair → promise (settled_step r p) → Answered promise p' w
  settled e k = record { answer = r.answer; word = v; kept = subst promise (settled_as r p p' e) k }

  -- a close by the end of handle h
  pub settled_by_close : (h : ℕ) → p' ≡ (settled_close (is_one h) r p).pair → promise (settled_close (is_one h) r p) → Answered promise p' w
  settled_by_close h e k = record { answer = r.answer; word = v; kept = subst promise (closed_as h r p p' e) k }
