-- The outcome of a call by the answer x of its tests g. Assumes nothing.
use Prim.Native.Nat.{ℕ}
use mathlib.Core.Path.{◌≡◌, refl, sym, ap, ◌∙◌}
use mathlib.Core.Bool.{Bool, true, false, not}
use lib.Dec.{eqb}
use Rattle.endpoint.proofs.answer.Steps.{done_is}
use Rattle.definition.specs.Status.{Answer}
use Rattle.definition.specs.Status.{is_done, pick}
use Rattle.definition.specs.declared.Ends.{Ends}
use Rattle.definition.specs.Pair.{is_one}
use Rattle.definition.specs.Effect.{Effect}
use Rattle.endpoint.specs.declared.ends.EndsOutcome.{EndsOutcome}
use Rattle.endpoint.specs.ends.Outcome.{no_visits, outcome_of, unchanged_ends}
use Rattle.endpoint.specs.ends.AtOnce.{moved_by, more_by}
use Rattle.control.specs.ByEffect.{done_outcome, moved_if}

-- ---- a call that is done

module _ (waits : ℕ) (t : Bool) (a : Answer) (e : Effect) where
  -- one that drops no wait
  pub by_kept : e.drops ≡ false → outcome_of waits t a (moved_by t e) (more_by t e) ≡ done_outcome waits t a e
  unfolding done_outcome outcome_of pick
  by_kept k = rw k refl

  -- one that drops waits
  pub by_dropped : (r : EndsOutcome) → e.drops ≡ true → r ≡ outcome_of waits t a (moved_by t e) (more_by t e)
      → record { one = r.one; two = r.two; answer = r.answer; fires = not (eqb waits 0); visits = r.visits; more = r.more } ≡ done_outcome waits t a e
  unfolding done_outcome pick
  by_dropped r k q = rw (q, k) refl

-- ---- a call by its answer

module _ (e : Ends) (h : ℕ) (x g : Answer) (f : Effect) (p : x ≡ g) where
  pub refused : is_done x ≡ false → unchanged_ends e x ≡ moved_if e h g f
  unfolding moved_if pick
  refused d = rw (← p, d)

  pub done : is_done x ≡ true → done_outcome e.waits (is_one h) x f ≡ moved_if e h g f
  unfolding moved_if pick
  done d = rw (← p, d)

-- ---- the same by the answer itself: with `using(control::proofs::ends::Outcomes::outcomes)` the check finds what a call by its answer leaves

module _ (e : Ends) (h : ℕ) (g : Answer) (f : Effect) where
  pub moved_refused : is_done g ≡ false → moved_if e h g f ≡ unchanged_ends e g
  unfolding moved_if pick
  moved_refused d = rw d refl

  pub moved_done : is_done g ≡ true → moved_if e h g f ≡ done_outcome e.waits (is_one h) g f
  unfolding moved_if pick
  moved_done d = rw d refl

  -- the same of a call that drops no wait and has at most two changes
  pub moved_two : is_done g ≡ true → f.drops ≡ false → more_by (is_one h) f ≡ no_visits
      → moved_if e h g f ≡ outcome_of e.waits (is_one h) g (moved_by (is_one h) f) no_visits
  moved_two d k m = moved_done d ∙ sym (by_kept e.waits (is_one h) g f k) ∙ ap (outcome_of e.waits (is_one h) g (moved_by (is_one h) f)) m

pub ruleset outcomes = (moved_refused, moved_done, moved_two, done_is)
