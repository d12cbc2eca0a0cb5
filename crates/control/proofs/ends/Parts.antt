-- The two ends as the code puts them together are those of the call's effect, of a disposition, by each flag and target. Assumes nothing.
use Prim.Native.Nat.{ℕ}
use mathlib.Core.Path.{◌≡◌, refl, ap, ◌∙◌}
use mathlib.Core.Bool.{Bool, true, false, not}
use Rattle.definition.specs.Status.{Answer}
use Rattle.definition.specs.declared.Endpoint.{Endpoint}
use Rattle.definition.specs.declared.Disposition.{Disposition}
use Rattle.definition.specs.declared.Disposition.TheVariants.{Unchanged, Disable, Enable}
use Rattle.definition.specs.Status.{pick}
use Rattle.definition.specs.Signal.{PEER_WRITE_DISABLED, bit_if}
use Rattle.definition.specs.Pair.{with_signals, with_read_disabled}
use Rattle.definition.specs.Effect.{own_word, if_open, own_bit, keeping_waits}
use Rattle.definition.specs.Disposition.{writing, peer_writing, reading, dispose_effect}
use Rattle.endpoint.specs.declared.ends.Pending.{Pending}
use Rattle.endpoint.specs.declared.ends.Moved.{Moved}
use Rattle.endpoint.specs.ends.Outcome.{outcome_of}
use Rattle.endpoint.specs.ends.AtOnce.{own_changed, peer_changed, visit_of, own_after, peer_after, visits_of, first_two, moved_by, more_by}
use Rattle.control.specs.ByEffect.{visit_at, changed_end, moved_last, done_outcome}
use Rattle.control.proofs.ends.Outcomes.{by_kept}

-- the two ends with their visits
abbrev moved : (own peer : Endpoint) → (first second : Pending) → Moved
moved a b v w = record { own = a; peer = b; visits = record { first = v; second = w } }

-- ---- disposition

abbrev writing_at : Bool → Endpoint → (off : Bool) → Pending
writing_at t e off = visit_at t e.signals (writing own_word (pick off Disable Enable))

abbrev peer_writing_at : Bool → Endpoint → (off : Bool) → Pending
peer_writing_at t e off = visit_at t e.signals (own_bit off PEER_WRITE_DISABLED)

pub own_open : (t : Bool) (a b : Endpoint) (off : Bool) → b.closed ≡ false
    → moved (changed_end (writing_at t a off) a) (changed_end (peer_writing_at (not t) b off) (with_read_disabled off b))
    (writing_at t a off) (peer_writing_at (not t) b off)
    ≡ moved_by t (dispose_effect a b (pick off Disable Enable) Unchanged)
unfolding visit_at changed_end dispose_effect writing peer_writing reading keeping_waits if_open own_bit moved_by own_after peer_after own_changed peer_changed visits_of visit_of first_two with_read_disabled with_signals bit_if pick
own_open t a b true e = rw e refl
own_open t a b false e = rw e refl

pub peer_open : (t : Bool) (a b : Endpoint) (off : Bool) → b.closed ≡ false
    → moved (changed_end (peer_writing_at t a off) (with_read_disabled off a)) (changed_end (writing_at (not t) b off) b)
    (writing_at (not t) b off) (peer_writing_at t a off)
    ≡ moved_last t (dispose_effect a b Unchanged (pick off Disable Enable))
unfolding visit_at changed_end dispose_effect writing peer_writing reading keeping_waits if_open own_bit moved_last moved_by more_by own_after peer_after own_changed peer_changed visits_of visit_of first_two with_read_disabled with_signals bit_if pick
peer_open t a b true e = rw e refl
peer_open t a b false e = rw e refl

-- the peer's part, over the ends that the own part left
abbrev after_own : Bool → (own peer : Endpoint) → (disposition peerDisposition : Disposition) → Moved
after_own t a b d f =
    let m : Moved = moved_by t (dispose_effect a b d Unchanged) in
    moved_last t (dispose_effect m.own m.peer Unchanged f)

-- the own part, then the peer's part
disposing : (t c : Bool) (a b : Endpoint) (d f : Disposition) → b.closed ≡ c
    → (record { own = (after_own t a b d f).own; peer = (after_own t a b d f).peer; visits = (moved_by t (dispose_effect a b d Unchanged)).visits } ≡ moved_by t (dispose_effect a b d f))
    × ((after_own t a b d f).visits ≡ more_by t (dispose_effect a b d f))
unfolding dispose_effect writing peer_writing reading keeping_waits if_open moved_last moved_by more_by own_after peer_after own_changed peer_changed visits_of visit_of first_two with_read_disabled with_signals pick
disposing t true a b Unchanged Unchanged e = rw e (refl, refl)
disposing t true a b Unchanged Disable e = rw e (refl, refl)
disposing t true a b Unchanged Enable e = rw e (refl, refl)
disposing t true a b Disable Unchanged e = rw e (refl, refl)
disposing t true a b Disable Disable e = rw e (refl, refl)
disposing t true a b Disable Enable e = rw e (refl, refl)
disposing t true a b Enable Unchanged e = rw e (refl, refl)
disposing t true a b Enable Disable e = rw e (refl, refl)
disposing t true a b Enable Enable e = rw e (refl, refl)
disposing t false a b Unchanged Unchanged e = rw e (refl, refl)
disposing t false a b Unchanged Disable e = rw e (refl, refl)
disposing t false a b Unchanged Enable e = rw e (refl, refl)
disposing t false a b Disable Unchanged e = rw e (refl, refl)
disposing t false a b Disable Disable e = rw e (refl, refl)
disposing t false a b Disable Enable e = rw e (refl, refl)
disposing t false a b Enable Unchanged e = rw e (refl, refl)
disposing t false a b Enable Disable e = rw e (refl, refl)
disposing t false a b Enable Enable e = rw e (refl, refl)

pub disposed_by : (waits : ℕ) (t : Bool) (x : Answer) (a b : Endpoint) (d f : Disposition)
    → outcome_of waits t x (record { own = (after_own t a b d f).own; peer = (after_own t a b d f).peer; visits = (moved_by t (dispose_effect a b d Unchanged)).visits }) (after_own t a b d f).visits
    ≡ done_outcome waits t x (dispose_effect a b d f)
unfolding dispose_effect keeping_waits
disposed_by waits t x a b d f =
    let k = disposing t b.closed a b d f refl in
    ap (λ (m : Moved). outcome_of waits t x m (after_own t a b d f).visits) k.0
    ∙ ap (outcome_of waits t x (moved_by t (dispose_effect a b d f))) k.1
    ∙ by_kept waits t x (dispose_effect a b d f) refl
