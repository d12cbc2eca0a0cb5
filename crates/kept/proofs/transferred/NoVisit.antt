-- What a write and a read change, put into the pair: the pair of the settled call, where no wait can fire. Assumes nothing.
use Prim.Native.Nat.{ℕ}
use mathlib.Core.Path.{◌≡◌, refl, ◌∙◌}
use mathlib.Core.Bool.{Bool, true, false, not}
use lib.Dec.{eqb}
use Rattle.std.specs.declared.option.Option.TheVariants.{Some}
use Rattle.definition.specs.Status.{Answer, pick, ◌or◌}
use Rattle.endpoint.proofs.answer.Rules.{pick_off, via_not}
use Rattle.endpoint.proofs.answer.Chains.{both}
use Rattle.definition.specs.Signal.{changed_word}
use Rattle.definition.specs.Pair.{with_queue, with_signals, own, peer, is_one, ends_of}
use Rattle.endpoint.specs.declared.ends.Visits.{Visits}
use Rattle.endpoint.specs.declared.ends.Moved.{Moved}
use Rattle.definition.specs.Effect.{if_open, keeping_waits}
use Rattle.endpoint.specs.ends.AtOnce.{own_changed, peer_changed, own_after, peer_after, moved_by}
use Rattle.endpoint.specs.ends.Outcome.{no_visits, keeps_word, can_fire, any_can_fire, outcome_of}
use Rattle.transfer.specs.declared.change.Exchange.{Exchange}
use Rattle.transfer.specs.declared.change.Transfer.{Transfer}
use Rattle.transfer.specs.change.Changes.{transfer_outcome}
use Rattle.transfer.specs.write.WriteChange.{fed_effect, wrote_by, write_visits_none}
use Rattle.transfer.specs.read.ReadChange.{drained_effect, read_by, read_visits_none}
use Rattle.definition.specs.declared.Pair.{Pair}
use Rattle.socket.specs.Deferred.{settled_step}
use Rattle.kept.specs.transferred.Transferred.{transferred_pair, with_moved, wrote_pair, read_pair, write_without_visit, read_without_visit}

pub transferred_wrote : (t : Bool) (x : Exchange) (p : Pair) → transferred_pair t (not t) x p ≡ wrote_pair t x p
unfolding transferred_pair wrote_pair with_moved fed_effect keeping_waits moved_by own_after peer_after own_changed peer_changed with_signals with_queue pick
transferred_wrote true x p = refl
transferred_wrote false x p = refl

transferred_read : (t : Bool) (x : Exchange) (p : Pair) → (peer t (ends_of p)).closed ≡ false → transferred_pair t t x p ≡ read_pair t x p
unfolding transferred_pair read_pair with_moved drained_effect keeping_waits if_open moved_by own_after peer_after own_changed peer_changed with_signals with_queue pick
transferred_read true x p e = rw e refl
transferred_read false x p e = rw e refl

-- ---- no wait can fire

none-fires : (w : ℕ) → can_fire w no_visits ≡ false
unfolding can_fire keeps_word changed_word pick
none-fires w = by (eqb w 0)
  where
    by : (b : Bool) → pick b false (pick true (not true) true) ≡ false
    by true = refl
    by false = refl

none-visited : (w : ℕ) (v : Visits) → can_fire w v ≡ false → any_can_fire w v no_visits ≡ false
unfolding any_can_fire ◌or◌
none-visited w v e = rw e (none-fires w)

-- the pair of a settled call of end t that can fire no wait
settled_no_visit : (w : ℕ) (t : Bool) (a : Answer) (d : Moved) (p : Pair) → can_fire w d.visits ≡ false
    → with_moved t d p ≡ (settled_step (outcome_of w t a d no_visits) p).pair
unfolding settled_step outcome_of with_moved
settled_no_visit w t a d p e = pick_off _ _ _ _ _ (none-visited w d.visits e) refl

pub no_visit-wrote : (h : ℕ) (t : Transfer) (x : Exchange) (p q : Pair) → t.change ≡ Some x → write_without_visit h x p ≡ true → q ≡ wrote_pair (is_one h) x p
    → q ≡ (settled_step (wrote_by (ends_of p) h t) p).pair
unfolding wrote_pair wrote_by transfer_outcome write_without_visit write_visits_none
no_visit-wrote h t x p q s e f =
    rw s
    (f
    ∙ settled_no_visit (ends_of p).waits (is_one h) t.answer (moved_by (is_one h) (fed_effect (own (is_one h) (ends_of p)) (peer (is_one h) (ends_of p)) x)) p
    (via_not refl e))

pub no_visit-read : (h : ℕ) (t : Transfer) (x : Exchange) (p q : Pair) → t.change ≡ Some x → read_without_visit h x p ≡ true
    → q ≡ transferred_pair (is_one h) (is_one h) x p → q ≡ (settled_step (read_by (ends_of p) h t) p).pair
unfolding read_pair read_by transfer_outcome read_without_visit read_visits_none
no_visit-read h t x p q s e f =
    let w = both _ _ e in
    rw s
    (f
    ∙ transferred_read (is_one h) x p (via_not refl w.0)
    ∙ settled_no_visit (ends_of p).waits (is_one h) t.answer (moved_by (is_one h) (drained_effect (own (is_one h) (ends_of p)) (peer (is_one h) (ends_of p)) x)) p
    (via_not refl w.1))
