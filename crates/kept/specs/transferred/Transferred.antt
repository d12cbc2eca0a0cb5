-- How the code goes: what a write and a read change, put into the pair. 01 "Delivered bytes", write, read. The
-- laws of proofs/transferred/NoVisit say that this is the pair of the call, where no wait can fire and, of a read, the peer is open.
use Rattle.std.specs.Prelude.{ℕ, Bool, not, Some}
use Rattle.transfer.specs.declared.change.Exchange.{Exchange}
use Rattle.definition.specs.declared.Pair.{Pair}
use Rattle.endpoint.specs.declared.ends.Moved.{Moved}
use Rattle.definition.specs.Status.{pick}
use Rattle.definition.specs.Signal.{changed_word}
use Rattle.definition.specs.Pair.{with_queue, with_signals, own, peer, ends_of}
use Rattle.socket.specs.Deferred.{with_ends}
use Rattle.transfer.specs.write.WriteChange.{fed_effect, write_visits_none}
use Rattle.transfer.specs.read.ReadChange.{drained_effect, read_visits_none}
use Rattle.endpoint.specs.ends.AtOnce.{moved_by}

-- the pair after a call by end t, whose end 1 takes the queue if so asked, and else end 2
unfoldable pub transferred_pair : (t takes : Bool) → Exchange → Pair → Pair
transferred_pair t takes x p =
    with_ends
    (with_signals (changed_word (pick t x.lost 0) (pick t 0 x.gained) p.one.signals) (with_queue (pick takes x.queue p.one.queue) p.one))
    (with_signals (changed_word (pick t 0 x.lost) (pick t x.gained 0) p.two.signals) (with_queue (pick (not takes) x.queue p.two.queue) p.two))
    p

-- the pair with the ends of end t and its peer
unfoldable pub with_moved : Bool → Moved → Pair → Pair
with_moved t d p = with_ends (pick t d.own d.peer) (pick t d.peer d.own) p

-- after a write, and after a read, by end t
unfoldable pub wrote_pair : Bool → Exchange → Pair → Pair
wrote_pair t x p = with_moved t (moved_by t (fed_effect (own t (ends_of p)) (peer t (ends_of p)) x)) p

unfoldable pub read_pair : Bool → Exchange → Pair → Pair
read_pair t x p = with_moved t (moved_by t (drained_effect (own t (ends_of p)) (peer t (ends_of p)) x)) p

-- whether no wait can fire by a write of the end of handle h that changes this; of a read also whether its peer is open
unfoldable pub write_without_visit : (h : ℕ) → Exchange → Pair → Bool
write_without_visit h x p = write_visits_none (ends_of p) h (Some x)

unfoldable pub read_without_visit : (h : ℕ) → Exchange → Pair → Bool
read_without_visit h x p = read_visits_none (ends_of p) h (Some x)
