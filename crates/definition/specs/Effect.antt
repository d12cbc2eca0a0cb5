-- What a call does to a pair, as data, and the pair after it. 01 "Signal word and packets", "Delivered bytes".
use Rattle.std.specs.Prelude.{ℕ, Bool, false, not, List, [], ◌∷◌}
use Rattle.definition.specs.declared.Change.{Change}
use Rattle.definition.specs.declared.Endpoint.{Endpoint}
use Rattle.definition.specs.declared.Pair.{Pair}
use Rattle.definition.specs.Pair.{with_signals, own, with_end, with_places, ends_of}
use Rattle.definition.specs.Port.{change_of, dropped_of}
use Rattle.definition.specs.Signal.{bit_if}
use Rattle.definition.specs.Status.{pick}

-- ---- one change of a word

-- 01 "Signal word and packets": a change has bits to clear and bits to set. It is one of the caller's word or of its peer's word, or there is none.
pub data WordChange : Type 0 where
  no_change : WordChange
  own_word : (clear set : ℕ) → WordChange
  peer_word : (clear set : ℕ) → WordChange

-- 01 "Delivered bytes": a change of the peer's word, or one that goes with it, where the peer is open
unfoldable pub if_open : (peer : Endpoint) → WordChange → WordChange
if_open peer c = pick peer.closed no_change c

-- one bit of the caller's word, set if the test holds, else cleared
unfoldable pub own_bit : (on : Bool) → (bit : ℕ) → WordChange
own_bit on bit = own_word (bit_if (not on) bit) (bit_if on bit)

-- ---- an effect

-- What a call does. The caller's end and its peer have all that the call puts there but their words, which are as they were; `drops` tells whether
-- the waits of the caller's end are dropped; the changes of words follow in their order.
pub record Effect : Type 0 where
  pub own : Endpoint
  pub peer : Endpoint
  pub drops : Bool
  pub changes : List WordChange

-- of the calls that have an effect only close drops waits
unfoldable pub keeping_waits : (own peer : Endpoint) → List WordChange → Effect
keeping_waits own peer cs = record { own = own; peer = peer; drops = false; changes = cs }

-- ---- the pair after it

-- the pair with a changed word of one end, and with the places that the change left
unfoldable pub with_change : Bool → Change → Pair → Pair
with_change t c p = with_places c.places (with_end t (with_signals c.word (own t (ends_of p))) p)

-- 01 "Signal word and packets": one change of an end's word clears, then sets; the waits that meet the new word fire. Every call changes a word
-- by this alone.
unfoldable pub signal_change : Bool → (clear set : ℕ) → Pair → Pair
signal_change t clear set p = with_change t (change_of t (own t (ends_of p)).signals clear set p.places) p

-- one change of a call by end t
unfoldable pub changed : Bool → WordChange → Pair → Pair
changed t no_change p = p
changed t (own_word clear set) p = signal_change t clear set p
changed t (peer_word clear set) p = signal_change (not t) clear set p

-- each change as it happens
unfoldable pub changed_by_all : Bool → List WordChange → Pair → Pair
changed_by_all t [] p = p
changed_by_all t (c ∷ cs) p = changed_by_all t cs (changed t c p)

-- the pair before any word is changed: the two ends, and where the waits are dropped, without those of end t
unfoldable pub prepared : Bool → Effect → Pair → Pair
prepared t e p = with_places (pick e.drops (dropped_of t p.places) p.places) (with_end t e.own (with_end (not t) e.peer p))

-- the pair after a call by end t with this effect: the two ends, then each change as it happens
unfoldable pub applied : Bool → Effect → Pair → Pair
applied t e p = changed_by_all t e.changes (prepared t e p)
