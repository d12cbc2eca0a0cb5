-- How the code goes: a read by what it changes, the queue and the bits of the two words, which are put into the two ends later. What it does is in
-- crates/definition/specs/Read. 01 "Delivered bytes", read.
use Rattle.std.specs.Prelude.{ℕ, ◌≤◌, ◌<◌, Bool, true, false, not, ◌≡◌, List, [], ◌∷◌, Some, None, eqb, length}
use Rattle.definition.specs.declared.Endpoint.{Endpoint}
use Rattle.definition.specs.declared.Ends.{Ends}
use Rattle.definition.specs.declared.Queue.{Queue}
use Rattle.definition.specs.Effect.{Effect, own_word, peer_word, if_open, keeping_waits}
use Rattle.definition.specs.Pair.{own, peer, is_one, with_queue}
use Rattle.definition.specs.Read.{read_effect, leaving, read_answer, buffer_read}
use Rattle.definition.specs.Status.{◌and◌, ◌or◌, count_of}
use Rattle.definition.specs.Tests.{first_length, lent_of}
use Rattle.std.specs.Option.{option_map}
use Rattle.std.specs.declared.option.Option.{Option}
use Rattle.endpoint.specs.declared.ends.EndsOutcome.{EndsOutcome}
use Rattle.endpoint.specs.ends.AtOnce.{moved_by}
use Rattle.endpoint.specs.ends.Outcome.{can_fire}
use Rattle.transfer.specs.declared.change.Exchange.{Exchange}
use Rattle.transfer.specs.declared.change.Transfer.{Transfer}
use Rattle.transfer.specs.change.Changes.{transfer_outcome, Changes}

-- the effect that x stands for: the reader has the queue and loses, then an open peer gains
unfoldable pub drained_effect : (own peer : Endpoint) → Exchange → Effect
drained_effect own peer x = keeping_waits (with_queue x.queue own) peer (own_word x.lost 0 ∷ if_open peer (peer_word 0 x.gained) ∷ [])

-- the outcome of a read by the end of handle h that gives t
unfoldable pub read_by : Ends → (h : ℕ) → Transfer → EndsOutcome
read_by e h t = transfer_outcome e h t.answer (option_map (drained_effect (own (is_one h) e) (peer (is_one h) e)) t.change)

-- whether a read by the end of handle h changes something, c, its peer is open, and no wait can fire by it
unfoldable pub read_visits_none : Ends → (h : ℕ) → (c : Option Exchange) → Bool
read_visits_none e h None = false
read_visits_none e h (Some x) =
    not (peer (is_one h) e).closed
    and not (can_fire e.waits (moved_by (is_one h) (drained_effect (own (is_one h) e) (peer (is_one h) e) x)).visits)

-- c is what a read or peek by end `own` that delivered k bytes changes; first is the first queued length
abbrev pub DrainChanges : (datagram : Bool) → (C : ℕ) → (own peer : Endpoint) → (peek : Bool) → (first k : ℕ) → (c : Option Exchange) → Type 0
DrainChanges datagram C own peer peek first k c =
    Changes (peek or eqb k 0) (drained_effect own peer) (read_effect datagram C own peer (leaving datagram first k)) c

-- the same for the end of handle h, by the answer of t; table is its own
abbrev pub ReadChanges : Ends → (h : ℕ) → (peek : Bool) → (table : List ℕ) → Transfer → Type 0
ReadChanges e h peek table t =
    DrainChanges e.datagram e.capacity (own (is_one h) e) (peer (is_one h) e) peek (first_length e.datagram (own (is_one h) e).queue table)
    (count_of t.answer) t.change

-- what the code that takes n bytes out of a queue relies on; an answer above 0 shows it
pub record Drain (datagram : Bool) (C n : ℕ) (q : Queue) : Type 0 where
  pub small : C ≤ 262144
  pub start : q.bytes.start < C
  pub queued : q.bytes.count ≤ C
  pub within : n ≤ q.bytes.count
  pub first : q.lengths.start < C
  pub lengths : datagram ≡ true → 0 < q.lengths.count

-- what the code that delivers k bytes to the end of handle h relies on, with a ring and a buffer of these lengths
pub record Deliver (e : Ends) (h first k ring buffer : ℕ) : Type 0 where
  pub drain : Drain e.datagram e.capacity (leaving e.datagram first k) (own (is_one h) e).queue
  pub most : k ≤ e.capacity
  pub long : e.capacity ≤ ring
  pub fits : k ≤ buffer

-- A read or a peek by the end of handle h; ring and table are its own and stay as they are.
pub record Read (e : Ends) (h : ℕ) (peek : Bool) (ring table buffer buffer' : List ℕ) (t : Transfer) : Type 0 where
  pub answer : t.answer ≡ read_answer e (lent_of e.datagram (own (is_one h) e).queue ring table) h (length buffer)
  pub changes : ReadChanges e h peek table t
  pub bytes : buffer' ≡ buffer_read e h (count_of t.answer) ring buffer
