-- How the code goes: a write by what it changes, the queue and the bits of the two words, which are put into the two ends later. What it does is in
-- crates/definition/specs/Write. 01 "Delivered bytes", write.
use Rattle.std.specs.Prelude.{ℕ, ◌+◌, ◌≤◌, ◌<◌, Bool, true, false, not, ◌≡◌, List, [], ◌∷◌, Some, None, eqb, length}
use Rattle.definition.specs.declared.Endpoint.{Endpoint}
use Rattle.definition.specs.declared.Ends.{Ends}
use Rattle.definition.specs.declared.Queue.{Queue}
use Rattle.definition.specs.Effect.{Effect, own_word, peer_word, keeping_waits}
use Rattle.definition.specs.Pair.{own, peer, is_one, with_queue}
use Rattle.definition.specs.Status.{count_of}
use Rattle.definition.specs.Tests.{lent_of}
use Rattle.definition.specs.Write.{write_effect, write_answer, ring_written, table_written}
use Rattle.std.specs.Option.{option_map}
use Rattle.std.specs.declared.option.Option.{Option}
use Rattle.endpoint.specs.declared.ends.EndsOutcome.{EndsOutcome}
use Rattle.endpoint.specs.ends.AtOnce.{moved_by}
use Rattle.endpoint.specs.ends.Outcome.{can_fire}
use Rattle.transfer.specs.declared.change.Exchange.{Exchange}
use Rattle.transfer.specs.declared.change.Transfer.{Transfer}
use Rattle.transfer.specs.change.Changes.{transfer_outcome, Changes}

-- the effect that x stands for: the peer has the queue and gains, then the writer loses
unfoldable pub fed_effect : (own peer : Endpoint) → Exchange → Effect
fed_effect own peer x = keeping_waits own (with_queue x.queue peer) (peer_word 0 x.gained ∷ own_word x.lost 0 ∷ [])

-- the outcome of a write by the end of handle h that gives t
unfoldable pub wrote_by : Ends → (h : ℕ) → Transfer → EndsOutcome
wrote_by e h t = transfer_outcome e h t.answer (option_map (fed_effect (own (is_one h) e) (peer (is_one h) e)) t.change)

-- whether a write by the end of handle h changes something, c, and no wait can fire by it
unfoldable pub write_visits_none : Ends → (h : ℕ) → (c : Option Exchange) → Bool
write_visits_none e h None = false
write_visits_none e h (Some x) = not (can_fire e.waits (moved_by (is_one h) (fed_effect (own (is_one h) e) (peer (is_one h) e) x)).visits)

-- c is what a write of m bytes by end `own` changes
abbrev pub FeedChanges : (datagram : Bool) → (C : ℕ) → (own peer : Endpoint) → (m : ℕ) → (c : Option Exchange) → Type 0
FeedChanges datagram C own peer m c = Changes (eqb m 0) (fed_effect own peer) (write_effect datagram C own peer m) c

-- the same for the end of handle h, by the answer of t
abbrev pub WriteChanges : Ends → (h : ℕ) → Transfer → Type 0
WriteChanges e h t = FeedChanges e.datagram e.capacity (own (is_one h) e) (peer (is_one h) e) (count_of t.answer) t.change

-- what the code that puts m bytes into a queue relies on; an answer above 0 shows it
pub record Feed (datagram : Bool) (C : ℕ) (q : Queue) (m : ℕ) (src ring table : List ℕ) : Type 0 where
  pub small : C ≤ 262144
  pub start : q.bytes.start < C
  pub fits : q.bytes.count + m ≤ C
  pub has : m ≤ length src
  pub long : C ≤ length ring
  pub first : q.lengths.start < C
  pub lengths : datagram ≡ true → q.lengths.count < C
  pub wide : datagram ≡ true → C ≤ length table

-- A write of src by the end of handle h; ring and table are the peer's.
pub record Wrote (e : Ends) (h : ℕ) (src ring ring' table table' : List ℕ) (t : Transfer) : Type 0 where
  pub answer : t.answer ≡ write_answer e (lent_of e.datagram (peer (is_one h) e).queue ring table) h (length src)
  pub changes : WriteChanges e h t
  pub bytes : ring' ≡ ring_written e h (count_of t.answer) src ring
  pub lengths : table' ≡ table_written e h (count_of t.answer) table
