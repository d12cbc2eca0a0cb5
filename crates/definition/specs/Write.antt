-- Write: its size, its answer, its effect and the next pair, the ring, the table, and over user memory. 01 "Delivered bytes", write; 01 "Calls over user memory", write.
use Rattle.std.specs.Prelude.{ℕ, ◌-◌, min, ◌+◌, Bool, List, [], ◌∷◌, ◌≡◌, ltb, eqb, leb, set, length, drop}
use Rattle.std.specs.Int.Bits.{bit_or}
use Rattle.definition.specs.declared.Status.TheVariants.{InvalidArgs, OutOfRange, ShouldWait, BadState, PeerClosed}
use Rattle.definition.specs.declared.Record.TheVariants.{Count}
use Rattle.definition.specs.Status.{Answer}
use Rattle.std.specs.declared.result.Result.TheVariants.{Ok}
use Rattle.definition.specs.declared.Endpoint.{Endpoint}
use Rattle.definition.specs.declared.Ends.{Ends}
use Rattle.definition.specs.declared.Queue.{Queue}
use Rattle.definition.specs.declared.Pair.{Pair}
use Rattle.definition.specs.declared.Step.{Step}
use Rattle.definition.specs.Status.{refuse_if, ◌then◌, pick, count_of, refuse_unless, is_done}
use Rattle.definition.specs.Signal.{WRITE_DISABLED, meets, READABLE, READ_THRESHOLD, reached, bit_if, WRITABLE, WRITE_THRESHOLD, missed}
use Rattle.definition.specs.Pair.{is_one, own, peer, with_queue, ends_of}
use Rattle.definition.specs.Tests.{sound_test, Lent, slices_test, handle_test, lent_of}
use Rattle.definition.specs.Effect.{own_word, peer_word, Effect, keeping_waits, applied}
use Rattle.definition.specs.Ring.{position, put}
use Rattle.definition.specs.Memory.{fits, count_fits, is_null, RIGHT_WRITE, lookup, count_landed}

-- ---- the size

-- a datagram is taken whole or refused
unfoldable pub datagram_size : (C space n : ℕ) → Answer
datagram_size C space n =
    refuse_if (ltb C n) OutOfRange then refuse_if (ltb space n) ShouldWait then refuse_if (eqb n 0) InvalidArgs then Ok (Count n)

-- the size of a write of n bytes by `own` into the queue of `peer`; a stream takes what fits
unfoldable pub write_size : (datagram : Bool) → (C : ℕ) → (own peer : Endpoint) → (n : ℕ) → Answer
write_size datagram C own peer n =
    refuse_if (ltb 4294967295 n) InvalidArgs
    then refuse_if (meets own.signals WRITE_DISABLED) BadState
    then refuse_if peer.closed PeerClosed
    then refuse_if (leb C peer.queue.bytes.count) ShouldWait
    then pick datagram (datagram_size C (C - peer.queue.bytes.count) n) (Ok (Count (min n (C - peer.queue.bytes.count))))

-- ---- the answer

-- the answer; a write is lent the slices of the peer
unfoldable pub write_answer : Ends → Lent → (h n : ℕ) → Answer
write_answer e z h n =
    sound_test e
    then slices_test e.datagram e.capacity h (peer (is_one h) e).queue z
    then handle_test e h
    then write_size e.datagram e.capacity (own (is_one h) e) (peer (is_one h) e) n

-- ---- the effect and the next pair

-- the queue that m bytes went into, on datagram pairs as one more length
unfoldable pub fed_queue : Bool → (m : ℕ) → Queue → Queue
fed_queue datagram m q =
    record {
      bytes = record { start = q.bytes.start; count = q.bytes.count + m };
      lengths = record { start = q.lengths.start; count = pick datagram (q.lengths.count + 1) q.lengths.count };
    }

-- what the peer, as it was before the write, gains as bytes go into its queue, which then holds q
unfoldable pub gained_by_peer : Endpoint → (q : ℕ) → ℕ
gained_by_peer peer q =
    bit_or (bit_if (eqb peer.queue.bytes.count 0) READABLE) (bit_if (reached peer.thresholds.read q) READ_THRESHOLD)

-- what the writer then loses, with so much space left in the peer's queue
unfoldable pub lost_by_writer : Endpoint → (space : ℕ) → ℕ
lost_by_writer own space = bit_or (bit_if (eqb space 0) WRITABLE) (bit_if (missed own.thresholds.write space) WRITE_THRESHOLD)

-- 01 "Delivered bytes", write, if bytes went in: the m bytes, more than 0, are in the peer's queue; the peer, which is
-- open where a write is done, gains, then the writer loses
unfoldable pub write_effect : (datagram : Bool) → (C : ℕ) → (own peer : Endpoint) → (m : ℕ) → Effect
write_effect datagram C own peer m =
    let queued = peer.queue.bytes.count + m in
    keeping_waits own (with_queue (fed_queue datagram m peer.queue) peer)
    (peer_word 0 (gained_by_peer peer queued) ∷ own_word (lost_by_writer own (C - queued)) 0 ∷ [])

-- the pair after m bytes, more than 0, went in from end t
unfoldable pub wrote : Bool → (m : ℕ) → Pair → Pair
wrote t m p = applied t (write_effect p.datagram p.capacity (own t (ends_of p)) (peer t (ends_of p)) m) p

-- the next pair, by the count of the answer: a write that took nothing changes nothing
unfoldable pub pair_written : Pair → (h m : ℕ) → Pair
pair_written p h m = pick (eqb m 0) p (wrote (is_one h) m p)

-- ---- the peer's ring and table

-- a ring that m bytes went into: they stand behind those queued
unfoldable pub ring_fed : (C : ℕ) → Queue → (m : ℕ) → (src ring : List ℕ) → List ℕ
ring_fed C q m src ring = put C (position C q.bytes.start q.bytes.count) m src ring

-- the peer's ring, by the count of the answer
unfoldable pub ring_written : Ends → (h m : ℕ) → (src ring : List ℕ) → List ℕ
ring_written e h m src ring = pick (eqb m 0) ring (ring_fed e.capacity (peer (is_one h) e).queue m src ring)

-- a table that a datagram of m bytes went into: its length stands behind those queued
unfoldable pub table_fed : Bool → (C : ℕ) → Queue → (m : ℕ) → (table : List ℕ) → List ℕ
table_fed datagram C q m table = pick datagram (set table (position C q.lengths.start q.lengths.count) m) table

-- the peer's table, by the count of the answer
unfoldable pub table_written : Ends → (h m : ℕ) → (table : List ℕ) → List ℕ
table_written e h m table = pick (eqb m 0) table (table_fed e.datagram e.capacity (peer (is_one h) e).queue m table)

-- ---- the call

-- A write of src by the end of handle h; ring and table are the peer's.
pub record Writes (p : Pair) (h : ℕ) (src ring ring' table table' : List ℕ) (r : Step) : Type 0 where
  pub answer : r.answer ≡ write_answer (ends_of p) (lent_of p.datagram (peer (is_one h) (ends_of p)).queue ring table) h (length src)
  pub pair : r.pair ≡ pair_written p h (count_of r.answer)
  pub bytes : ring' ≡ ring_written (ends_of p) h (count_of r.answer) src ring
  pub lengths : table' ≡ table_written (ends_of p) h (count_of r.answer) table

-- ---- over user memory

-- 01 "Calls over user memory", write: the answer to the write's size, then the range of the bytes that it would take, then the count's range
unfoldable pub write_ranges : (base size address countAt : ℕ) → (sized : Answer) → Answer
write_ranges base size address countAt a =
    a
    then refuse_unless (fits base size address (count_of a)) InvalidArgs
    then refuse_unless (count_fits base size countAt) InvalidArgs
    then a

-- 01 "Calls over user memory", write: the tests in their order. base and size are those of user memory; n bytes at address are to be written,
-- and the count goes to countAt.
unfoldable pub user_write_answer : Ends → Lent → (h base size options address n countAt : ℕ) → Answer
user_write_answer e z h base size options address n countAt =
    sound_test e
    then slices_test e.datagram e.capacity h (peer (is_one h) e).queue z
    then refuse_unless (eqb options 0) InvalidArgs
    then refuse_if (is_null address n) InvalidArgs
    then lookup e h RIGHT_WRITE
    then write_ranges base size address countAt (write_size e.datagram e.capacity (own (is_one h) e) (peer (is_one h) e) n)

-- 01 "Calls over user memory", write: a write by the end of handle h. ring and table are the peer's. The bytes are taken before the count
-- lands.
pub record UserWrites (p : Pair) (h base options address n countAt : ℕ) (memory memory' ring ring' table table' : List ℕ) (r : Step) : Type 0 where
  pub answer : r.answer ≡ user_write_answer (ends_of p) (lent_of p.datagram (peer (is_one h) (ends_of p)).queue ring table) h base (length memory) options address n countAt
  pub pair : r.pair ≡ pair_written p h (count_of r.answer)
  pub bytes : ring' ≡ ring_written (ends_of p) h (count_of r.answer) (drop (address - base) memory) ring
  pub lengths : table' ≡ table_written (ends_of p) h (count_of r.answer) table
  pub user : memory' ≡ pick (is_done r.answer) (count_landed base countAt (count_of r.answer) memory) memory
