-- Read and peek: their size, their answer, their effect and the next pair, the buffer, and over user memory. 01 "Delivered bytes", read; 01 "Calls over user memory", read.
use Rattle.std.specs.Prelude.{ℕ, min, ◌-◌, Bool, List, [], ◌∷◌, ◌≡◌, eqb, length}
use Rattle.std.specs.Int.Bits.{bit_or}
use Rattle.std.proofs.Math.Seq.{paste}
use Rattle.definition.specs.declared.Status.TheVariants.{BadState, ShouldWait, PeerClosed, InvalidArgs}
use Rattle.definition.specs.Status.{Answer}
use Rattle.std.specs.declared.result.Result.TheVariants.{Err, Ok}
use Rattle.definition.specs.declared.Endpoint.{Endpoint}
use Rattle.definition.specs.declared.Record.TheVariants.{Count}
use Rattle.definition.specs.declared.Ends.{Ends}
use Rattle.definition.specs.declared.Queue.{Queue}
use Rattle.definition.specs.declared.Pair.{Pair}
use Rattle.definition.specs.declared.Step.{Step}
use Rattle.definition.specs.Status.{refuse_if, ◌then◌, pick, ◌or◌, count_of, refuse_unless, is_done}
use Rattle.definition.specs.Pair.{is_one, own, peer, with_queue, ends_of}
use Rattle.definition.specs.Tests.{sound_test, Lent, slices_test, handle_test, first_length, lent_of}
use Rattle.definition.specs.Ring.{position, front}
use Rattle.definition.specs.Signal.{READABLE, READ_THRESHOLD, missed, bit_if, WRITABLE, WRITE_THRESHOLD, reached}
use Rattle.definition.specs.Effect.{own_word, peer_word, if_open, Effect, keeping_waits, applied}
use Rattle.definition.specs.Memory.{fits, count_fits, is_null, RIGHT_READ, lookup, count_landed}

-- ---- the size

-- a read of an empty queue is refused: the peer is closed, or reading is disabled, or there is nothing yet
unfoldable pub empty_answer : (own peer : Endpoint) → Answer
empty_answer own peer = refuse_if peer.closed PeerClosed then refuse_if own.read_disabled BadState then Err ShouldWait

-- what one read can deliver: all that is queued, on datagram pairs the first datagram only
unfoldable pub available_in : (datagram : Bool) → (own : Endpoint) → (first : ℕ) → ℕ
available_in datagram own first = pick datagram first own.queue.bytes.count

-- the size of a read into n bytes
unfoldable pub read_size : (datagram : Bool) → (own peer : Endpoint) → (first n : ℕ) → Answer
read_size datagram own peer first n =
    pick (eqb own.queue.bytes.count 0) (empty_answer own peer)
    (Ok (Count (min n (available_in datagram own first))))

-- ---- the answer

-- the answer; a read is lent the slices of its own end
unfoldable pub read_answer : Ends → Lent → (h n : ℕ) → Answer
read_answer e z h n =
    sound_test e
    then slices_test e.datagram e.capacity h (own (is_one h) e).queue z
    then handle_test e h
    then read_size e.datagram (own (is_one h) e) (peer (is_one h) e) z.first n

-- ---- the effect and the next pair

-- the bytes that leave the queue where k are delivered: on datagram pairs the whole first datagram, its tail with it
unfoldable pub leaving : Bool → (first k : ℕ) → ℕ
leaving datagram first k = pick datagram first k

-- the queue after n bytes left it, on datagram pairs with their length
unfoldable pub drained_queue : Bool → (C n : ℕ) → Queue → Queue
drained_queue datagram C n q =
    record {
      bytes = record { start = position C q.bytes.start n; count = q.bytes.count - n };
      lengths =
          record {
            start = pick datagram (position C q.lengths.start 1) q.lengths.start;
            count = pick datagram (q.lengths.count - 1) q.lengths.count;
          };
    }

-- what the reader loses as bytes leave its queue, which then holds q
unfoldable pub lost_by_reader : Endpoint → (q : ℕ) → ℕ
lost_by_reader own q = bit_or (bit_if (missed own.thresholds.read q) READ_THRESHOLD) (bit_if (eqb q 0) READABLE)

-- what an open peer then gains, with so much space in the queue that it writes to, which was full or not
unfoldable pub gained_by_writer : Endpoint → (space : ℕ) → (wasFull : Bool) → ℕ
gained_by_writer peer space wasFull =
    bit_or (bit_if (reached peer.thresholds.write space) WRITE_THRESHOLD) (bit_if wasFull WRITABLE)

-- 01 "Delivered bytes", read, after consuming: the n bytes, more than 0, are gone from the reader's queue; the reader loses, then an open peer gains
unfoldable pub read_effect : (datagram : Bool) → (C : ℕ) → (own peer : Endpoint) → (n : ℕ) → Effect
read_effect datagram C own peer n =
    let queued = own.queue.bytes.count - n in
    keeping_waits (with_queue (drained_queue datagram C n own.queue) own) peer
    (own_word (lost_by_reader own queued) 0
    ∷ if_open peer (peer_word 0 (gained_by_writer peer (C - queued) (eqb own.queue.bytes.count C)))
    ∷ [])

-- the pair after n bytes, more than 0, left the queue of end t
unfoldable pub consumed : Bool → (n : ℕ) → Pair → Pair
consumed t n p = applied t (read_effect p.datagram p.capacity (own t (ends_of p)) (peer t (ends_of p)) n) p

-- the next pair, by the count of the answer: a peek, or a read that delivered nothing, changes nothing
unfoldable pub pair_read : Pair → (h : ℕ) → (peek : Bool) → (first k : ℕ) → Pair
pair_read p h peek first k = pick (peek or eqb k 0) p (consumed (is_one h) (leaving p.datagram first k) p)

-- ---- the buffer

-- the buffer, by the count of the answer: the front bytes of the queue land at its start
unfoldable pub buffer_read : Ends → (h k : ℕ) → (ring buffer : List ℕ) → List ℕ
buffer_read e h k ring buffer =
    pick (eqb k 0) buffer (paste buffer 0 (front e.capacity (own (is_one h) e).queue.bytes.start k ring) k)

-- ---- the call

-- A read or a peek by the end of handle h into a buffer; ring and table are its own and stay as they are.
pub record Reads (p : Pair) (h : ℕ) (peek : Bool) (ring table buffer buffer' : List ℕ) (r : Step) : Type 0 where
  pub answer : r.answer ≡ read_answer (ends_of p) (lent_of p.datagram (own (is_one h) (ends_of p)).queue ring table) h (length buffer)
  pub pair : r.pair ≡ pair_read p h peek (first_length p.datagram (own (is_one h) (ends_of p)).queue table) (count_of r.answer)
  pub bytes : buffer' ≡ buffer_read (ends_of p) h (count_of r.answer) ring buffer

-- ---- over user memory

-- 01 "Calls over user memory", read: option 8 is a peek
abbrev pub is_peek : (options : ℕ) → Bool
is_peek options = eqb options 8

-- 01 "Calls over user memory", read: the tests in their order. The range of the full count is tested, also where less is queued
unfoldable pub user_read_answer : Ends → Lent → (h base size options address n countAt : ℕ) → Answer
user_read_answer e z h base size options address n countAt =
    sound_test e
    then slices_test e.datagram e.capacity h (own (is_one h) e).queue z
    then refuse_if (is_null address n) InvalidArgs
    then refuse_unless (eqb options 0 or is_peek options) InvalidArgs
    then lookup e h RIGHT_READ
    then refuse_unless (fits base size address n) InvalidArgs
    then refuse_unless (count_fits base size countAt) InvalidArgs
    then read_size e.datagram (own (is_one h) e) (peer (is_one h) e) z.first n

-- 01 "Calls over user memory", read: memory once the k delivered bytes have landed, before the count does
unfoldable pub bytes_landed : Pair → (h base address k : ℕ) → (ring memory : List ℕ) → List ℕ
bytes_landed p h base address k ring memory =
    pick (eqb k 0) memory (paste memory (address - base) (front p.capacity (own (is_one h) (ends_of p)).queue.bytes.start k ring) k)

-- 01 "Calls over user memory", read: a read or peek, but for its count. ring and table are the reader's and stay as they are. The
-- law `count-after` of crates/syscall/proofs/Calls: with the count after it, this is `UserReads`.
pub record BytesRead (p : Pair) (h base options address n countAt : ℕ) (ring table memory memory' : List ℕ) (r : Step) : Type 0 where
  pub answer : r.answer ≡ user_read_answer (ends_of p) (lent_of p.datagram (own (is_one h) (ends_of p)).queue ring table) h base (length memory) options address n countAt
  pub pair : r.pair ≡ pair_read p h (is_peek options) (first_length p.datagram (own (is_one h) (ends_of p)).queue table) (count_of r.answer)
  pub user : memory' ≡ bytes_landed p h base address (count_of r.answer) ring memory

-- 01 "Calls over user memory", read: a read or peek. The bytes land first, the count over them.
pub record UserReads (p : Pair) (h base options address n countAt : ℕ) (ring table memory memory' : List ℕ) (r : Step) : Type 0 where
  pub answer : r.answer ≡ user_read_answer (ends_of p) (lent_of p.datagram (own (is_one h) (ends_of p)).queue ring table) h base (length memory) options address n countAt
  pub pair : r.pair ≡ pair_read p h (is_peek options) (first_length p.datagram (own (is_one h) (ends_of p)).queue table) (count_of r.answer)
  pub user :
      memory'
      ≡ pick (is_done r.answer) (count_landed base countAt (count_of r.answer) (bytes_landed p h base address (count_of r.answer) ring memory)) memory
