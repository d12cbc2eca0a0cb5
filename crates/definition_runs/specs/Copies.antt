-- The copies between a ring and memory work on two parts and take no remainder at a byte. They are the copies with the remainder at every byte: byte
-- k of a queue stands at (start + k) modulo C, and one step on is one more, and 0 at C. 02 (ii).
use Rattle.std.specs.Prelude.{ℕ, ◌+◌, ◌-◌, ◌%◌, ◌≤◌, ◌<◌, Bool, true, List, [], ◌∷◌, ◌≡◌, length, get_or, drop}
use Rattle.std.proofs.Math.Seq.{paste}
use Rattle.std.specs.declared.result.Result.TheVariants.{Ok}
use Rattle.definition.specs.declared.Record.TheVariants.{Count}
use Rattle.definition.specs.declared.Pair.{Pair}
use Rattle.definition.specs.declared.Queue.{Queue}
use Rattle.definition.specs.declared.Span.{Span}
use Rattle.definition.specs.declared.Step.{Step}
use Rattle.definition.specs.Memory.{count_landed}
use Rattle.definition.specs.Pair.{is_one, own, peer, ends_of}
use Rattle.definition.specs.Read.{Reads, UserReads}
use Rattle.definition.specs.Ring.{position, front, put, front_modulo, put_modulo, next_position}
use Rattle.definition.specs.Write.{Writes, UserWrites}
use Rattle.definition.specs.cases.Promises.{ring_abc, ring_both, table_abc, table_both, counted}
use Rattle.definition.specs.cases.Scripts.{letters}
use Rattle.ring.specs.copy.Copies.{copied_in, copied_out}

-- ---- of every start below C, every length up to C and every ring of at least C entries, bytes or lengths

pub record RingCopies : Type 0 where
  -- a place is a running value: the start, then one more at each step, and 0 at C
  pub first : (C s : ℕ) → s < C → position C s 0 ≡ s
  pub next : (C s k : ℕ) → s < C → k < C → position C s (k + 1) ≡ next_position C (position C s k)
  -- which is the remainder of the sum
  pub place : (C s k : ℕ) → s < C → k ≤ C → position C s k ≡ (s + k) % C
  -- what stands in a ring from a place on, and a ring that entries were put into: in two parts as with the remainder at every entry
  pub out : (C s n : ℕ) (ring : List ℕ) → s < C → n ≤ C → C ≤ length ring → front C s n ring ≡ front_modulo C s n ring
  pub into : (C at n : ℕ) (xs ring : List ℕ) → at < C → n ≤ C → C ≤ length ring → n ≤ length xs → put C at n xs ring ≡ put_modulo C at n xs ring
  -- what the functions of crates/ring ensure, `copied_out` of `copy_out` and `copied_in` of `copy_in`, is so wherever it fits
  pub copy_out : (C s n : ℕ) (ring dst : List ℕ) → s < C → n ≤ C → C ≤ length ring → n ≤ length dst
      → copied_out C s n ring dst ≡ paste dst 0 (front_modulo C s n ring) n
  pub copy_in : (C at n : ℕ) (xs ring : List ℕ) → at < C → n ≤ C → C ≤ length ring → n ≤ length xs → copied_in C at n xs ring ≡ put_modulo C at n xs ring

-- what `front_modulo` and `put_modulo` give, entry by entry
pub record EveryEntry : Type 0 where
  -- entry k of those copied out stands at (s + k) modulo C, and there are n
  pub out : (C s n k : ℕ) (ring : List ℕ) → k < n → get_or (front_modulo C s n ring) k 0 ≡ get_or ring ((s + k) % C) 0
  pub count : (C s n : ℕ) (ring : List ℕ) → length (front_modulo C s n ring) ≡ n
  -- entry k of those put in goes to (at + k) modulo C
  pub into : (C at n k : ℕ) (xs ring : List ℕ) → at < C → n ≤ C → C ≤ length ring → n ≤ length xs → k < n
      → get_or (put_modulo C at n xs ring) ((at + k) % C) 0 ≡ get_or xs k 0
  -- the other entries of the ring stay, and so do those from C on
  pub others : (C at n k : ℕ) (xs ring : List ℕ) → at < C → n ≤ C → C ≤ length ring → n ≤ length xs → n ≤ k → k < C
      → get_or (put_modulo C at n xs ring) ((at + k) % C) 0 ≡ get_or ring ((at + k) % C) 0
  pub past : (C at n i : ℕ) (xs ring : List ℕ) → at < C → n ≤ C → C ≤ length ring → n ≤ length xs → C ≤ i
      → get_or (put_modulo C at n xs ring) i 0 ≡ get_or ring i 0
  pub size : (C at n : ℕ) (xs ring : List ℕ) → length (put_modulo C at n xs ring) ≡ length ring

-- ---- of every pair and every call that is done

-- the queue that the end of handle h reads from, and the one that it writes to
abbrev pub own_queue : Pair → (h : ℕ) → Queue
own_queue p h = (own (is_one h) (ends_of p)).queue

abbrev pub peer_queue : Pair → (h : ℕ) → Queue
peer_queue p h = (peer (is_one h) (ends_of p)).queue

-- where the entry behind those queued goes, before it is taken modulo C
abbrev pub behind_queued : Span → ℕ
behind_queued s = s.start + s.count

pub record CallCopies : Type 0 where
  -- a write of m bytes: byte k of them goes to (start + queued + k) modulo C of the peer's ring, and every other entry stays
  pub write : (p : Pair) (h m : ℕ) (src ring ring' table table' : List ℕ) (r : Step)
      → Writes p h src ring ring' table table' r → r.answer ≡ Ok (Count m)
      → ring' ≡ put_modulo p.capacity (behind_queued (peer_queue p h).bytes) m src ring
  -- on datagram pairs its length goes behind those in the peer's table likewise
  pub lengths : (p : Pair) (h m : ℕ) (src ring ring' table table' : List ℕ) (r : Step)
      → Writes p h src ring ring' table table' r → r.answer ≡ Ok (Count m) → p.datagram ≡ true
      → table' ≡ put_modulo p.capacity (behind_queued (peer_queue p h).lengths) 1 (m ∷ []) table
  -- a read or peek of m bytes: byte k of them is the one at (start + k) modulo C of its ring, and lands at byte k of the buffer
  pub read : (p : Pair) (h m : ℕ) (peek : Bool) (ring table buffer buffer' : List ℕ) (r : Step)
      → Reads p h peek ring table buffer buffer' r → r.answer ≡ Ok (Count m)
      → buffer' ≡ paste buffer 0 (front_modulo p.capacity (own_queue p h).bytes.start m ring) m
  -- the same over user memory, where the bytes begin at the address. A read's bytes land first, the count over them
  pub user_write : (p : Pair) (h base options address n countAt m : ℕ) (memory memory' ring ring' table table' : List ℕ) (r : Step)
      → UserWrites p h base options address n countAt memory memory' ring ring' table table' r → r.answer ≡ Ok (Count m)
      → ring' ≡ put_modulo p.capacity (behind_queued (peer_queue p h).bytes) m (drop (address - base) memory) ring
  pub user_lengths : (p : Pair) (h base options address n countAt m : ℕ) (memory memory' ring ring' table table' : List ℕ) (r : Step)
      → UserWrites p h base options address n countAt memory memory' ring ring' table table' r → r.answer ≡ Ok (Count m) → p.datagram ≡ true
      → table' ≡ put_modulo p.capacity (behind_queued (peer_queue p h).lengths) 1 (m ∷ []) table
  pub user_read : (p : Pair) (h base options address n countAt m : ℕ) (ring table memory memory' : List ℕ) (r : Step)
      → UserReads p h base options address n countAt ring table memory memory' r → r.answer ≡ Ok (Count m)
      → memory' ≡ count_landed base countAt m (paste memory (address - base) (front_modulo p.capacity (own_queue p h).bytes.start m ring) m)

-- ---- examples, through `CallCopies`: on the state of cases/Promises, `abc` queued from place 7 of 8 on, a write of `cde` and reads

pub record CopyExamples : Type 0 where
  pub write : ring_both ≡ put_modulo 8 10 3 (99 ∷ 100 ∷ 101 ∷ []) ring_abc
  pub lengths : table_both ≡ put_modulo 8 8 1 (3 ∷ []) table_abc
  pub read : 97 ∷ 98 ∷ [] ≡ paste (0 ∷ 0 ∷ []) 0 (front_modulo 8 7 2 ring_abc) 2
  pub user_write : ring_both ≡ put_modulo 8 10 3 (drop 2 letters) ring_abc
  pub user_lengths : table_both ≡ put_modulo 8 8 1 (3 ∷ []) table_abc
  pub user_read : counted ≡ count_landed 4096 4104 3 (paste letters 10 (front_modulo 8 7 3 ring_abc) 3)
