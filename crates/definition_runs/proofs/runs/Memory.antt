-- Memory, once a read's bytes have landed, is memory at entry with the bytes delivered put at the call's address: on every state, since an answer
-- above 0 tells that the bytes are in the ring and have room. Assumes nothing.
use Prim.Native.Nat.{ℕ, ◌+◌, ◌-◌, ◌≤◌}
use mathlib.Core.Path.{◌≡◌, refl, sym, ap, ◌∙◌}
use mathlib.Core.Bool.{Bool, true, false}
use mathlib.Core.List.{List, [], ◌++◌, append_assoc}
use native.Mathlib.Omega.{arith}
use lib.ListN.{length, take, drop}
use lib.Seq.{paste, paste-zero, take_all, drop_at, take_at, length-take-le}
use lib.Dec.{eqb}
use borrow.Author.Tests.{eqb-true, eqb-false}
use Rattle.definition.specs.Status.{Answer}
use Rattle.definition.specs.Status.{pick, count_of}
use Rattle.definition.specs.Ring.{front}
use Rattle.ring.proofs.copy.Laws.{length_front}
use Rattle.definition.specs.Read.{buffer_read as endsBufferRead, read_answer, buffer_read, user_read_answer, bytes_landed}
use Rattle.transfer.proofs.read.Moved.{read_drains}
use Rattle.definition.specs.declared.Pair.{Pair}
use Rattle.definition.specs.Pair.{is_one, ends_of, own}
use Rattle.definition.specs.Tests.{lent_of}
use Rattle.transfer.proofs.read.user_memory.Landed.{read-room, user-delivers}

-- ---- lists

-- entries that were pasted are found where they were pasted
pub take_pasted : (l xs : List ℕ) (at n : ℕ) → at + n ≤ length l → n ≤ length xs → take n (drop at (paste l at xs n)) ≡ take n xs
take_pasted l xs at n fits has =
    ap (λ (k : List ℕ). take n (drop at k)) (append_assoc (take at l) (take n xs) (drop (at + n) l))
    ∙ ap (take n) (drop_at (take at l) (take n xs ++ drop (at + n) l) at (length-take-le at l (omega arith)))
    ∙ take_at (take n xs) (drop (at + n) l) n (length-take-le n xs has)

-- so they can be pasted again from there
pasted_back : (l xs : List ℕ) (at n : ℕ) → at + n ≤ length l → n ≤ length xs
    → paste l at (take n (drop at (paste l at xs n))) (length (take n (drop at (paste l at xs n)))) ≡ paste l at xs n
pasted_back l xs at n fits has =
    ap (λ (d : List ℕ). paste l at d (length d)) (take_pasted l xs at n fits has)
    ∙ ap (λ (m : ℕ). paste l at (take n xs) m) (length-take-le n xs has)
    ∙ ap (λ (d : List ℕ). take at l ++ d ++ drop (at + n) l) (take_all n (take n xs) (omega (arith, length-take-le n xs has)))

-- the same where nothing is pasted if n is 0
back : (l xs : List ℕ) (at n : ℕ) (t : Bool) → eqb n 0 ≡ t → (t ≡ false → (at + n ≤ length l) × (n ≤ length xs))
    → paste l at (take n (drop at (pick t l (paste l at xs n)))) (length (take n (drop at (pick t l (paste l at xs n))))) ≡ pick t l (paste l at xs n)
unfolding pick
back l xs at n true e f = rw (eqb-true n 0 e) (sym (paste-zero l at []))
back l xs at n false e f = let k = f refl in pasted_back l xs at n k.0 k.1

-- ---- a read

-- plain
pub buffer_back : (p : Pair) (h : ℕ) (ring table buffer : List ℕ) (x : Answer)
    → x ≡ read_answer (ends_of p) (lent_of p.datagram (own (is_one h) (ends_of p)).queue ring table) h (length buffer)
    → paste buffer 0 (take (count_of x) (buffer_read (ends_of p) h (count_of x) ring buffer)) (length (take (count_of x) (buffer_read (ends_of p) h (count_of x) ring buffer)))
    ≡ buffer_read (ends_of p) h (count_of x) ring buffer
unfolding endsBufferRead
buffer_back p h ring table buffer x e =
    back buffer (front p.capacity (own (is_one h) (ends_of p)).queue.bytes.start (count_of x) ring) 0 (count_of x) (eqb (count_of x) 0) refl
    (λ f.
    let d = read_drains (ends_of p) h ring table (length buffer) x (count_of x) e refl (eqb-false (count_of x) 0 f) in
    let has = length_front p.capacity (own (is_one h) (ends_of p)).queue.bytes.start (count_of x) ring d.drain.start d.most d.long in
    (omega (arith, d.fits), omega (arith, has)))

-- over user memory
module _ (p : Pair) (h base options address n countAt : ℕ) (ring table memory : List ℕ) (x : Answer)
    (e : x ≡ user_read_answer (ends_of p) (lent_of p.datagram (own (is_one h) (ends_of p)).queue ring table) h base (length memory) options address n countAt) where
  pub landed-back :
      paste memory (address - base) (take (count_of x) (drop (address - base) (bytes_landed p h base address (count_of x) ring memory)))
      (length (take (count_of x) (drop (address - base) (bytes_landed p h base address (count_of x) ring memory))))
      ≡ bytes_landed p h base address (count_of x) ring memory
  unfolding bytes_landed
  landed-back =
      back memory (front p.capacity (own (is_one h) (ends_of p)).queue.bytes.start (count_of x) ring) (address - base) (count_of x) (eqb (count_of x) 0) refl
      (λ f.
      let z = eqb-false (count_of x) 0 f in
      let room = read-room (ends_of p) h base options address n countAt ring table memory x e z in
      let d = user-delivers (ends_of p) h base options address n countAt ring table memory x e (count_of x) refl z in
      let has = length_front p.capacity (own (is_one h) (ends_of p)).queue.bytes.start (count_of x) ring d.drain.start d.most d.long in
      (omega (arith, d.fits, room.1), omega (arith, has)))
