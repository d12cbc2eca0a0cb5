-- What an answer says of the numbers that led to it: one by one, the tests that were passed. Assumes nothing.
use Prim.Native.Nat.{ℕ, ◌+◌, ◌-◌, ◌≤◌, ◌<◌, min}
use mathlib.Core.Path.{◌≡◌, refl}
use mathlib.Core.Bool.{Bool, true, false}
use native.Mathlib.Omega.{arith}
use native.Mathlib.Nat.{not-suc-le-zero}
use lib.Dec.{leb, eqb}
use borrow.Author.Tests.{ltb-false, leb-true, leb-false, eqb-false, ne_eqb}
use Rattle.definition.specs.declared.Status.{Status}
use Rattle.definition.specs.Status.{Answer}
use Rattle.std.specs.declared.result.Result.TheVariants.{Ok, Err}
use Rattle.definition.specs.declared.Record.TheVariants.{Count}
use Rattle.definition.specs.Status.{pick, ◌and◌, ◌or◌, record_count, count_of, is_done, refuse_if, refuse_unless, ◌then◌}
use Rattle.definition.specs.Port.{used, wait_answer as endsWaitAnswer, wait_answer, take_answer}
use Rattle.definition.specs.declared.Endpoint.{Endpoint}
use Rattle.definition.specs.Write.{datagram_size, write_size, write_answer as endsWriteAnswer, write_answer, write_ranges, user_write_answer as endsUserWriteAnswer, user_write_answer}
use Rattle.definition.specs.Read.{empty_answer, available_in, read_size, read_answer as endsReadAnswer, read_answer, user_read_answer as endsUserReadAnswer, user_read_answer}
use Rattle.definition.specs.declared.Pair.{Pair}
use Rattle.definition.specs.Pair.{is_one, own, peer, ends_of}
use Rattle.definition.specs.Tests.{Lent}
use Rattle.definition.specs.Memory.{fits}
use Rattle.definition_runs.proofs.Moves.{Taken}

-- ---- tests that were passed

-- an answer with a count above 0 passed its first test
peel : (P : Answer → Type 0) (a b : Answer) → (is_done a ≡ true → 0 < count_of b → P b) → 0 < count_of (a then b) → P (a then b)
unfolding ◌then◌ count_of is_done
peel P (Ok d) b f h = f refl h
peel P (Err s) b f h = absurd (not-suc-le-zero h)

pub then_done : (a b : Answer) → is_done (a then b) ≡ true → (is_done a ≡ true) × (is_done b ≡ true)
unfolding ◌then◌ is_done
then_done (Ok d) b e = (refl, e)
then_done (Err s) b e = let z : ◌≡◌ {A = Bool} false true = e in ((cc), (cc))

pub if_off : (b : Bool) (s : Status) → is_done (refuse_if b s) ≡ true → b ≡ false
unfolding refuse_if is_done
if_off true s e = let z : ◌≡◌ {A = Bool} false true = e in (cc)
if_off false s e = refl

unless_on : (b : Bool) (s : Status) → is_done (refuse_unless b s) ≡ true → b ≡ true
unfolding refuse_unless is_done
unless_on true s e = refl
unless_on false s e = let z : ◌≡◌ {A = Bool} false true = e in (cc)

both : (a b : Bool) → (a and b) ≡ true → (a ≡ true) × (b ≡ true)
unfolding ◌and◌
both true b e = (refl, e)
both false b e = let z : ◌≡◌ {A = Bool} false true = e in ((cc), (cc))

-- a range that lies in memory
in_memory : (base size address n : ℕ) → fits base size address n ≡ true → 0 < n → address - base + n ≤ size
unfolding fits ◌or◌
in_memory base size address n e h =
    let e' = rw (ne_eqb n 0 (λ z. omega arith)) at e in leb-true (address - base + n) size (both (leb base address) (leb (address - base + n) size) e').1

-- ---- write

-- the m bytes of a write fit in the queue, and were given
pub record Room (C count n m : ℕ) : Type 0 where
  pub fits : count + m ≤ C
  pub within : m ≤ n

datagram_room : (C count n : ℕ) → count < C → 0 < count_of (datagram_size C (C - count) n) → Room C count n (count_of (datagram_size C (C - count) n))
unfolding datagram_size count_of record_count
datagram_room C count n below =
    let P : Answer → Type 0 = λ x. Room C count n (count_of x) in
    peel P _ _ (λ _. peel P _ _ (λ e. peel P _ _ (λ _ _. room (ltb-false (C - count) n (if_off _ _ e)))))
  where
    room : n ≤ C - count → Room C count n n
    room h = record { fits = omega arith; within = omega arith }

size_room : (dg : Bool) (C : ℕ) (e e' : Endpoint) (n : ℕ) → 0 < count_of (write_size dg C e e' n)
    → Room C e'.queue.bytes.count n (count_of (write_size dg C e e' n))
unfolding write_size count_of record_count pick
size_room dg C e e' n =
    let P : Answer → Type 0 = λ x. Room C e'.queue.bytes.count n (count_of x) in
    peel P _ _ (λ _. peel P _ _ (λ _. peel P _ _ (λ _. peel P _ _ (λ k. room dg (leb-false C e'.queue.bytes.count (if_off _ _ k))))))
  where
    room : (dg : Bool) → e'.queue.bytes.count < C
        → 0 < count_of (pick dg (datagram_size C (C - e'.queue.bytes.count) n) (Ok (Count (min n (C - e'.queue.bytes.count)))))
        → Room C e'.queue.bytes.count n
        (count_of (pick dg (datagram_size C (C - e'.queue.bytes.count) n) (Ok (Count (min n (C - e'.queue.bytes.count))))))
    room true below h = datagram_room C e'.queue.bytes.count n below h
    room false below h = record { fits = omega arith; within = omega arith }

pub plain_room : (p : Pair) (z : Lent) (h n : ℕ) → 0 < count_of (write_answer (ends_of p) z h n)
    → Room p.capacity (peer (is_one h) (ends_of p)).queue.bytes.count n (count_of (write_answer (ends_of p) z h n))
unfolding endsWriteAnswer
plain_room p z h n =
    let P : Answer → Type 0 = λ x. Room p.capacity (peer (is_one h) (ends_of p)).queue.bytes.count n (count_of x) in
    peel P _ _ (λ _. peel P _ _ (λ _. peel P _ _ (λ _. size_room p.datagram p.capacity (own (is_one h) (ends_of p)) (peer (is_one h) (ends_of p)) n)))

-- over user memory the bytes that are taken lie in it
ranges : (Q : ℕ → Type 0) (base size address countAt : ℕ) (a : Answer) → (0 < count_of a → Q (count_of a))
    → 0 < count_of (write_ranges base size address countAt a)
    → Q (count_of (write_ranges base size address countAt a)) × (address - base + count_of (write_ranges base size address countAt a) ≤ size)
unfolding write_ranges
ranges Q base size address countAt a f =
    let P : Answer → Type 0 = λ x. Q (count_of x) × (address - base + count_of x ≤ size) in
    peel P _ _ (λ _. peel P _ _ (λ e. peel P _ _ (λ _ h. (f h, in_memory base size address (count_of a) (unless_on _ _ e) h))))

pub user-room : (p : Pair) (z : Lent) (h base size o a n at : ℕ) → 0 < count_of (user_write_answer (ends_of p) z h base size o a n at)
    → Room p.capacity (peer (is_one h) (ends_of p)).queue.bytes.count n (count_of (user_write_answer (ends_of p) z h base size o a n at))
    × (a - base + count_of (user_write_answer (ends_of p) z h base size o a n at) ≤ size)
unfolding endsUserWriteAnswer
user-room p z h base size o a n at =
    let Q : ℕ → Type 0 = λ m. Room p.capacity (peer (is_one h) (ends_of p)).queue.bytes.count n m in
    let P : Answer → Type 0 = λ x. Q (count_of x) × (a - base + count_of x ≤ size) in
    peel P _ _ (λ _. peel P _ _ (λ _. peel P _ _ (λ _. peel P _ _ (λ _. peel P _ _ (λ _.
    ranges Q base size a at _ (size_room p.datagram p.capacity (own (is_one h) (ends_of p)) (peer (is_one h) (ends_of p)) n))))))

-- ---- read

none_empty : (e e' : Endpoint) → 0 < count_of (empty_answer e e') → ⊥
unfolding empty_answer count_of
none_empty e e' = peel (λ _. ⊥) _ _ (λ _. peel (λ _. ⊥) _ _ (λ _ h. not-suc-le-zero h))

size-taken : (dg : Bool) (e e' : Endpoint) (first n : ℕ) → 0 < count_of (read_size dg e e' first n)
    → Taken dg e.queue.bytes.count first (count_of (read_size dg e e' first n)) × (count_of (read_size dg e e' first n) ≤ n)
unfolding read_size pick count_of record_count available_in
size-taken dg e e' first n = go (eqb e.queue.bytes.count 0) refl dg
  where
    go : (b : Bool) → eqb e.queue.bytes.count 0 ≡ b → (dg : Bool)
        → 0 < count_of (pick b (empty_answer e e') (Ok (Count (min n (pick dg first e.queue.bytes.count)))))
        → Taken dg e.queue.bytes.count first (count_of (pick b (empty_answer e e') (Ok (Count (min n (pick dg first e.queue.bytes.count))))))
        × (count_of (pick b (empty_answer e e') (Ok (Count (min n (pick dg first e.queue.bytes.count))))) ≤ n)
    go true z dg h = absurd (none_empty e e' h)
    go false z true h =
        let k : e.queue.bytes.count ≡ 0 → ⊥ = eqb-false e.queue.bytes.count 0 z in
        (record { any = omega (arith, k); part = λ _. omega arith; stream = λ d. absurd (let x : ◌≡◌ {A = Bool} true false = d in let y : ◌≡◌ {A = ℕ} 0 1 = cc in omega arith) }, omega arith)
    go false z false h =
        let k : e.queue.bytes.count ≡ 0 → ⊥ = eqb-false e.queue.bytes.count 0 z in
        (record { any = omega (arith, k); part = λ d. absurd (let x : ◌≡◌ {A = Bool} false true = d in let y : ◌≡◌ {A = ℕ} 0 1 = cc in omega arith); stream = λ _. omega arith }, omega arith)

pub plain_taken : (p : Pair) (z : Lent) (h n : ℕ) → 0 < count_of (read_answer (ends_of p) z h n)
    → Taken p.datagram (own (is_one h) (ends_of p)).queue.bytes.count z.first (count_of (read_answer (ends_of p) z h n)) × (count_of (read_answer (ends_of p) z h n) ≤ n)
unfolding endsReadAnswer
plain_taken p z h n =
    let P : Answer → Type 0 = λ x. Taken p.datagram (own (is_one h) (ends_of p)).queue.bytes.count z.first (count_of x) × (count_of x ≤ n) in
    peel P _ _ (λ _. peel P _ _ (λ _. peel P _ _ (λ _. size-taken p.datagram (own (is_one h) (ends_of p)) (peer (is_one h) (ends_of p)) z.first n)))

pub user-taken : (p : Pair) (z : Lent) (h base size o a n at : ℕ) → 0 < count_of (user_read_answer (ends_of p) z h base size o a n at)
    → Taken p.datagram (own (is_one h) (ends_of p)).queue.bytes.count z.first (count_of (user_read_answer (ends_of p) z h base size o a n at))
    × (a - base + count_of (user_read_answer (ends_of p) z h base size o a n at) ≤ size)
unfolding endsUserReadAnswer
user-taken p z h base size o a n at =
    let P : Answer → Type 0 = λ x. Taken p.datagram (own (is_one h) (ends_of p)).queue.bytes.count z.first (count_of x) × (a - base + count_of x ≤ size) in
    peel P _ _ (λ _. peel P _ _ (λ _. peel P _ _ (λ _. peel P _ _ (λ _. peel P _ _ (λ _. peel P _ _ (λ e. peel P _ _ (λ _ k.
    let (t, within) = size-taken p.datagram (own (is_one h) (ends_of p)) (peer (is_one h) (ends_of p)) z.first n k in
    (t, omega (arith, within, in_memory base size a n (unless_on _ _ e) (omega arith))))))))))

-- ---- wait and take

pub wait-room : (p : Pair) (h edge : ℕ) → is_done (wait_answer (ends_of p) h edge) ≡ true → used p.places ≡ 128 → ⊥
unfolding endsWaitAnswer
wait-room p h edge e =
    let (_, rest) = then_done _ _ e in
    let (_, last) = then_done _ _ rest in
    eqb-false (used p.places) 128 (if_off _ _ last)

pub take-any : (p : Pair) → is_done (take_answer p) ≡ true → 0 < p.places.packets
unfolding take_answer
take-any p e =
    let (_, rest) = then_done _ _ e in
    let (some, _) = then_done _ _ rest in
    let k : p.places.packets ≡ 0 → ⊥ = eqb-false p.places.packets 0 (if_off _ _ some) in
    omega (arith, k)
