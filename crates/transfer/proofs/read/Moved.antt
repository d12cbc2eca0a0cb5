-- What an answer with a count tells of a read: the bytes are in the queue and fit into the buffer. Assumes nothing.
use Prim.Native.Nat.{ℕ, ◌≤◌, ◌<◌, min}
use mathlib.Core.Path.{◌≡◌, refl, sym, ap, ◌∙◌}
use mathlib.Core.Bool.{Bool, true, false, false≢true}
use mathlib.Core.List.{List}
use native.Mathlib.Omega.{arith}
use lib.ListN.{length}
use lib.Dec.{ltb, eqb}
use borrow.Author.Tests.{ltb-false, lt-ltb, eqb-false}
use Rattle.definition.specs.declared.Record.TheVariants.{Count}
use Rattle.definition.specs.Status.{Answer}
use Rattle.std.specs.declared.result.Result.TheVariants.{Ok}
use Rattle.definition.specs.Status.{pick, ◌and◌, ◌or◌, is_done, count_of, record_count}
use Rattle.endpoint.proofs.answer.Chains.{neither, then_both, counted}
use Rattle.definition.specs.declared.Endpoint.{Endpoint}
use Rattle.definition.specs.Tests.{has_length, first_length, bad_first, lent_of}
use Rattle.definition.specs.Read.{empty_answer, available_in, read_size, read_answer, leaving}
use Rattle.definition.specs.declared.Ends.{Ends}
use Rattle.definition.specs.Pair.{is_one, own, peer}
use Rattle.transfer.specs.read.ReadChange.{Deliver}
use Rattle.answers.proofs.tests.Sound.{sound-own, passed}
use Rattle.transfer.proofs.change.Smaller.{min-left, min-right}

-- an empty queue is refused
not_empty : (o e : Endpoint) → is_done (empty_answer o e) ≡ true → ⊥
unfolding empty_answer is_done
not_empty o e d = false≢true (then_both _ _ (then_both _ _ d).1).1

-- the queue is not empty, and the count is the smaller of n and what is available
read_by : (b : Bool) (o e : Endpoint) (m : ℕ) → is_done (pick b (empty_answer o e) (Ok (Count m))) ≡ true
    → (b ≡ false) × (count_of (pick b (empty_answer o e) (Ok (Count m))) ≡ m)
unfolding pick count_of record_count
read_by true o e m d = absurd (not_empty o e d)
read_by false o e m d = (refl, refl)

pub read_fits : (datagram : Bool) (o e : Endpoint) (first n : ℕ) → is_done (read_size datagram o e first n) ≡ true
    → (eqb o.queue.bytes.count 0 ≡ false) × (count_of (read_size datagram o e first n) ≡ min n (available_in datagram o first))
unfolding read_size
read_fits datagram o e first n d = read_by (eqb o.queue.bytes.count 0) o e (min n (available_in datagram o first)) d

-- what leaves the queue is in it; it is not less than what is delivered
leaves : (datagram : Bool) (o : Endpoint) (first n k : ℕ) → bad_first datagram o.queue first ≡ false
    → (datagram ≡ true → 0 < o.queue.lengths.count) → k ≡ min n (available_in datagram o first)
    → leaving datagram first k ≤ o.queue.bytes.count
unfolding leaving available_in pick bad_first has_length ◌and◌
leaves true o first n k b l e =
    let w : (eqb first 0 or ltb o.queue.bytes.count first) ≡ false = rw (lt-ltb 0 o.queue.lengths.count (l refl)) at b in
    ltb-false _ _ (neither _ _ w).1
leaves false o first n k b l e = omega (arith, min-right n o.queue.bytes.count)

most : (datagram : Bool) (o : Endpoint) (first n k C : ℕ) → k ≡ min n (available_in datagram o first) → leaving datagram first k ≤ o.queue.bytes.count
    → o.queue.bytes.count ≤ C → k ≤ C
unfolding leaving available_in pick
most true o first n k C e w q = omega (arith, min-right n first)
most false o first n k C e w q = omega arith

-- n is the number of bytes asked for
pub read_drains : (p : Ends) (h : ℕ) (ring table : List ℕ) (n : ℕ) (x : Answer) (k : ℕ)
    → x ≡ read_answer p (lent_of p.datagram (own (is_one h) p).queue ring table) h n → k ≡ count_of x → (k ≡ 0 → ⊥)
    → Deliver p h (first_length p.datagram (own (is_one h) p).queue table) k (length ring) n
unfolding read_answer lent_of
read_drains p h ring table n x k e c z =
    let o = own (is_one h) p in
    let first = first_length p.datagram o.queue table in
    let done : is_done x ≡ true = counted x (λ y. z (c ∙ y)) in
    let w = passed p h o.queue (lent_of p.datagram o.queue ring table) _ x e done in
    let s = sound-own (is_one h) p w.sound in
    let f = read_fits p.datagram o (peer (is_one h) p) first n (ap is_done (sym w.rest) ∙ done) in
    let is : k ≡ min n (available_in p.datagram o first) = c ∙ ap count_of w.rest ∙ f.1 in
    let some : p.datagram ≡ true → 0 < o.queue.lengths.count = λ d. s.some d (eqb-false _ _ f.0) in
    let within = leaves p.datagram o first n k w.first some is in
    record {
      drain = record { small = w.sound.small; start = s.start; queued = s.queued; within = within; first = s.first; lengths = some };
      most = most p.datagram o first n k p.capacity is within s.queued;
      long = w.long.ring;
      fits = omega (arith, is, min-left n (available_in p.datagram o first));
    }
