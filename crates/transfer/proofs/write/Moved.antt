-- What an answer with a count tells of a write: the bytes fit where they go. Assumes nothing.
use Prim.Native.Nat.{ℕ, ◌-◌, ◌≤◌, ◌<◌, min}
use mathlib.Core.Path.{◌≡◌, sym, ap, ◌∙◌}
use mathlib.Core.Bool.{Bool, true, false}
use mathlib.Core.List.{List}
use native.Mathlib.Omega.{arith}
use lib.ListN.{length}
use borrow.Author.Tests.{ltb-false, leb-false}
use Rattle.definition.specs.declared.Record.TheVariants.{Count}
use Rattle.definition.specs.Status.{Answer}
use Rattle.std.specs.declared.result.Result.TheVariants.{Ok}
use Rattle.definition.specs.Status.{pick, is_done, count_of, record_count}
use Rattle.endpoint.proofs.answer.Chains.{then_both, then_is, refuse_passed, counted}
use Rattle.definition.specs.declared.Endpoint.{Endpoint}
use Rattle.definition.specs.Write.{datagram_size, write_size, write_answer}
use Rattle.definition.specs.declared.Ends.{Ends}
use Rattle.definition.specs.Pair.{is_one, own, peer}
use Rattle.definition.specs.Tests.{lent_of}
use Rattle.transfer.specs.write.WriteChange.{Feed}
use Rattle.answers.proofs.tests.Sound.{sound-peer, passed}
use Rattle.transfer.proofs.change.Smaller.{min-left, min-right}

datagram_fits : (C space n : ℕ) → is_done (datagram_size C space n) ≡ true → (count_of (datagram_size C space n) ≡ n) × (n ≤ space)
unfolding datagram_size count_of record_count
datagram_fits C space n e =
    let a = then_both _ _ e in
    let b = then_both _ _ a.1 in
    let c = then_both _ _ b.1 in
    (ap count_of (then_is _ _ a.0 ∙ then_is _ _ b.0 ∙ then_is _ _ c.0), ltb-false _ _ (refuse_passed _ _ b.0))

-- of either kind
kind_fits : (datagram : Bool) (C space n : ℕ) → is_done (pick datagram (datagram_size C space n) (Ok (Count (min n space)))) ≡ true
    → (count_of (pick datagram (datagram_size C space n) (Ok (Count (min n space)))) ≤ n)
    × (count_of (pick datagram (datagram_size C space n) (Ok (Count (min n space)))) ≤ space)
unfolding pick count_of record_count
kind_fits true C space n d = let w = datagram_fits C space n d in (omega (arith, w.0), omega (arith, w.0, w.1))
kind_fits false C space n d = (min-left n space, min-right n space)

-- the count is at most n and at most the space, and the queue was not full
pub write-fits : (datagram : Bool) (C : ℕ) (o e : Endpoint) (n : ℕ) → is_done (write_size datagram C o e n) ≡ true
    → (count_of (write_size datagram C o e n) ≤ n) × (count_of (write_size datagram C o e n) ≤ C - e.queue.bytes.count) × (e.queue.bytes.count < C)
unfolding write_size
write-fits datagram C o e n d =
    let a = then_both _ _ d in
    let b = then_both _ _ a.1 in
    let c = then_both _ _ b.1 in
    let f = then_both _ _ c.1 in
    let full : e.queue.bytes.count < C = leb-false _ _ (refuse_passed _ _ f.0) in
    let w = kind_fits datagram C (C - e.queue.bytes.count) n f.1 in
    rw (then_is _ _ a.0, then_is _ _ b.0, then_is _ _ c.0, then_is _ _ f.0) (w.0, w.1, full)

-- src is what the bytes are taken from, n the number asked for
pub write_feeds : (p : Ends) (h : ℕ) (src ring table : List ℕ) (n : ℕ) (x : Answer) (m : ℕ)
    → x ≡ write_answer p (lent_of p.datagram (peer (is_one h) p).queue ring table) h n → m ≡ count_of x → (m ≡ 0 → ⊥) → (m ≤ n → m ≤ length src)
    → Feed p.datagram p.capacity (peer (is_one h) p).queue m src ring table
unfolding write_answer lent_of
write_feeds p h src ring table n x m e k z has =
    let done : is_done x ≡ true = counted x (λ y. z (k ∙ y)) in
    let w = passed p h (peer (is_one h) p).queue (lent_of p.datagram (peer (is_one h) p).queue ring table) _ x e done in
    let s = sound-peer (is_one h) p w.sound in
    let f = write-fits p.datagram p.capacity (own (is_one h) p) (peer (is_one h) p) n (ap is_done (sym w.rest) ∙ done) in
    let is : m ≡ count_of (write_size p.datagram p.capacity (own (is_one h) p) (peer (is_one h) p) n) = k ∙ ap count_of w.rest in
    record {
      small = w.sound.small;
      start = s.start;
      fits = omega (arith, is, f.1, f.2);
      has = has (omega (arith, is, f.0));
      long = w.long.ring;
      first = s.first;
      lengths = λ d. omega (arith, s.lengths d, f.2);
      wide = λ d. w.long.table d;
    }
