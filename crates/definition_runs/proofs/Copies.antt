-- What the calls copy is what the copies with the remainder at every entry give: where bytes move, the answer tells that they are in the ring or have
-- room in it. Assumes nothing.
use Prim.Native.Nat.{ℕ, ◌-◌, ◌%◌, ◌≤◌, ◌<◌}
use mathlib.Core.Path.{◌≡◌, refl, sym, ap, ◌∙◌}
use mathlib.Core.Bool.{Bool, true, false, false≢true}
use mathlib.Core.List.{List, [], ◌∷◌}
use native.Mathlib.Omega.{arith}
use native.Mathlib.Nat.{add-zero}
use lib.ListN.{length, drop, set, length-drop}
use lib.Seq.{paste, paste-zero}
use lib.Dec.{eqb}
use borrow.Author.Tests.{eqb-true, eqb-false, ne_eqb}
use Rattle.definition.specs.Status.{Answer}
use Rattle.definition.specs.declared.Ends.{Ends}
use Rattle.definition.specs.declared.Endpoint.{Endpoint}
use Rattle.definition.specs.declared.Queue.{Queue}
use Rattle.definition.specs.Memory.{count_landed}
use Rattle.definition.specs.Pair.{is_one, own, peer, ends_of}
use Rattle.definition.specs.Read.{buffer_read, bytes_landed}
use Rattle.definition.specs.Ring.{front, front_modulo, put_modulo}
use Rattle.definition.specs.Status.{pick, is_done, count_of, record_count}
use Rattle.definition.specs.Tests.{lent_of}
use Rattle.definition.specs.Write.{datagram_size, write_size, write_answer, user_write_answer, ring_fed, table_fed, ring_written, table_written}
use Rattle.endpoint.proofs.answer.Rules.{pick-on, pick_off}
use Rattle.endpoint.proofs.answer.Chains.{then_both, then_is, refuse_passed, counted}
use Rattle.answers.proofs.tests.Sound.{passed}
use Rattle.ring.proofs.copy.Laws.{place-zero}
use Rattle.ring.proofs.copy.Modulo.{place_modulo, place-next, front_modulo_lem, put_modulo_lem, put-behind}
use Rattle.ring.proofs.copy.Laws.{copied_in_lem, copied_out_lem}
use Rattle.ring.proofs.copy.Modulo.{modulo_out, modulo_count, modulo_into, modulo_others, modulo_past, modulo_size}
use Rattle.transfer.specs.write.WriteChange.{Feed}
use Rattle.transfer.proofs.write.Moved.{write_feeds}
use Rattle.transfer.proofs.write.user_memory.Landed.{write-room}
use Rattle.transfer.proofs.write.user_memory.Passed.{write-passed}
use Rattle.transfer.proofs.read.Moved.{read_drains}
use Rattle.transfer.proofs.read.user_memory.Landed.{user-delivers}
use Rattle.definition.specs.cases.Promises.{three, ring_abc, ring_both, table_abc, table_both, counted as memory-counted}
use Rattle.definition.specs.cases.Scripts.{letters}
use Rattle.definition.proofs.cases.Promises.{promises}
use Rattle.definition_runs.specs.Copies.{RingCopies, EveryEntry, CallCopies, CopyExamples, behind_queued}

pub ring_copies_lem : RingCopies
ring_copies_lem =
    record {
      first = place-zero;
      next = place-next;
      place = place_modulo;
      out = front_modulo_lem;
      into = put_modulo_lem;
      copy_out = λ C s n ring dst low room long has.
          copied_out_lem C s n ring dst low room long has ∙ ap (λ (xs : List ℕ). paste dst 0 xs n) (front_modulo_lem C s n ring low room long);
      copy_in = λ C at n xs ring low room long has. copied_in_lem C at n xs ring low room long has ∙ put_modulo_lem C at n xs ring low room long has;
    }

pub every_entry_lem : EveryEntry
every_entry_lem = record { out = modulo_out; count = modulo_count; into = modulo_into; others = modulo_others; past = modulo_past; size = modulo_size }

-- ---- a write

-- of m bytes, more than 0: its bytes, and its length
module _ (dg : Bool) (C : ℕ) (q : Queue) (m : ℕ) (src ring table : List ℕ) (f : Feed dg C q m src ring table) where
  fed-ring : ring_fed C q m src ring ≡ put_modulo C (behind_queued q.bytes) m src ring
  unfolding ring_fed
  fed-ring =
      put-behind C q.bytes.start q.bytes.count m src ring f.start (omega (arith, f.fits)) (omega (arith, f.fits)) f.long f.has

  fed-table : dg ≡ true → table_fed dg C q m table ≡ put_modulo C (behind_queued q.lengths) 1 (m ∷ []) table
  unfolding table_fed put_modulo
  fed-table d =
      sym (pick-on _ _ _ _ _ d refl)
      ∙ ap (λ (i : ℕ). set table i m) (place_modulo C q.lengths.start q.lengths.count f.first (omega (arith, f.lengths d)))
      ∙ ap (λ (a : ℕ). set table (a % C) m) (sym (add-zero (behind_queued q.lengths)))

-- of m bytes, 0 too
module _ (e : Ends) (h m : ℕ) (src ring table : List ℕ)
    (feeds : (m ≡ 0 → ⊥) → Feed e.datagram e.capacity (peer (is_one h) e).queue m src ring table) where
  written-ring : ring_written e h m src ring ≡ put_modulo e.capacity (behind_queued (peer (is_one h) e).queue.bytes) m src ring
  unfolding ring_written put_modulo
  written-ring = by (eqb m 0) refl
    where
      by : (t : Bool) → eqb m 0 ≡ t → ring_written e h m src ring ≡ put_modulo e.capacity (behind_queued (peer (is_one h) e).queue.bytes) m src ring
      by true z =
          sym (pick-on _ _ _ _ _ z refl)
          ∙ sym (ap (λ (k : ℕ). put_modulo e.capacity (behind_queued (peer (is_one h) e).queue.bytes) k src ring) (eqb-true m 0 z))
      by false z =
          sym (pick_off _ _ _ _ _ z refl)
          ∙ fed-ring e.datagram e.capacity (peer (is_one h) e).queue m src ring table (feeds (eqb-false m 0 z))

  written-table : e.datagram ≡ true → (m ≡ 0 → ⊥)
      → table_written e h m table ≡ put_modulo e.capacity (behind_queued (peer (is_one h) e).queue.lengths) 1 (m ∷ []) table
  unfolding table_written
  written-table d z =
      sym (pick_off _ _ _ _ _ (ne_eqb m 0 z) refl)
      ∙ fed-table e.datagram e.capacity (peer (is_one h) e).queue m src ring table (feeds z) d

-- over user memory the bytes are those from the address on
user-fed : (e : Ends) (h base options address n countAt m : ℕ) (memory ring table : List ℕ) (x : Answer)
    → x ≡ user_write_answer e (lent_of e.datagram (peer (is_one h) e).queue ring table) h base (length memory) options address n countAt → count_of x ≡ m
    → (m ≡ 0 → ⊥) → Feed e.datagram e.capacity (peer (is_one h) e).queue m (drop (address - base) memory) ring table
user-fed e h base options address n countAt m memory ring table x told k z =
    let some : count_of x ≡ 0 → ⊥ = λ y. z (sym k ∙ y) in
    let w = write-passed e _ h base (length memory) options address n countAt x told (counted x some) in
    let room = write-room e h base options address n countAt memory ring table x told some in
    write_feeds e h (drop (address - base) memory) ring table n x m w.plain (sym k) z
    (λ _. omega (arith, length-drop (address - base) memory, room.1, k))

-- a datagram that is taken has bytes
size-some : (datagram : Bool) (C : ℕ) (o e : Endpoint) (n : ℕ) → datagram ≡ true → is_done (write_size datagram C o e n) ≡ true
    → count_of (write_size datagram C o e n) ≡ 0 → ⊥
unfolding write_size datagram_size pick count_of record_count
size-some false C o e n d done z = false≢true d
size-some true C o e n d done z =
    let a = then_both _ _ done in
    let b = then_both _ _ a.1 in
    let c = then_both _ _ b.1 in
    let f = then_both _ _ c.1 in
    let g = then_both _ _ f.1 in
    let i = then_both _ _ g.1 in
    let j = then_both _ _ i.1 in
    let whole
    = then_is _ _ a.0 ∙ then_is _ _ b.0 ∙ then_is _ _ c.0 ∙ then_is _ _ f.0 ∙ then_is _ _ g.0 ∙ then_is _ _ i.0 ∙ then_is _ _ j.0 in
    eqb-false n 0 (refuse_passed _ _ j.0) (sym (ap count_of whole) ∙ z)

answer-some : (e : Ends) (h : ℕ) (ring table : List ℕ) (n : ℕ) (x : Answer) → x ≡ write_answer e (lent_of e.datagram (peer (is_one h) e).queue ring table) h n
    → is_done x ≡ true → e.datagram ≡ true → count_of x ≡ 0 → ⊥
unfolding write_answer
answer-some e h ring table n x told done d z =
    let w = passed e h (peer (is_one h) e).queue (lent_of e.datagram (peer (is_one h) e).queue ring table) _ x told done in
    size-some e.datagram e.capacity (own (is_one h) e) (peer (is_one h) e) n d (ap is_done (sym w.rest) ∙ done) (ap count_of (sym w.rest) ∙ z)

-- ---- a read

-- m bytes land from `at` on, none where m is 0
landed-bytes : (l : List ℕ) (at C s m : ℕ) (ring : List ℕ) → ((m ≡ 0 → ⊥) → (s < C) × (m ≤ C) × (C ≤ length ring))
    → pick (eqb m 0) l (paste l at (front C s m ring) m) ≡ paste l at (front_modulo C s m ring) m
unfolding front_modulo
landed-bytes l at C s m ring fits = by (eqb m 0) refl
  where
    by : (t : Bool) → eqb m 0 ≡ t → pick (eqb m 0) l (paste l at (front C s m ring) m) ≡ paste l at (front_modulo C s m ring) m
    by true z =
        sym (pick-on _ _ _ _ _ z refl)
        ∙ paste-zero l at []
        ∙ sym (ap (λ (k : ℕ). paste l at (front_modulo C s k ring) k) (eqb-true m 0 z))
    by false z =
        let f = fits (eqb-false m 0 z) in
        sym (pick_off _ _ _ _ _ z refl) ∙ ap (λ (xs : List ℕ). paste l at xs m) (front_modulo_lem C s m ring f.0 f.1 f.2)

-- ---- the calls

pub call_copies_lem : CallCopies
unfolding count_of record_count is_done buffer_read bytes_landed
call_copies_lem =
    record {
      write = λ p h m src ring ring' table table' r w e.
          w.bytes
          ∙ ap (λ (k : ℕ). ring_written (ends_of p) h k src ring) (ap count_of e)
          ∙ written-ring (ends_of p) h m src ring table
          (λ z. write_feeds (ends_of p) h src ring table (length src) r.answer m w.answer (sym (ap count_of e)) z (λ k. k));
      lengths = λ p h m src ring ring' table table' r w e d.
          let some : m ≡ 0 → ⊥ = λ z. answer-some (ends_of p) h ring table (length src) r.answer w.answer (ap is_done e) d (ap count_of e ∙ z) in
          w.lengths
          ∙ ap (λ (k : ℕ). table_written (ends_of p) h k table) (ap count_of e)
          ∙ written-table (ends_of p) h m src ring table
          (λ z. write_feeds (ends_of p) h src ring table (length src) r.answer m w.answer (sym (ap count_of e)) z (λ k. k)) d some;
      read = λ p h m peek ring table buffer buffer' r w e.
          w.bytes
          ∙ ap (λ (k : ℕ). buffer_read (ends_of p) h k ring buffer) (ap count_of e)
          ∙ landed-bytes buffer 0 p.capacity (own (is_one h) (ends_of p)).queue.bytes.start m ring
          (λ z.
          let f = read_drains (ends_of p) h ring table (length buffer) r.answer m w.answer (sym (ap count_of e)) z in
          (f.drain.start, f.most, f.long));
      user_write = λ p h base options address n countAt m memory memory' ring ring' table table' r w e.
          w.bytes
          ∙ ap (λ (k : ℕ). ring_written (ends_of p) h k (drop (address - base) memory) ring) (ap count_of e)
          ∙ written-ring (ends_of p) h m (drop (address - base) memory) ring table
          (user-fed (ends_of p) h base options address n countAt m memory ring table r.answer w.answer (ap count_of e));
      user_lengths = λ p h base options address n countAt m memory memory' ring ring' table table' r w e d.
          let u = write-passed (ends_of p) _ h base (length memory) options address n countAt r.answer w.answer (ap is_done e) in
          let some : m ≡ 0 → ⊥ = λ z. answer-some (ends_of p) h ring table n r.answer u.plain (ap is_done e) d (ap count_of e ∙ z) in
          w.lengths
          ∙ ap (λ (k : ℕ). table_written (ends_of p) h k table) (ap count_of e)
          ∙ written-table (ends_of p) h m (drop (address - base) memory) ring table
          (user-fed (ends_of p) h base options address n countAt m memory ring table r.answer w.answer (ap count_of e)) d some;
      user_read = λ p h base options address n countAt m ring table memory memory' r w e.
          w.user
          ∙ sym (pick-on _ _ _ _ _ (ap is_done e) refl)
          ∙ ap (λ (k : ℕ). count_landed base countAt k (bytes_landed p h base address k ring memory)) (ap count_of e)
          ∙ ap (count_landed base countAt m)
          (landed-bytes memory (address - base) p.capacity (own (is_one h) (ends_of p)).queue.bytes.start m ring
          (λ z.
          let f = user-delivers (ends_of p) h base options address n countAt ring table memory r.answer w.answer m (sym (ap count_of e)) z in
          (f.drain.start, f.most, f.long)));
    }

-- ---- the examples

pub copy_examples_lem : CopyExamples
copy_examples_lem =
    record {
      write = call_copies_lem.write three 1 3 _ ring_abc ring_both table_abc table_both _ promises.written refl;
      lengths = call_copies_lem.lengths three 1 3 _ ring_abc ring_both table_abc table_both _ promises.written refl refl;
      read = call_copies_lem.read three 2 2 false ring_abc table_abc _ _ _ promises.read refl;
      user_write = call_copies_lem.user_write three 1 4096 0 4098 3 4104 3 letters memory-counted ring_abc ring_both table_abc table_both _ promises.user_written refl;
      user_lengths =
          call_copies_lem.user_lengths three 1 4096 0 4098 3 4104 3 letters memory-counted ring_abc ring_both table_abc table_both _ promises.user_written refl refl;
      user_read = call_copies_lem.user_read three 2 4096 0 4106 3 4104 3 ring_abc table_abc letters memory-counted _ promises.user_read refl;
    }
