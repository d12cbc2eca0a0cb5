-- What a call's tests, once passed, tell of the record and of the slices lent. Assumes nothing.
use Prim.Native.Nat.{ℕ, ◌+◌, ◌≤◌, ◌<◌}
use mathlib.Core.Path.{◌≡◌, refl, sym, ap, ◌∙◌}
use mathlib.Core.Bool.{Bool, true, false, not, false≢true}
use native.Mathlib.Omega.{arith}
use lib.Dec.{leb, eqb}
use borrow.Author.Tests.{ltb-true, ltb-false, leb-true, eqb-true, eqb-false}
use Rattle.definition.specs.Status.{Answer}
use Rattle.definition.specs.Status.{pick, is_done, ◌then◌}
use Rattle.endpoint.proofs.answer.Chains.{both, both_off, neither, then_both, then_is, refuse_passed, unless_passed}
use Rattle.definition.specs.declared.Queue.{Queue}
use Rattle.definition.specs.Tests.{sound_queue, sound_lengths, short_slices, short_table, bad_first, sound_ends, sound_test, Lent, slices_test, is_open, handle_test, opening_test}
use Rattle.definition.specs.declared.Ends.{Ends}
use Rattle.definition.specs.Pair.{is_handle, own, peer}

-- ---- a sound queue

pub record SoundQueue (datagram : Bool) (C : ℕ) (q : Queue) : Type 0 where
  pub start : q.bytes.start < C
  pub first : q.lengths.start < C
  pub queued : q.bytes.count ≤ C
  pub lengths : datagram ≡ true → q.lengths.count ≤ q.bytes.count
  pub some : datagram ≡ true → (q.bytes.count ≡ 0 → ⊥) → 0 < q.lengths.count

none-zero : (l b : ℕ) → pick (eqb l 0) (eqb b 0) (not (eqb b 0)) ≡ true → (b ≡ 0 → ⊥) → 0 < l
unfolding pick
none-zero l b e z = by (eqb l 0) refl
  where
    by : (t : Bool) → eqb l 0 ≡ t → 0 < l
    by true f = absurd (z (eqb-true b 0 (rw f at e)))
    by false f = omega (arith, eqb-false l 0 f)

lengths_of : (q : Queue) → sound_lengths q ≡ true → (q.lengths.count ≤ q.bytes.count) × ((q.bytes.count ≡ 0 → ⊥) → 0 < q.lengths.count)
unfolding sound_lengths
lengths_of q e =
    let w = both _ _ e in
    (leb-true _ _ w.0, none-zero q.lengths.count q.bytes.count w.1)

pub sound_queue_lem : (datagram : Bool) (C : ℕ) (q : Queue) → sound_queue datagram C q ≡ true → SoundQueue datagram C q
unfolding sound_queue pick
sound_queue_lem true C q e =
    let a = both _ _ e in
    let b = both _ _ a.1 in
    let c = both _ _ b.1 in
    let l = lengths_of q c.1 in
    record { start = ltb-true _ _ a.0; first = ltb-true _ _ b.0; queued = leb-true _ _ c.0; lengths = λ _. l.0; some = λ _. l.1 }
sound_queue_lem false C q e =
    let a = both _ _ e in
    let b = both _ _ a.1 in
    let c = both _ _ b.1 in
    record {
      start = ltb-true _ _ a.0;
      first = ltb-true _ _ b.0;
      queued = leb-true _ _ c.0;
      lengths = λ w. absurd (false≢true w);
      some = λ w. absurd (false≢true w);
    }

-- ---- sound ends

pub record SoundEnds (p : Ends) : Type 0 where
  pub positive : 0 < p.capacity
  pub small : p.capacity ≤ 262144
  pub places : leb (p.packets + p.waits) 128 ≡ true
  pub one : SoundQueue p.datagram p.capacity p.one.queue
  pub two : SoundQueue p.datagram p.capacity p.two.queue

pub sound_ends_lem : (p : Ends) → sound_ends p ≡ true → SoundEnds p
unfolding sound_ends
sound_ends_lem p e =
    let a = both _ _ e in
    let b = both _ _ a.1 in
    let c = both _ _ b.1 in
    let d = both _ _ c.1 in
    record {
      positive = ltb-true _ _ a.0;
      small = leb-true _ _ b.0;
      places = c.0;
      one = sound_queue_lem _ _ _ d.0;
      two = sound_queue_lem _ _ _ d.1;
    }

pub sound-own : (t : Bool) (p : Ends) → SoundEnds p → SoundQueue p.datagram p.capacity (own t p).queue
sound-own true p s = s.one
sound-own false p s = s.two

pub sound-peer : (t : Bool) (p : Ends) → SoundEnds p → SoundQueue p.datagram p.capacity (peer t p).queue
sound-peer true p s = s.two
sound-peer false p s = s.one

pub sound-passed : (p : Ends) → is_done (sound_test p) ≡ true → SoundEnds p
unfolding sound_test
sound-passed p e = sound_ends_lem p (unless_passed _ _ e)

pub opening_passed : (p : Ends) (h : ℕ) → is_done (opening_test p h) ≡ true → SoundEnds p
unfolding opening_test
opening_passed p h e = sound-passed p (then_both _ _ e).0

-- the same from a test's own answer
pub opening_sound : (p : Ends) (h : ℕ) (x : Answer) → x ≡ opening_test p h → is_done x ≡ true → SoundEnds p
opening_sound p h x e d = opening_passed p h (ap is_done (sym e) ∙ d)

-- ---- the slices lent

pub record LongSlices (datagram : Bool) (C : ℕ) (z : Lent) : Type 0 where
  pub ring : C ≤ z.ring
  pub table : datagram ≡ true → C ≤ z.table

handle_passed : (p : Ends) (h : ℕ) → is_done (handle_test p h) ≡ true → is_handle h ≡ true
unfolding handle_test is_open
handle_passed p h e = (both _ _ (unless_passed _ _ e)).0

long_slices : (datagram : Bool) (C : ℕ) (z : Lent) → short_slices datagram C z.ring z.table ≡ false → LongSlices datagram C z
unfolding short_slices short_table
long_slices datagram C z e =
    let w = neither _ _ e in
    record { ring = ltb-false _ _ w.0; table = λ d. ltb-false _ _ (both_off _ _ w.1 d) }

pub slices_passed : (datagram : Bool) (C h : ℕ) (q : Queue) (z : Lent) → is_handle h ≡ true → is_done (slices_test datagram C h q z) ≡ true
    → LongSlices datagram C z × (bad_first datagram q z.first ≡ false)
unfolding slices_test pick
slices_passed datagram C h q z e f =
    let w = then_both _ _ (rw e at f) in
    (long_slices datagram C z (refuse_passed _ _ w.0), refuse_passed _ _ w.1)

-- ---- a call that is lent a ring and a table, and passed

pub record Passed (p : Ends) (q : Queue) (z : Lent) (a : Answer) (x : Answer) : Type 0 where
  pub sound : SoundEnds p
  pub long : LongSlices p.datagram p.capacity z
  pub first : bad_first p.datagram q z.first ≡ false
  pub rest : x ≡ a

pub passed : (p : Ends) (h : ℕ) (q : Queue) (z : Lent) (a x : Answer)
    → x ≡ (sound_test p then slices_test p.datagram p.capacity h q z then handle_test p h then a)
    → is_done x ≡ true → Passed p q z a x
passed p h q z a x e d =
    let done : is_done (sound_test p then slices_test p.datagram p.capacity h q z then handle_test p h then a) ≡ true = ap is_done (sym e) ∙ d in
    let s = then_both _ _ done in
    let l = then_both _ _ s.1 in
    let o = then_both _ _ l.1 in
    let w = slices_passed p.datagram p.capacity h q z (handle_passed p h o.0) l.0 in
    record {
      sound = sound-passed p s.0;
      long = w.0;
      first = w.1;
      rest = e ∙ then_is _ _ s.0 ∙ then_is _ _ l.0 ∙ then_is _ _ o.0;
    }
