use mathlib.Core.Path.{◌≡◌, refl, ap, ◌∙◌}
use mathlib.Core.Bool.{Bool, true}
use mathlib.Core.List.{List}
use Prim.Native.Nat.{ℕ, ◌+◌, ◌<◌, ◌≤◌}
use lib.ListN.{length}
use native.Mathlib.Omega.{arith}
use Rattle.definition.specs.declared.Queue.{Queue}
use Rattle.definition.specs.Ring.{position, put}
use Rattle.definition.specs.Write.{ring_fed, table_fed}
use Rattle.endpoint.proofs.answer.Rules.{pick-on, pick_off}
use Rattle.ring.specs.copy.Copies.{copied_in}
use Rattle.ring.proofs.copy.Laws.{copied_in_lem, place-lt}
use Rattle.transfer.specs.write.WriteChange.{Feed}
use Rattle.transfer.proofs.write.feed.Goals as goal

-- the ring after the copy
copied : (C m : ℕ) (q : Queue) (src ring ring' : List ℕ) (at : ℕ) → q.bytes.start < C → q.bytes.count + m ≤ C → C ≤ length ring → m ≤ length src
    → at ≡ position C q.bytes.start q.bytes.count → ring' ≡ copied_in C at m src ring → ring' ≡ ring_fed C q m src ring
unfolding ring_fed
copied C m q src ring ring' at d fits long has fa f =
    let lt = place-lt C q.bytes.start q.bytes.count d (omega arith) in
    f ∙ copied_in_lem C at m src ring (rw fa lt) (omega arith) long has ∙ ap (λ (x : ℕ). put C x m src ring) fa

-- the place of the next length lies in the table
next_low : (datagram : Bool) (C m : ℕ) (q : Queue) (src ring table : List ℕ) (at : ℕ) → Feed datagram C q m src ring table → datagram ≡ true
    → at ≡ position C q.lengths.start q.lengths.count → at < length table
next_low datagram C m q src ring table at d on fa =
    let l = d.lengths on in
    let wide = d.wide on in
    omega (arith, fa, place-lt C q.lengths.start q.lengths.count d.first (omega arith))

pub offset_bounds-table-next : goal.offset_bounds-table-next
offset_bounds-table-next c =
    let a = c.args in
    omega (arith, next_low _ _ _ _ a.bytes.now a.ring.now a.table.now _ c.requires c.if-p.true (rw c.peer.ensures at c.place-next.ensures))

pub bounds-table-next : goal.bounds-table-next
bounds-table-next c =
    let a = c.args in
    next_low _ _ _ _ a.bytes.now a.ring.now a.table.now _ c.requires c.if-p.true (rw c.peer.ensures at c.place-next.ensures)

pub returns-then-p : goal.returns-then-p
unfolding table_fed
returns-then-p c =
    let a = c.args in
    let d = c.requires in
    record {
      ring_after = copied a.p.capacity a.m _ a.bytes.now a.ring.now _ _ d.start d.fits d.long d.has (rw c.peer.ensures at c.place-at.ensures) c.copy_in.ensures;
      table_after = pick-on _ _ _ _ _ c.if-p.true (rw (← c.peer.ensures, ← c.place-next.ensures) refl);
    }

pub returns-else-p : goal.returns-else-p
unfolding table_fed
returns-else-p c =
    let a = c.args in
    let d = c.requires in
    record {
      ring_after = copied a.p.capacity a.m _ a.bytes.now a.ring.now _ _ d.start d.fits d.long d.has (rw c.peer.ensures at c.place-at.ensures) c.copy_in.ensures;
      table_after = pick_off _ _ _ _ _ c.if-p.false refl;
    }
