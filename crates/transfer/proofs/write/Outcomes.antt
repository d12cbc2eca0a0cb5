-- A write, put together from its parts: what it changes, and the slices. Assumes nothing.
use Prim.Native.Nat.{ℕ}
use mathlib.Core.Path.{◌≡◌, refl}
use mathlib.Core.List.{List}
use lib.ListN.{length}
use lib.Dec.{eqb}
use borrow.Author.Tests.{eq-eqb, ne_eqb}
use Rattle.std.specs.declared.option.Option.TheVariants.{Some}
use Rattle.definition.specs.Status.{Answer}
use Rattle.definition.specs.declared.Ends.{Ends}
use Rattle.definition.specs.Pair.{is_one, own, peer}
use Rattle.definition.specs.Status.{count_of}
use Rattle.definition.specs.Tests.{lent_of}
use Rattle.definition.specs.Write.{write_effect, write_answer, ring_fed, ring_written, table_fed, table_written}
use Rattle.endpoint.proofs.answer.Rules.{pick-on, pick_off}
use Rattle.transfer.specs.declared.change.Exchange.{Exchange}
use Rattle.transfer.specs.declared.change.Transfer.{Transfer}
use Rattle.transfer.specs.change.Changes.{kept_transfer}
use Rattle.transfer.specs.write.WriteChange.{fed_effect, WriteChanges, Wrote}
use Rattle.transfer.proofs.change.Changes.{kept-changes, moved-changes}

-- a write with the answer x, whose count is m, that gives d
module _ (e : Ends) (h : ℕ) (x : Answer) (m : ℕ) (fm : m ≡ count_of x) where
  pub none-changes : m ≡ 0 → WriteChanges e h (kept_transfer x)
  unfolding kept_transfer
  none-changes z = rw (← fm) (kept-changes (eqb m 0) (fed_effect (own (is_one h) e) (peer (is_one h) e)) _ (eq-eqb m 0 z))

  pub some-changes : (y : Exchange) → (m ≡ 0 → ⊥)
      → fed_effect (own (is_one h) e) (peer (is_one h) e) y ≡ write_effect e.datagram e.capacity (own (is_one h) e) (peer (is_one h) e) m
      → WriteChanges e h (record { change = Some y; answer = x })
  some-changes y z k = rw (← fm) (moved-changes (eqb m 0) (fed_effect (own (is_one h) e) (peer (is_one h) e)) _ y (ne_eqb m 0 z) k)

  -- the slices, by the answer
  pub none-fed : (src ring table : List ℕ) → m ≡ 0 → (ring ≡ ring_written e h (count_of x) src ring) × (table ≡ table_written e h (count_of x) table)
  unfolding ring_written table_written
  none-fed src ring table z = rw (← fm) (pick-on _ _ _ _ _ (eq-eqb m 0 z) refl, pick-on _ _ _ _ _ (eq-eqb m 0 z) refl)

  pub some-fed : (src ring ring' table table' : List ℕ) → (m ≡ 0 → ⊥) → ring' ≡ ring_fed e.capacity (peer (is_one h) e).queue m src ring
      → table' ≡ table_fed e.datagram e.capacity (peer (is_one h) e).queue m table
      → (ring' ≡ ring_written e h (count_of x) src ring) × (table' ≡ table_written e h (count_of x) table)
  unfolding ring_written table_written
  some-fed src ring ring' table table' z fr fl =
      rw (← fm) (pick_off _ _ _ _ _ (ne_eqb m 0 z) fr, pick_off _ _ _ _ _ (ne_eqb m 0 z) fl)

  -- the plain write
  module _ (src ring table : List ℕ) (fx : x ≡ write_answer e (lent_of e.datagram (peer (is_one h) e).queue ring table) h (length src)) where
    pub wrote_none : m ≡ 0 → (d : Transfer) → d ≡ kept_transfer x → Wrote e h src ring ring table table d
    unfolding kept_transfer
    wrote_none z d k =
        let s = none-fed src ring table z in
        rw k (record { answer = fx; changes = none-changes z; bytes = s.0; lengths = s.1 })

    pub wrote-some : (ring' table' : List ℕ) (y : Exchange) → (m ≡ 0 → ⊥)
        → fed_effect (own (is_one h) e) (peer (is_one h) e) y ≡ write_effect e.datagram e.capacity (own (is_one h) e) (peer (is_one h) e) m
        → ring' ≡ ring_fed e.capacity (peer (is_one h) e).queue m src ring
        → table' ≡ table_fed e.datagram e.capacity (peer (is_one h) e).queue m table
        → Wrote e h src ring ring' table table' (record { change = Some y; answer = x })
    wrote-some ring' table' y z k fr fl =
        let s = some-fed src ring ring' table table' z fr fl in
        record { answer = fx; changes = some-changes y z k; bytes = s.0; lengths = s.1 }
