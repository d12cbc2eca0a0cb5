-- A read, put together from its parts: what it changes, and the buffer. Assumes nothing.
use Prim.Native.Nat.{ℕ}
use mathlib.Core.Path.{◌≡◌, refl}
use mathlib.Core.Bool.{Bool, true, false}
use mathlib.Core.List.{List}
use lib.ListN.{length}
use lib.Dec.{eqb}
use lib.Seq.{paste}
use borrow.Author.Tests.{eq-eqb, ne_eqb}
use Rattle.std.specs.declared.option.Option.{Option}
use Rattle.definition.specs.Status.{Answer}
use Rattle.definition.specs.declared.Ends.{Ends}
use Rattle.definition.specs.Pair.{is_one, own, peer}
use Rattle.definition.specs.Read.{read_answer, buffer_read}
use Rattle.definition.specs.Ring.{front}
use Rattle.definition.specs.Status.{◌or◌, count_of}
use Rattle.definition.specs.Tests.{first_length, lent_of}
use Rattle.endpoint.proofs.answer.Rules.{pick-on, pick_off}
use Rattle.transfer.specs.declared.change.Exchange.{Exchange}
use Rattle.transfer.specs.declared.change.Transfer.{Transfer}
use Rattle.transfer.specs.change.Changes.{kept_transfer}
use Rattle.transfer.specs.read.ReadChange.{drained_effect, DrainChanges, ReadChanges, Read}
use Rattle.transfer.proofs.change.Changes.{kept-changes}

or-either : (a b : Bool) → b ≡ true → (a or b) ≡ true
unfolding ◌or◌
or-either true b e = refl
or-either false b e = e

-- a read or peek with the answer x, whose count is k, that gives d
module _ (e : Ends) (h : ℕ) (peek : Bool) (table : List ℕ) (x : Answer) (k : ℕ) (fk : k ≡ count_of x) where
  pub none-changes : k ≡ 0 → ReadChanges e h peek table (kept_transfer x)
  unfolding kept_transfer
  none-changes z = rw (← fk) (kept-changes (peek or eqb k 0) (drained_effect (own (is_one h) e) (peer (is_one h) e)) _ (or-either peek (eqb k 0) (eq-eqb k 0 z)))

  pub some-changes : (c : Option Exchange)
      → DrainChanges e.datagram e.capacity (own (is_one h) e) (peer (is_one h) e) peek (first_length e.datagram (own (is_one h) e).queue table) k c
      → ReadChanges e h peek table (record { change = c; answer = x })
  some-changes c f = rw (← fk) f

  -- the plain read
  module _ (ring buffer : List ℕ) (fx : x ≡ read_answer e (lent_of e.datagram (own (is_one h) e).queue ring table) h (length buffer)) where
    pub read_none : k ≡ 0 → (d : Transfer) → d ≡ kept_transfer x → Read e h peek ring table buffer buffer d
    unfolding kept_transfer buffer_read
    read_none z d g =
        rw g (record { answer = fx; changes = none-changes z; bytes = rw (← fk) (pick-on _ _ _ _ _ (eq-eqb k 0 z) refl) })

    pub read-some : (buffer' : List ℕ) (c : Option Exchange) → (k ≡ 0 → ⊥)
        → buffer' ≡ paste buffer 0 (front e.capacity (own (is_one h) e).queue.bytes.start k ring) k
        → DrainChanges e.datagram e.capacity (own (is_one h) e) (peer (is_one h) e) peek (first_length e.datagram (own (is_one h) e).queue table) k c
        → Read e h peek ring table buffer buffer' (record { change = c; answer = x })
    unfolding buffer_read
    read-some buffer' c z fb f =
        record { answer = fx; changes = some-changes c f; bytes = rw (← fk) (pick_off _ _ _ _ _ (ne_eqb k 0 z) fb) }
