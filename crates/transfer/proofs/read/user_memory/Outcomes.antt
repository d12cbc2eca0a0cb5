-- A read over user memory, put together from its parts. Assumes nothing.
use Prim.Native.Nat.{ℕ, ◌-◌}
use mathlib.Core.Path.{◌≡◌, sym, ◌∙◌}
use mathlib.Core.List.{List, ◌++◌}
use native.Mathlib.Omega.{arith}
use lib.ListN.{length, take, drop}
use lib.Seq.{paste}
use borrow.Author.Tests.{ne_eqb}
use Rattle.definition.specs.Status.{Answer}
use Rattle.definition.specs.declared.Ends.{Ends}
use Rattle.definition.specs.Memory.{count_put}
use Rattle.definition.specs.Pair.{is_one, own, peer}
use Rattle.definition.specs.Read.{is_peek, user_read_answer, bytes_landed}
use Rattle.definition.specs.Ring.{front}
use Rattle.definition.specs.Status.{pick, count_of, is_done}
use Rattle.definition.specs.Tests.{first_length, lent_of}
use Rattle.endpoint.proofs.answer.Rules.{pick_off}
use Rattle.ring.proofs.copy.Lists.{copied_part}
use Rattle.std.specs.declared.option.Option.{Option}
use Rattle.transfer.specs.declared.change.Exchange.{Exchange}
use Rattle.transfer.specs.declared.change.Transfer.{Transfer}
use Rattle.transfer.specs.change.Changes.{kept_transfer}
use Rattle.transfer.specs.read.ReadChange.{DrainChanges}
use Rattle.transfer.specs.read.user_memory.UserRead.{UserBytesRead, UserRead, pair_of}
use Rattle.transfer.proofs.read.Outcomes.{none-changes, some-changes}
use Rattle.transfer.proofs.read.user_memory.Landed.{none-landed, read-room, user-delivers, count_lands}

-- a read or peek with the answer x, whose count is k, that gives d
module _ (e : Ends) (h base options address n countAt : ℕ) (ring table memory : List ℕ) (x : Answer) (k : ℕ)
    (told : x ≡ user_read_answer e (lent_of e.datagram (own (is_one h) e).queue ring table) h base (length memory) options address n countAt)
    (fk : k ≡ count_of x) where
  pub bytes-none : (d : Transfer) → k ≡ 0 → d ≡ kept_transfer x → UserBytesRead e h base options address n countAt ring table memory memory d
  unfolding kept_transfer
  bytes-none d z g =
      rw g
      (record {
        answer = told;
        changes = none-changes e h (is_peek options) table x k fk z;
        user = sym (none-landed (pair_of e) h base address (count_of x) ring memory (sym fk ∙ z));
      })

  pub bytes-some : (i : ℕ) (buffer' : List ℕ) (c : Option Exchange) → (k ≡ 0 → ⊥) → i ≡ k
      → buffer' ≡ paste (take i (drop (address - base) memory)) 0 (front e.capacity (own (is_one h) e).queue.bytes.start k ring) k
      → DrainChanges e.datagram e.capacity (own (is_one h) e) (peer (is_one h) e) (is_peek options) (first_length e.datagram (own (is_one h) e).queue table) k c
      → UserBytesRead e h base options address n countAt ring table memory
      (take (address - base) memory ++ (buffer' ++ drop i (drop (address - base) memory)))
      (record { change = c; answer = x })
  unfolding bytes_landed
  bytes-some i buffer' c z fi fb f =
      let some : count_of x ≡ 0 → ⊥ = λ y. z (fk ∙ y) in
      let room = read-room e h base options address n countAt ring table memory x told some in
      let got = user-delivers e h base options address n countAt ring table memory x told k fk z in
      let put = copied_part memory _ buffer' (address - base) i k (omega (arith, fi)) (omega (arith, room.1, got.fits)) fb in
      record {
        answer = told;
        changes = some-changes e h (is_peek options) table x k fk c f;
        user = rw (← fk) (pick_off _ _ _ _ _ (ne_eqb k 0 z) put);
      }

-- the count after the bytes
pub read-after : (e : Ends) (h base options address n countAt : ℕ) (ring table memory memory' memory'' : List ℕ) (d : Transfer)
    → UserBytesRead e h base options address n countAt ring table memory memory' d
    → memory'' ≡ pick (is_done d.answer) (count_put base countAt (count_of d.answer) memory') memory'
    → UserRead e h base options address n countAt ring table memory memory'' d
read-after e h base options address n countAt ring table memory memory' memory'' d b u =
    record {
      answer = b.answer;
      changes = b.changes;
      user = count_lands (pair_of e) h base options address n countAt ring table memory d.answer b.answer memory' memory'' b.user u;
    }
