-- A write and a read over user memory whose waits are visited later: the whole pair, once they are. Assumes nothing.
use Prim.Native.Nat.{ℕ}
use mathlib.Core.Path.{◌≡◌, refl, sym, ap, subst, ◌∙◌}
use mathlib.Core.Bool.{true}
use mathlib.Core.List.{List}
use lib.ListN.{length}
use Rattle.definition.specs.declared.Ends.{Ends}
use Rattle.definition.specs.declared.Pair.{Pair}
use Rattle.definition.specs.declared.Step.{Step}
use Rattle.definition.specs.Pair.{is_one, own, ends_of}
use Rattle.definition.specs.Port.{sound}
use Rattle.definition.specs.Read.{pair_read, is_peek, user_read_answer, bytes_landed, BytesRead, UserReads}
use Rattle.definition.specs.Status.{count_of}
use Rattle.definition.specs.Tests.{first_length, lent_of}
use Rattle.definition.specs.Write.{UserWrites}
use Rattle.endpoint.proofs.answer.Chains.{counted}
use Rattle.transfer.specs.declared.change.Transfer.{Transfer}
use Rattle.transfer.specs.read.ReadChange.{read_by, ReadChanges}
use Rattle.transfer.specs.write.WriteChange.{wrote_by}
use Rattle.transfer.specs.read.user_memory.UserRead.{UserBytesRead, UserRead}
use Rattle.transfer.specs.write.user_memory.UserWrite.{UserWrote}
use Rattle.transfer.proofs.read.user_memory.Passed.{read-passed}
use Rattle.transfer.proofs.write.user_memory.Passed.{write-passed}
use Rattle.socket.specs.Deferred.{settled_step}
use Rattle.socket.proofs.Settled.{wrote_settled, read_settled}

module _ (p : Pair) (h base options address n countAt : ℕ) (e : Ends) (t : Transfer) (l : length p.places.table ≡ 128) (f : e ≡ ends_of p) where
  pub wrote-whole : (memory memory' ring ring' table table' : List ℕ)
      → UserWrote e h base options address n countAt memory memory' ring ring' table table' t
      → UserWrites p h base options address n countAt memory memory' ring ring' table table' (settled_step (wrote_by e h t) p)
  wrote-whole memory memory' ring ring' table table' u =
      let w = subst (λ (k : Ends). UserWrote k h base options address n countAt memory memory' ring ring' table table' t) f u in
      let s : (count_of t.answer ≡ 0 → ⊥) → sound p.places ≡ true
      = λ (z : count_of t.answer ≡ 0 → ⊥). (write-passed (ends_of p) _ h base (length memory) options address n countAt t.answer w.answer (counted t.answer z)).sound.places in
      subst (λ (k : Step). UserWrites p h base options address n countAt memory memory' ring ring' table table' k)
      (sym (ap (λ (k : Ends). settled_step (wrote_by k h t) p) f ∙ wrote_settled p h t l s w.changes))
      (record { answer = w.answer; pair = refl; bytes = w.bytes; lengths = w.lengths; user = w.user })

  module _ (ring table memory memory' : List ℕ) where
    -- the step
    read_is : t.answer ≡ user_read_answer (ends_of p) (lent_of p.datagram (own (is_one h) (ends_of p)).queue ring table) h base (length memory) options address n countAt
        → ReadChanges (ends_of p) h (is_peek options) table t
        → settled_step (read_by e h t) p
        ≡ record { pair = pair_read p h (is_peek options) (first_length p.datagram (own (is_one h) (ends_of p)).queue table) (count_of t.answer); answer = t.answer }
    read_is x c =
        let s : (count_of t.answer ≡ 0 → ⊥) → sound p.places ≡ true
        = λ (z : count_of t.answer ≡ 0 → ⊥). (read-passed (ends_of p) _ h base (length memory) options address n countAt t.answer x (counted t.answer z)).sound.places in
        ap (λ (k : Ends). settled_step (read_by k h t) p) f ∙ read_settled p h t l s (is_peek options) table c

    pub bytes_whole : UserBytesRead e h base options address n countAt ring table memory memory' t
        → BytesRead p h base options address n countAt ring table memory memory' (settled_step (read_by e h t) p)
    unfolding bytes_landed
    bytes_whole u =
        let w = subst (λ (k : Ends). UserBytesRead k h base options address n countAt ring table memory memory' t) f u in
        subst (λ (k : Step). BytesRead p h base options address n countAt ring table memory memory' k) (sym (read_is w.answer w.changes))
        (record { answer = w.answer; pair = refl; user = w.user })

    pub read_whole : UserRead e h base options address n countAt ring table memory memory' t
        → UserReads p h base options address n countAt ring table memory memory' (settled_step (read_by e h t) p)
    unfolding bytes_landed
    read_whole u =
        let w = subst (λ (k : Ends). UserRead k h base options address n countAt ring table memory memory' t) f u in
        subst (λ (k : Step). UserReads p h base options address n countAt ring table memory memory' k) (sym (read_is w.answer w.changes))
        (record { answer = w.answer; pair = refl; user = w.user })
