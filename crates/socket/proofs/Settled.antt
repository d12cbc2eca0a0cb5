-- A write and a read whose waits are visited later: the whole pair, once they are. Assumes nothing.
use Prim.Native.Nat.{ℕ, ◌≤◌}
use mathlib.Core.Path.{◌≡◌, refl, sym, ap, subst, ◌∙◌}
use mathlib.Core.Bool.{Bool, true, false}
use mathlib.Core.List.{List}
use native.Mathlib.Omega.{arith}
use lib.ListN.{length}
use borrow.Author.Tests.{eqb-false}
use Rattle.std.specs.Option.{option_map}
use Rattle.std.specs.declared.option.Option.{Option}
use Rattle.definition.specs.Status.{Answer, pick, count_of}
use Rattle.endpoint.proofs.answer.Chains.{counted, neither}
use Rattle.definition.specs.Port.{sound}
use Rattle.definition.specs.Tests.{first_length, lent_of}
use Rattle.definition.specs.declared.Ends.{Ends}
use Rattle.definition.specs.Effect.{Effect, keeping_waits, applied}
use Rattle.endpoint.specs.ends.AtOnce.{moved_by}
use Rattle.endpoint.specs.ends.Outcome.{unchanged_ends}
use Rattle.transfer.specs.declared.change.Exchange.{Exchange}
use Rattle.transfer.specs.declared.change.Transfer.{Transfer}
use Rattle.transfer.specs.change.Changes.{transfer_outcome, Changes}
use Rattle.transfer.specs.write.WriteChange.{fed_effect, wrote_by, WriteChanges, Wrote}
use Rattle.definition.specs.Read.{read_effect, consumed, pair_read, Reads, read_answer}
use Rattle.transfer.specs.read.ReadChange.{drained_effect, read_by, ReadChanges, Read}
use Rattle.definition.specs.declared.Pair.{Pair}
use Rattle.definition.specs.declared.Step.{Step}
use Rattle.definition.specs.Pair.{is_one, own, peer, ends_of}
use Rattle.definition.specs.Write.{write_effect, wrote, pair_written, Writes, write_answer}
use Rattle.answers.proofs.tests.Sound.{passed}
use Rattle.socket.specs.Deferred.{settled_step, with_ends}
use Rattle.socket.proofs.Visiting.{applied_two, settled_moved}

-- the step of a call by the end of handle h with the answer a and the change c, whose effect drops no wait and changes at most two words
transfer_settled : (p : Pair) (h : ℕ) (none : Bool) (stands : Exchange → Effect) (effect : Effect) (c : Option Exchange) (a : Answer)
    → length p.places.table ≡ 128 → (none ≡ false → sound p.places ≡ true) → effect.drops ≡ false → length effect.changes ≤ 2
    → Changes none stands effect c
    → settled_step (transfer_outcome (ends_of p) h a (option_map stands c)) p ≡ record { pair = pick none p (applied (is_one h) effect p); answer = a }
unfolding transfer_outcome settled_step unchanged_ends with_ends pick
transfer_settled p h true stands effect c a l s d n e = rw e refl
transfer_settled p h false stands effect c a l s d n e =
    rw e
    (settled_moved p (is_one h) a (moved_by (is_one h) effect) l
    ∙ ap (λ (k : Pair). record { pair = k; answer = a }) (applied_two (is_one h) effect p d n (s refl)))

module _ (p : Pair) (h : ℕ) (t : Transfer) (l : length p.places.table ≡ 128) (s : (count_of t.answer ≡ 0 → ⊥) → sound p.places ≡ true) where
  pub wrote_settled : WriteChanges (ends_of p) h t
      → settled_step (wrote_by (ends_of p) h t) p ≡ record { pair = pair_written p h (count_of t.answer); answer = t.answer }
  unfolding wrote_by pair_written wrote write_effect keeping_waits
  wrote_settled c = transfer_settled p h _ (fed_effect (own (is_one h) (ends_of p)) (peer (is_one h) (ends_of p))) _ t.change t.answer l (λ z. s (eqb-false _ _ z)) refl (omega arith) c

  pub read_settled : (peek : Bool) (table : List ℕ) → ReadChanges (ends_of p) h peek table t
      → settled_step (read_by (ends_of p) h t) p
      ≡ record { pair = pair_read p h peek (first_length p.datagram (own (is_one h) (ends_of p)).queue table) (count_of t.answer); answer = t.answer }
  unfolding read_by pair_read consumed read_effect keeping_waits
  read_settled peek table c = transfer_settled p h _ (drained_effect (own (is_one h) (ends_of p)) (peer (is_one h) (ends_of p))) _ t.change t.answer l (λ z. s (eqb-false _ _ (neither _ _ z).1)) refl (omega arith) c

pub wrote-whole : (p : Pair) (h : ℕ) (src ring ring' table table' : List ℕ) (e : Ends) (t : Transfer) → length p.places.table ≡ 128
    → e ≡ ends_of p → Wrote e h src ring ring' table table' t → Writes p h src ring ring' table table' (settled_step (wrote_by e h t) p)
unfolding write_answer
wrote-whole p h src ring ring' table table' e t l f v =
    let w = subst (λ (k : Ends). Wrote k h src ring ring' table table' t) f v in
    let z = lent_of p.datagram (peer (is_one h) (ends_of p)).queue ring table in
    let s : (count_of t.answer ≡ 0 → ⊥) → sound p.places ≡ true
    = λ (n : count_of t.answer ≡ 0 → ⊥). (passed (ends_of p) h (peer (is_one h) (ends_of p)).queue z _ t.answer w.answer (counted t.answer n)).sound.places in
    subst (λ (k : Step). Writes p h src ring ring' table table' k) (sym (ap (λ (k : Ends). settled_step (wrote_by k h t) p) f ∙ wrote_settled p h t l s w.changes))
    (record { answer = w.answer; pair = refl; bytes = w.bytes; lengths = w.lengths })

pub read_whole : (p : Pair) (h : ℕ) (peek : Bool) (ring table buffer buffer' : List ℕ) (e : Ends) (t : Transfer) → length p.places.table ≡ 128
    → e ≡ ends_of p → Read e h peek ring table buffer buffer' t → Reads p h peek ring table buffer buffer' (settled_step (read_by e h t) p)
unfolding read_answer
read_whole p h peek ring table buffer buffer' e t l f v =
    let w = subst (λ (k : Ends). Read k h peek ring table buffer buffer' t) f v in
    let z = lent_of p.datagram (own (is_one h) (ends_of p)).queue ring table in
    let s : (count_of t.answer ≡ 0 → ⊥) → sound p.places ≡ true
    = λ (n : count_of t.answer ≡ 0 → ⊥). (passed (ends_of p) h (own (is_one h) (ends_of p)).queue z _ t.answer w.answer (counted t.answer n)).sound.places in
    subst (λ (k : Step). Reads p h peek ring table buffer buffer' k) (sym (ap (λ (k : Ends). settled_step (read_by k h t) p) f ∙ read_settled p h t l s peek table w.changes))
    (record { answer = w.answer; pair = refl; bytes = w.bytes })
