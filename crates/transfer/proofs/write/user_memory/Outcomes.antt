-- A write over user memory, put together from its parts. Assumes nothing.
use Prim.Native.Nat.{ℕ, ◌-◌, ◌≤◌}
use mathlib.Core.Path.{◌≡◌, sym, ◌∙◌}
use mathlib.Core.List.{List}
use native.Mathlib.Omega.{arith}
use lib.ListN.{length, take, drop, length-drop}
use Rattle.definition.specs.Status.{Answer}
use Rattle.definition.specs.declared.Endpoint.{Endpoint}
use Rattle.definition.specs.declared.Ends.{Ends}
use Rattle.definition.specs.Memory.{count_put}
use Rattle.definition.specs.Pair.{is_one, own, peer}
use Rattle.definition.specs.Status.{pick, count_of, is_done}
use Rattle.definition.specs.Tests.{lent_of}
use Rattle.definition.specs.Write.{write_effect, ring_fed, table_fed, user_write_answer}
use Rattle.endpoint.proofs.answer.Rules.{pick-on}
use Rattle.endpoint.proofs.answer.Chains.{counted}
use Rattle.ring.proofs.copy.Laws.{put-take}
use Rattle.std.specs.declared.option.Option.TheVariants.{Some}
use Rattle.transfer.specs.declared.change.Exchange.{Exchange}
use Rattle.transfer.specs.declared.change.Transfer.{Transfer}
use Rattle.transfer.specs.change.Changes.{kept_transfer}
use Rattle.transfer.specs.write.WriteChange.{fed_effect}
use Rattle.transfer.specs.write.user_memory.UserWrite.{UserWrote}
use Rattle.transfer.proofs.write.Outcomes.{none-changes, some-changes, none-fed, some-fed}
use Rattle.transfer.proofs.write.user_memory.Landed.{write-room, count-written}

-- of src, only the first m bytes matter
ring_part : (e : Ends) (q : Endpoint) (m k : ℕ) (src ring : List ℕ) → k ≡ m → m ≤ length src
    → ring_fed e.capacity q.queue m (take k src) ring ≡ ring_fed e.capacity q.queue m src ring
unfolding ring_fed
ring_part e q m k src ring fk has = rw fk (put-take e.capacity _ m src ring has)

-- a write with the answer x, whose count is m, that gives d
module _ (e : Ends) (h base options address n countAt : ℕ) (memory ring table : List ℕ) (x : Answer) (m : ℕ)
    (told : x ≡ user_write_answer e (lent_of e.datagram (peer (is_one h) e).queue ring table) h base (length memory) options address n countAt)
    (fm : m ≡ count_of x) where
  pub wrote_none : (memory' : List ℕ) (d : Transfer) → m ≡ 0 → memory' ≡ pick (is_done x) (count_put base countAt 0 memory) memory → d ≡ kept_transfer x
      → UserWrote e h base options address n countAt memory memory' ring ring table table d
  unfolding kept_transfer
  wrote_none memory' d z u k =
      let s = none-fed e h x m fm (drop (address - base) memory) ring table z in
      rw k
      (record {
        answer = told;
        changes = none-changes e h x m fm z;
        bytes = s.0;
        lengths = s.1;
        user = count-written e h base options address n countAt memory ring table x told 0 memory' (sym z ∙ fm) u;
      })

  pub wrote-some : (k : ℕ) (memory' ring' table' : List ℕ) (y : Exchange) → (m ≡ 0 → ⊥) → k ≡ m
      → ring' ≡ ring_fed e.capacity (peer (is_one h) e).queue m (take k (drop (address - base) memory)) ring
      → table' ≡ table_fed e.datagram e.capacity (peer (is_one h) e).queue m table
      → memory' ≡ count_put base countAt m memory
      → fed_effect (own (is_one h) e) (peer (is_one h) e) y ≡ write_effect e.datagram e.capacity (own (is_one h) e) (peer (is_one h) e) m
      → UserWrote e h base options address n countAt memory memory' ring ring' table table' (record { change = Some y; answer = x })
  wrote-some k memory' ring' table' y z fk fr fl u g =
      let some : count_of x ≡ 0 → ⊥ = λ y. z (fm ∙ y) in
      let room = write-room e h base options address n countAt memory ring table x told some in
      let has : length (drop (address - base) memory) ≡ length memory - (address - base) = length-drop (address - base) memory in
      let all = ring_part e (peer (is_one h) e) m k (drop (address - base) memory) ring fk (omega (arith, room.1)) in
      let s = some-fed e h x m fm (drop (address - base) memory) ring ring' table table' z (fr ∙ all) fl in
      record {
        answer = told;
        changes = some-changes e h x m fm y z g;
        bytes = s.0;
        lengths = s.1;
        user = count-written e h base options address n countAt memory ring table x told m memory' fm (pick-on _ _ _ _ _ (counted x some) u);
      }
