-- The bytes of user memory that a write takes, and the count that lands. Assumes nothing.
use Prim.Native.Nat.{ℕ, ◌+◌, ◌-◌, ◌≤◌}
use mathlib.Core.Path.{◌≡◌, refl, sym, ap, ◌∙◌}
use mathlib.Core.Bool.{Bool, true, false}
use mathlib.Core.List.{List}
use native.Mathlib.Omega.{arith}
use lib.ListN.{length, take, drop}
use Rattle.definition.specs.Status.{Answer}
use Rattle.definition.specs.declared.Ends.{Ends}
use Rattle.definition.specs.Memory.{count_landed, count_put}
use Rattle.definition.specs.Pair.{is_one, peer}
use Rattle.definition.specs.Status.{pick, count_of, is_done}
use Rattle.definition.specs.Tests.{lent_of}
use Rattle.definition.specs.Write.{user_write_answer}
use Rattle.endpoint.proofs.answer.Rules.{pick-on, pick_off}
use Rattle.endpoint.proofs.answer.Chains.{counted}
use Rattle.user_answers.proofs.memory.Landed.{fits_in, count_put_lem}
use Rattle.transfer.specs.write.WriteChange.{Feed}
use Rattle.transfer.proofs.change.UserMemory.{part_length}
use Rattle.transfer.proofs.write.Moved.{write_feeds}
use Rattle.transfer.proofs.write.user_memory.Passed.{write-passed}

-- a write that was answered x
module _ (e : Ends) (h base options address n countAt : ℕ) (memory ring table : List ℕ) (x : Answer)
    (told : x ≡ user_write_answer e (lent_of e.datagram (peer (is_one h) e).queue ring table) h base (length memory) options address n countAt) where
  -- the bytes that it takes lie in memory
  pub write-room : (count_of x ≡ 0 → ⊥) → (base ≤ address) × (address - base + count_of x ≤ length memory)
  write-room z =
      let w = write-passed e _ h base (length memory) options address n countAt x told (counted x z) in
      fits_in base (length memory) address (count_of x) w.bytes z

  -- and fit into the peer's queue
  pub user_feeds : (m k : ℕ) → m ≡ count_of x → (m ≡ 0 → ⊥) → k ≡ m
      → Feed e.datagram e.capacity (peer (is_one h) e).queue m (take k (drop (address - base) memory)) ring table
  user_feeds m k fm z fk =
      let some : count_of x ≡ 0 → ⊥ = λ y. z (fm ∙ y) in
      let w = write-passed e _ h base (length memory) options address n countAt x told (counted x some) in
      let room = write-room some in
      let size = part_length memory (address - base) k (omega (arith, room.1)) in
      write_feeds e h (take k (drop (address - base) memory)) ring table n x m w.plain fm z (λ _. omega (arith, size))

  -- the count after them
  pub count-written : (m : ℕ) (memory' : List ℕ) → m ≡ count_of x → memory' ≡ pick (is_done x) (count_put base countAt m memory) memory
      → memory' ≡ pick (is_done x) (count_landed base countAt (count_of x) memory) memory
  count-written m memory' fm u = by (is_done x) refl
    where
      by : (t : Bool) → is_done x ≡ t → memory' ≡ pick (is_done x) (count_landed base countAt (count_of x) memory) memory
      by true d =
          let w = write-passed e _ h base (length memory) options address n countAt x told d in
          let put : memory' ≡ count_put base countAt m memory = u ∙ sym (pick-on _ _ _ _ _ d refl) in
          pick-on _ _ _ _ _ d (put ∙ count_put_lem base countAt m memory w.count ∙ ap (λ (k : ℕ). count_landed base countAt k memory) fm)
      by false d = pick_off _ _ _ _ _ d (u ∙ sym (pick_off _ _ _ _ _ d refl))
