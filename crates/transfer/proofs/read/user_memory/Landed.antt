-- The bytes of user memory that a read fills, and the count that lands. Assumes nothing.
use Prim.Native.Nat.{ℕ, ◌+◌, ◌-◌, ◌≤◌}
use mathlib.Core.Path.{◌≡◌, refl, sym, ap, ◌∙◌}
use mathlib.Core.Bool.{Bool, true, false}
use mathlib.Core.List.{List}
use native.Mathlib.Omega.{arith}
use lib.ListN.{length}
use lib.Seq.{length-paste}
use lib.Dec.{eqb}
use borrow.Author.Tests.{eq-eqb, eqb-true, eqb-false}
use Rattle.definition.specs.Status.{Answer}
use Rattle.std.specs.declared.result.Result.TheVariants.{Ok, Err}
use Rattle.definition.specs.declared.Ends.{Ends}
use Rattle.definition.specs.declared.Pair.{Pair}
use Rattle.definition.specs.Memory.{count_fits, count_landed, count_put}
use Rattle.definition.specs.Pair.{is_one, ends_of, own}
use Rattle.definition.specs.Read.{user_read_answer, bytes_landed}
use Rattle.definition.specs.Status.{pick, count_of, is_done}
use Rattle.definition.specs.Tests.{first_length, lent_of}
use Rattle.endpoint.proofs.answer.Rules.{pick-on, pick_off}
use Rattle.endpoint.proofs.answer.Chains.{counted}
use Rattle.ring.proofs.copy.Laws.{length_front}
use Rattle.user_answers.proofs.memory.Landed.{fits_in, count_put_lem}
use Rattle.transfer.specs.read.ReadChange.{Deliver}
use Rattle.transfer.proofs.read.Moved.{read_drains}
use Rattle.transfer.proofs.read.user_memory.Passed.{read-passed}

-- a refused call moves nothing
none-moved : (a : Answer) → is_done a ≡ false → count_of a ≡ 0
unfolding is_done count_of
none-moved (Ok d) e = let z : ◌≡◌ {A = Bool} true false = e in (cc)
none-moved (Err s) e = refl

-- where nothing is delivered, no byte lands
pub none-landed : (p : Pair) (h base address k : ℕ) (ring memory : List ℕ) → k ≡ 0 → bytes_landed p h base address k ring memory ≡ memory
unfolding bytes_landed
none-landed p h base address k ring memory z = sym (pick-on _ _ _ _ _ (eq-eqb k 0 z) refl)

-- a read that was answered x
module _ (e : Ends) (h base options address n countAt : ℕ) (ring table memory : List ℕ) (x : Answer)
    (told : x ≡ user_read_answer e (lent_of e.datagram (own (is_one h) e).queue ring table) h base (length memory) options address n countAt) where
  -- the part of memory that it may fill
  pub read-room : (count_of x ≡ 0 → ⊥) → (base ≤ address) × (address - base + n ≤ length memory)
  read-room z =
      let w = read-passed e _ h base (length memory) options address n countAt x told (counted x z) in
      fits_in base (length memory) address n w.bytes (λ y. z (let m = w.most in omega arith))

  -- the bytes are in its queue
  pub user-delivers : (k : ℕ) → k ≡ count_of x → (k ≡ 0 → ⊥) → Deliver e h (first_length e.datagram (own (is_one h) e).queue table) k (length ring) n
  user-delivers k fk z =
      let w = read-passed e _ h base (length memory) options address n countAt x told (counted x (λ y. z (fk ∙ y))) in
      read_drains e h ring table n x k w.plain fk z

module _ (p : Pair) (h base options address n countAt : ℕ) (ring table memory : List ℕ) (x : Answer)
    (told :
    x ≡ user_read_answer (ends_of p) (lent_of p.datagram (own (is_one h) (ends_of p)).queue ring table) h base (length memory) options address n countAt) where
  -- memory keeps its length as bytes land
  pub landed-length : length (bytes_landed p h base address (count_of x) ring memory) ≡ length memory
  unfolding bytes_landed
  landed-length = by (eqb (count_of x) 0) refl
    where
      by : (t : Bool) → eqb (count_of x) 0 ≡ t → length (bytes_landed p h base address (count_of x) ring memory) ≡ length memory
      by true f = ap length (none-landed p h base address (count_of x) ring memory (eqb-true _ _ f))
      by false f =
          let z = eqb-false (count_of x) 0 f in
          let room = read-room (ends_of p) h base options address n countAt ring table memory x told z in
          let d = user-delivers (ends_of p) h base options address n countAt ring table memory x told (count_of x) refl z in
          let has = length_front p.capacity (own (is_one h) (ends_of p)).queue.bytes.start (count_of x) ring d.drain.start d.most d.long in
          ap length (sym (pick_off _ _ _ _ _ f refl))
          ∙ length-paste memory (address - base) _ (count_of x) (omega (arith, d.fits, room.1)) (omega (arith, has))

  -- the count after the bytes
  pub count_lands : (memory' memory'' : List ℕ) → memory' ≡ bytes_landed p h base address (count_of x) ring memory
      → memory'' ≡ pick (is_done x) (count_put base countAt (count_of x) memory') memory'
      → memory'' ≡ pick (is_done x) (count_landed base countAt (count_of x) (bytes_landed p h base address (count_of x) ring memory)) memory
  count_lands memory' memory'' b u = by (is_done x) refl
    where
      by : (t : Bool) → is_done x ≡ t
          → memory'' ≡ pick (is_done x) (count_landed base countAt (count_of x) (bytes_landed p h base address (count_of x) ring memory)) memory
      by true d =
          let w = read-passed (ends_of p) _ h base (length memory) options address n countAt x told d in
          let fit : count_fits base (length memory') countAt ≡ true = rw (b, landed-length) w.count in
          let put : memory'' ≡ count_put base countAt (count_of x) memory' = u ∙ sym (pick-on _ _ _ _ _ d refl) in
          pick-on _ _ _ _ _ d (put ∙ count_put_lem base countAt (count_of x) memory' fit ∙ ap (count_landed base countAt (count_of x)) b)
      by false d =
          let kept : memory'' ≡ memory' = u ∙ sym (pick_off _ _ _ _ _ d refl) in
          pick_off _ _ _ _ _ d (kept ∙ b ∙ none-landed p h base address (count_of x) ring memory (none-moved x d))
