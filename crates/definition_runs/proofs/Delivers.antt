-- A read or peek delivers what stands at the first origins of its end's line. Assumes nothing.
use Prim.Native.Nat.{ℕ, ◌+◌, ◌-◌, ◌≤◌, ◌<◌}
use mathlib.Core.Path.{◌≡◌, refl, ap, ◌∙◌}
use mathlib.Core.Bool.{Bool, true, false}
use mathlib.Core.List.{List, map}
use mathlib.Core.Option.{Option, some}
use native.Mathlib.Omega.{arith}
use lib.ListN.{length, take, drop}
use lib.Seq.{paste, take_all}
use lib.Dec.{eqb}
use borrow.Author.Tests.{eqb-true, eqb-false}
use Rattle.definition.specs.Status.{pick}
use Rattle.definition.specs.Ring.{front}
use Rattle.ring.proofs.copy.Laws.{length_front}
use Rattle.definition.specs.declared.Queue.{Queue}
use Rattle.definition.specs.Read.{buffer_read, bytes_landed}
use Rattle.definition.specs.Pair.{is_one, own, ends_of}
use Rattle.definition.specs.Calls.{Call, write, read, plain_write, plain_read, close, control, Slices, State, own_slices, view, own_lent, answer_to, landed, delivered_in}
use Rattle.definition_runs.proofs.runs.Memory.{take_pasted}
use Rattle.definition_runs.specs.TwoRuns.{Origin, OriginLine, flat, OriginLines, own_line, source_of}
use Rattle.definition_runs.proofs.Holds.{Size, Holds, first_of, ring_long}
use Rattle.definition_runs.proofs.Moves.{Taken, front-line, taken-within}
use Rattle.definition_runs.proofs.Answers.{plain_taken, user-taken}
use Rattle.definition_runs.proofs.Invariant.{Inv, own_first}

-- one end
end-delivers : (f : Origin → Option ℕ) (dg : Bool) (C : ℕ) (z : Size) (q : Queue) (l : Slices) (g : OriginLine) (memory : List ℕ) (off k : ℕ)
    → Holds f dg C z q l g → Taken dg q.bytes.count (first_of dg g) k → off + k ≤ length memory
    → map some (take k (drop off (paste memory off (front C q.bytes.start k l.ring) k))) ≡ map f (take k (flat g))
end-delivers f dg C z q l g memory off k h t fits =
    let within : k ≤ q.bytes.count = taken-within f dg C z q l g k t h in
    let e : length (front C q.bytes.start k l.ring) ≡ k
    = length_front C q.bytes.start k l.ring h.start (omega (arith, h.room)) (ring_long f dg C z q l g h) in
    ap (map some) (take_pasted memory (front C q.bytes.start k l.ring) off k fits (omega arith))
    ∙ ap (map some) (take_all k (front C q.bytes.start k l.ring) (omega arith))
    ∙ front-line f dg C z q l g k within h

module _ (f : Origin → Option ℕ) (dg : Bool) (z1 z2 : Size) (s : State) (ln : OriginLines) (v : Inv f dg z1 z2 s ln) where
  queue-delivers : (t : Bool) (memory : List ℕ) (off k : ℕ)
      → Taken s.pair.datagram (own t (ends_of s.pair)).queue.bytes.count (first_of s.pair.datagram (own_line t ln)) k → off + k ≤ length memory
      → map some (take k (drop off (paste memory off (front s.pair.capacity (own t (ends_of s.pair)).queue.bytes.start k (own_slices t s).ring) k)))
      ≡ map f (take k (flat (own_line t ln)))
  queue-delivers true memory off k = end-delivers f _ _ z1 s.pair.one.queue s.one ln.one memory off k v.one
  queue-delivers false memory off k = end-delivers f _ _ z2 s.pair.two.queue s.two ln.two memory off k v.two

  read-delivers : (t : Bool) (memory : List ℕ) (off k : ℕ)
      → (0 < k → Taken s.pair.datagram (own t (ends_of s.pair)).queue.bytes.count (own_lent t (view s)).first k × (off + k ≤ length memory))
      → map some (take k (drop off (pick (eqb k 0) memory (paste memory off (front s.pair.capacity (own t (ends_of s.pair)).queue.bytes.start k (own_slices t s).ring) k))))
      ≡ map f (take k (flat (own_line t ln)))
  unfolding pick
  read-delivers t memory off k taken = go (eqb k 0) refl
    where
      go : (b : Bool) → eqb k 0 ≡ b
          → map some (take k (drop off (pick b memory (paste memory off (front s.pair.capacity (own t (ends_of s.pair)).queue.bytes.start k (own_slices t s).ring) k))))
          ≡ map f (take k (flat (own_line t ln)))
      go true e = let z : k ≡ 0 = eqb-true k 0 e in rw z refl
      go false e =
          let n : k ≡ 0 → ⊥ = eqb-false k 0 e in
          let x = taken (omega (arith, n)) in
          queue-delivers t memory off k (rw (own_first f dg z1 z2 s ln v t) at x.0) x.1

  pub delivers : (base : ℕ) (memory : List ℕ) (c : Call)
      → map some (delivered_in base (landed s base memory c (answer_to (view s) base (length memory) c)) c (answer_to (view s) base (length memory) c))
      ≡ map f (source_of ln c (answer_to (view s) base (length memory) c))
  unfolding delivered_in landed source_of answer_to bytes_landed buffer_read
  delivers base memory (write h o a n at) = refl
  delivers base memory (read h o a n at) =
      read-delivers (is_one h) memory (a - base) _ (user-taken s.pair (own_lent (is_one h) (view s)) h base (length memory) o a n at)
  delivers base memory (plain_write h) = refl
  delivers base memory (plain_read h peek) =
      read-delivers (is_one h) memory 0 _
      (λ k. let x = plain_taken s.pair (own_lent (is_one h) (view s)) h (length memory) k in (x.0, omega (arith, x.1)))
  delivers base memory (close h) = refl
  delivers base memory (control c) = refl
