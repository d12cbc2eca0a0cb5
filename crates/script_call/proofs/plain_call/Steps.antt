-- What a call that changes neither memory nor a ring says is what its definition says. Assumes nothing.
use Prim.Native.Nat.{ℕ, ◌≤◌}
use native.Mathlib.Omega.{arith}
use mathlib.Core.Path.{◌≡◌, ap, ◌∙◌}
use mathlib.Core.Bool.{Bool, true, false}
use mathlib.Core.List.{List}
use borrow.Author.Tests.{le-ltb, eq-eqb, ne_eqb}
use Rattle.definition.specs.Status.{Answer}
use Rattle.definition.specs.Status.{pick, is_done}
use Rattle.definition.specs.declared.Pair.{Pair}
use Rattle.definition.specs.declared.Step.{Step}
use Rattle.definition.specs.Pair.{is_one}
use Rattle.definition.specs.Tests.{Steps}
use Rattle.definition_script.specs.Call.{Rings, rings, own_ring, own_table, peer_ring, peer_table, with_peer_rings, step_of, cancel_step, control_step}

abbrev pub mk : Pair → Answer → Step
mk p a = record { pair = p; answer = a }

-- a step is its pair and its answer
pub same_step : (r : Step) (p : Pair) (a : Answer) → r.pair ≡ p → r.answer ≡ a → r ≡ mk p a
same_step r p a e f = ap (λ (x : Pair). mk x r.answer) e ∙ ap (λ (y : Answer). mk p y) f

pub steps_are : {p q : Pair} {a : Answer} {r : Step} → Steps p a q r → r ≡ step_of p a q
unfolding step_of
steps_are {p} {q} {a} {r} s = same_step r (pick (is_done a) q p) a s.pair s.answer

-- ---- by the handle

pub one-is : (h : ℕ) → h ≡ 1 → is_one h ≡ true
one-is h e = eq-eqb h 1 e

pub two_is : (h : ℕ) → (h ≡ 1 → ⊥) → is_one h ≡ false
two_is h e = ne_eqb h 1 e

module _ (z : Rings) (h : ℕ) where
  pub peer_ring-one : h ≡ 1 → peer_ring (is_one h) z ≡ z.ring2
  unfolding peer_ring
  peer_ring-one e = ap (λ (b : Bool). peer_ring b z) (one-is h e)

  pub peer_ring-two : (h ≡ 1 → ⊥) → peer_ring (is_one h) z ≡ z.ring1
  unfolding peer_ring
  peer_ring-two e = ap (λ (b : Bool). peer_ring b z) (two_is h e)

  pub peer_table-one : h ≡ 1 → peer_table (is_one h) z ≡ z.table2
  unfolding peer_table
  peer_table-one e = ap (λ (b : Bool). peer_table b z) (one-is h e)

  pub peer_table-two : (h ≡ 1 → ⊥) → peer_table (is_one h) z ≡ z.table1
  unfolding peer_table
  peer_table-two e = ap (λ (b : Bool). peer_table b z) (two_is h e)

  pub own_ring-one : h ≡ 1 → own_ring (is_one h) z ≡ z.ring1
  unfolding own_ring
  own_ring-one e = ap (λ (b : Bool). own_ring b z) (one-is h e)

  pub own_ring-two : (h ≡ 1 → ⊥) → own_ring (is_one h) z ≡ z.ring2
  unfolding own_ring
  own_ring-two e = ap (λ (b : Bool). own_ring b z) (two_is h e)

  pub own_table-one : h ≡ 1 → own_table (is_one h) z ≡ z.table1
  unfolding own_table
  own_table-one e = ap (λ (b : Bool). own_table b z) (one-is h e)

  pub own_table-two : (h ≡ 1 → ⊥) → own_table (is_one h) z ≡ z.table2
  unfolding own_table
  own_table-two e = ap (λ (b : Bool). own_table b z) (two_is h e)

  pub with_peer-one : (ring table : List ℕ) → h ≡ 1 → with_peer_rings (is_one h) ring table z ≡ rings z.ring1 z.table1 ring table
  unfolding with_peer_rings
  with_peer-one ring table e = ap (λ (b : Bool). with_peer_rings b ring table z) (one-is h e)

  pub with_peer-two : (ring table : List ℕ) → (h ≡ 1 → ⊥) → with_peer_rings (is_one h) ring table z ≡ rings ring table z.ring2 z.table2
  unfolding with_peer_rings
  with_peer-two ring table e = ap (λ (b : Bool). with_peer_rings b ring table z) (two_is h e)

-- ---- by the tag

pub cancel-tag : (z : Rings) (p : Pair) (tag : ℕ) (b : List ℕ) (r : Step) → 11 ≤ tag → r ≡ cancel_step p b → r ≡ control_step z p tag b
unfolding control_step pick
cancel-tag z p tag b r h e =
    simp (le-ltb tag 1 (omega arith), le-ltb tag 4 (omega arith), le-ltb tag 5 (omega arith), le-ltb tag 6 (omega arith), le-ltb tag 7 (omega arith), le-ltb tag 8 (omega arith), le-ltb tag 9 (omega arith), le-ltb tag 10 (omega arith), le-ltb tag 11 h)
    e
