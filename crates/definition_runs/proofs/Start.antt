-- A done create leaves a sound pair with empty queues and empty lines. Assumes nothing.
use Prim.Native.Nat.{ℕ, ◌≤◌, ◌<◌}
use mathlib.Core.Path.{◌≡◌, refl}
use mathlib.Core.Bool.{Bool, true, false}
use mathlib.Core.Option.{Option}
use native.Mathlib.Omega.{arith}
use lib.ListN.{length}
use lib.Dec.{ltb, eqb}
use borrow.Author.Tests.{ltb-false, eqb-false}
use Rattle.definition.specs.Status.{◌and◌, ◌or◌, is_done}
use Rattle.port.proofs.waits.Sound.{sound_new}
use Rattle.definition.specs.Create.{new_end, numbers_answer, create_answer, new_pair}
use Rattle.definition.specs.Tests.{short_table, short_slices}
use Rattle.definition.specs.Calls.{Create, Slices, state, created_by}
use Rattle.definition_runs.specs.TwoRuns.{Origin, no_lines}
use Rattle.definition_runs.proofs.Answers.{then_done, if_off}
use Rattle.definition_runs.proofs.Holds.{Size}
use Rattle.definition_runs.proofs.Moves.{no-holds}
use Rattle.definition_runs.proofs.Invariant.{Inv}

abbrev pub size_of : Slices → Size
size_of l = record { ring = length l.ring; table = length l.table }

pub record Long (dg : Bool) (C : ℕ) (z : Size) : Type 0 where
  pub ring : C ≤ z.ring
  pub table : dg ≡ true → C ≤ z.table

long : (dg : Bool) (C : ℕ) (z : Size) → short_slices dg C z.ring z.table ≡ false → Long dg C z
unfolding short_slices short_table ◌and◌ ◌or◌
long dg C z e = go (ltb z.ring C) refl dg e
  where
    go : (b : Bool) → ltb z.ring C ≡ b → (dg : Bool) → (b or (dg and ltb z.table C)) ≡ false → Long dg C z
    go true k dg e = let x : ◌≡◌ {A = Bool} true false = e in absurd (let y : ◌≡◌ {A = ℕ} 0 1 = cc in omega arith)
    go false k true e = record { ring = ltb-false z.ring C k; table = λ _. ltb-false z.table C e }
    go false k false e =
        record { ring = ltb-false z.ring C k; table = λ d. absurd (let x : ◌≡◌ {A = Bool} false true = d in let y : ◌≡◌ {A = ℕ} 0 1 = cc in omega arith) }

pub record Fit (c : Create) (l l' : Slices) : Type 0 where
  pub low : 0 < c.capacity
  pub high : c.capacity ≤ 262144
  pub one : Long (eqb c.kind 1) c.capacity (size_of l)
  pub two : Long (eqb c.kind 1) c.capacity (size_of l')

pub created_fits : (c : Create) (one two : Slices) → is_done (created_by c one two) ≡ true → Fit c one two
unfolding create_answer numbers_answer
created_fits c one two e =
    let (numbers, slices) = then_done _ _ e in
    let (s1, s2) = then_done _ _ slices in
    let (_, n1) = then_done _ _ numbers in
    let (zero?, n2) = then_done _ _ n1 in
    let (most, _) = then_done _ _ n2 in
    let some : c.capacity ≡ 0 → ⊥ = eqb-false c.capacity 0 (if_off _ _ zero?) in
    record {
      low = omega (arith, some);
      high = ltb-false 262144 c.capacity (if_off _ _ most);
      one = long _ _ (size_of one) (if_off _ _ s1);
      two = long _ _ (size_of two) (if_off _ _ s2);
    }

pub new_inv : (f : Origin → Option ℕ) (c : Create) (one two : Slices) → Fit c one two
    → Inv f (eqb c.kind 1) (size_of one) (size_of two) (state (new_pair (eqb c.kind 1) c.capacity c.rights1 c.rights2) one two) no_lines
unfolding new_pair new_end
new_inv f c one two k =
    record {
      kind = refl;
      high = k.high;
      places = sound_new;
      one = no-holds f (eqb c.kind 1) c.capacity (size_of one) one k.low refl refl k.one.ring k.one.table;
      two = no-holds f (eqb c.kind 1) c.capacity (size_of two) two k.low refl refl k.two.ring k.two.table;
    }
