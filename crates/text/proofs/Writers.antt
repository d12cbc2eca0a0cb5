-- Laws of a writer's methods called one after the other. Assumes nothing.
use Prim.Native.Nat.{ℕ, ◌+◌, ◌≤◌}
use mathlib.Core.Path.{◌≡◌, refl, ◌∙◌}
use native.Mathlib.Omega.{arith}
use mathlib.Core.List.{List, [], ◌++◌}
use lib.ListN.{length}
use Rattle.text.specs.declared.Writer.{Writer}
use Rattle.text.specs.Put.{Put, Written}
use Rattle.text.specs.Puts.{Appends, Puts}
use Rattle.text.proofs.Place.{seq, up_to, nothing, same}

-- one method, then another
pub then_appends : {j k : ℕ} {xs ys : List ℕ} {w w' w'' : Writer} → Appends j xs w w' → Appends k ys w' w'' → Appends (j + k) (xs ++ ys) w w''
then_appends p q = record { fit = seq p.fit q.fit; same_slice = q.same_slice ∙ p.same_slice }

-- a method that asks for more room
pub appends_up_to : {j : ℕ} {xs : List ℕ} {w w' : Writer} (k : ℕ) → j ≤ k → Appends j xs w w' → Appends k xs w w'
appends_up_to k h p = record { fit = up_to k h p.fit; same_slice = p.same_slice }

-- nothing is put
pub appends_nothing : (k : ℕ) (w : Writer) → Appends k [] w w
appends_nothing k w = record { fit = nothing k w.at w.out.now; same_slice = refl }

-- the same text, said in another way
pub appends_same : {k : ℕ} {xs : List ℕ} {w w' : Writer} (ys : List ℕ) → xs ≡ ys → Appends k xs w w' → Appends k ys w w'
appends_same ys e p = record { fit = same ys e p.fit; same_slice = p.same_slice }

-- a method that had room
pub writes : {k : ℕ} {xs : List ℕ} {w w' : Writer} → w.at + k ≤ length w.out.now → Appends k xs w w' → Puts k xs w w'
writes h p = record { appends = p; kept = λ g. absurd (let z : ⊥ = omega arith in z) }

-- a text that was put where it had room
pub writes_put : {k : ℕ} {xs : List ℕ} {w w' : Writer} → w.at + k ≤ length w.out.now → Put k w.at xs w'.at w.out.now w'.out.now
    → w'.out.ghost_name ≡ w.out.ghost_name → Puts k xs w w'
writes_put h p e = writes h (record { fit = record { put = λ g. p }; same_slice = e })

-- what a method says, of the lists and the places alone
pub written : {k : ℕ} {xs : List ℕ} {w w' : Writer} → Puts k xs w w' → Written k w.at xs w'.at w.out.now w'.out.now
written p = record { fit = p.appends.fit; kept = p.kept }
