-- Computed examples: a ring of capacity 4 in a slice of 5 entries, with parts at its end and at its start.
use mathlib.Core.Path.{◌≡◌, refl}
use mathlib.Core.List.{[], ◌∷◌}
use Prim.Native.Nat.{ℕ}
use Rattle.definition.specs.Status.{pick, ◌and◌}
use Rattle.definition.specs.Ring.{front, put}
use Rattle.ring.specs.copy.Copies.{ring_fits, copied_in, copied_out}

-- three entries put from place 3 on: one at the end, two at the start; the entry past the ring stays
pub put-wrapped : put {A = ℕ} 4 3 3 (5 ∷ 6 ∷ 7 ∷ []) (0 ∷ 1 ∷ 2 ∷ 3 ∷ 4 ∷ []) ≡ 6 ∷ 7 ∷ 2 ∷ 5 ∷ 4 ∷ []
unfolding put
put-wrapped = refl

pub front-wrapped : front {A = ℕ} 4 3 3 (6 ∷ 7 ∷ 2 ∷ 5 ∷ 4 ∷ []) ≡ 5 ∷ 6 ∷ 7 ∷ []
unfolding front
front-wrapped = refl

-- as many entries as the ring holds, from place 3 on: one at the end, three at the start; the entry past the ring stays
pub in_whole : copied_in {A = ℕ} 4 3 4 (5 ∷ 6 ∷ 7 ∷ 8 ∷ 9 ∷ []) (0 ∷ 1 ∷ 2 ∷ 3 ∷ 4 ∷ []) ≡ 6 ∷ 7 ∷ 8 ∷ 5 ∷ 4 ∷ []
unfolding copied_in put ring_fits pick ◌and◌
in_whole = refl

-- five entries do not fit in a ring of capacity 4
pub too_many : copied_in {A = ℕ} 4 0 5 (5 ∷ 6 ∷ 7 ∷ 8 ∷ 9 ∷ []) (0 ∷ 1 ∷ 2 ∷ 3 ∷ 4 ∷ []) ≡ 0 ∷ 1 ∷ 2 ∷ 3 ∷ 4 ∷ []
unfolding copied_in ring_fits pick ◌and◌
too_many = refl

-- two entries out, to the start of a longer list
pub out-wrapped : copied_out {A = ℕ} 4 3 2 (6 ∷ 7 ∷ 2 ∷ 5 ∷ 4 ∷ []) (0 ∷ 0 ∷ 1 ∷ []) ≡ 5 ∷ 6 ∷ 1 ∷ []
unfolding copied_out front ring_fits pick ◌and◌
out-wrapped = refl
