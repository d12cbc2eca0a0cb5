-- A ring of capacity C is the first C entries of a lent slice. A queue in it starts at a place and continues at the ring's start where it
-- runs past the ring's end. Queued bytes and a table's lengths lie so alike. 01 "Delivered bytes".
use Rattle.std.specs.Prelude.{ℕ, zero, suc, ◌+◌, ◌-◌, ◌%◌, min, List, [], ◌∷◌, ◌++◌, ltb, eqb, take, drop, get_or, set}
use Rattle.std.proofs.Math.Seq.{paste}
use Rattle.definition.specs.Status.{pick}

-- the place that is k entries past the place s; k is at most C, and a whole turn comes back to s. 01 "Delivered bytes".
unfoldable pub position : ℕ → ℕ → ℕ → ℕ
position C s k = pick (ltb k (C - s)) (s + k) (k - (C - s))

-- the n entries from the place s on: those up to the ring's end, then those from its start. 01 "Delivered bytes".
unfoldable pub front : {A : Type 0} → ℕ → ℕ → ℕ → List A → List A
front C s n ring = take (min n (C - s)) (drop s ring) ++ take (n - (C - s)) ring

-- the ring with the first n of xs put from the place `at` on: those that fit up to the ring's end, then the rest from its start; every other
-- entry stays. 01 "Delivered bytes".
unfoldable pub put : {A : Type 0} → ℕ → ℕ → ℕ → List A → List A → List A
put C at n xs ring = paste (paste ring at xs (min n (C - at))) 0 (drop (min n (C - at)) xs) (n - (C - at))

-- ---- with the remainder at every entry. 02 (ii). Bytes and lengths are numbers alike.

-- the n entries from the place s on: entry k of them stands at (s + k) modulo C. 02 (ii).
unfoldable pub front_modulo : ℕ → ℕ → ℕ → List ℕ → List ℕ
front_modulo C s zero ring = []
front_modulo C s (suc k) ring = front_modulo C s k ring ++ (get_or ring ((s + k) % C) 0 ∷ [])

-- the ring with the first n of xs put from `at` on, a place or a number past the ring's end: entry k of them goes to (at + k) modulo C; every other
-- entry stays. 02 (ii).
unfoldable pub put_modulo : ℕ → ℕ → ℕ → List ℕ → List ℕ → List ℕ
put_modulo C at zero xs ring = ring
put_modulo C at (suc k) xs ring = set (put_modulo C at k xs ring) ((at + k) % C) (get_or xs k 0)

-- the place behind the place i, as a running value: one more, and 0 at C. 02 (ii).
unfoldable pub next_position : ℕ → ℕ → ℕ
next_position C i = pick (eqb (i + 1) C) 0 (i + 1)
