-- Copies out of a ring and into it, in two parts and with the remainder at every entry, in a slice of six entries: straight, up to the ring's end,
-- past it, none, all. And the place as a running value. 01 "Delivered bytes"; 02 (ii).
use Rattle.std.specs.Prelude.{ℕ, List, [], ◌∷◌, map, ◌≡◌}
use Rattle.definition.specs.Ring.{position, front, put, front_modulo, put_modulo, next_position}

-- the slice, and what is copied into it
abbrev pub slice : List ℕ
slice = 10 ∷ 11 ∷ 12 ∷ 13 ∷ 14 ∷ 15 ∷ []

abbrev pub source : List ℕ
source = 1 ∷ 2 ∷ 3 ∷ 4 ∷ 5 ∷ 6 ∷ []

-- a copy of n entries from the place `start` on: what a copy out gives, and the slice after a copy in
pub record Copy : Type 0 where
  pub capacity : ℕ
  pub start : ℕ
  pub n : ℕ
  pub out : List ℕ
  pub into : List ℕ

unfoldable pub copy_rows : List Copy
copy_rows =
    -- none, at each end of the ring
    record { capacity = 4; start = 0; n = 0; out = []; into = slice }
    ∷ record { capacity = 4; start = 3; n = 0; out = []; into = slice }
    -- short of the ring's end, from its start and from its middle, and just up to its end: what is behind it in the slice stays
    ∷ record { capacity = 4; start = 0; n = 2; out = 10 ∷ 11 ∷ []; into = 1 ∷ 2 ∷ 12 ∷ 13 ∷ 14 ∷ 15 ∷ [] }
    ∷ record { capacity = 5; start = 1; n = 2; out = 11 ∷ 12 ∷ []; into = 10 ∷ 1 ∷ 2 ∷ 13 ∷ 14 ∷ 15 ∷ [] }
    ∷ record { capacity = 4; start = 1; n = 3; out = 11 ∷ 12 ∷ 13 ∷ []; into = 10 ∷ 1 ∷ 2 ∷ 3 ∷ 14 ∷ 15 ∷ [] }
    -- past the ring's end by one entry, and by two
    ∷ record { capacity = 4; start = 2; n = 3; out = 12 ∷ 13 ∷ 10 ∷ []; into = 3 ∷ 11 ∷ 1 ∷ 2 ∷ 14 ∷ 15 ∷ [] }
    ∷ record { capacity = 4; start = 3; n = 3; out = 13 ∷ 10 ∷ 11 ∷ []; into = 2 ∷ 3 ∷ 12 ∷ 1 ∷ 14 ∷ 15 ∷ [] }
    ∷ record { capacity = 5; start = 3; n = 4; out = 13 ∷ 14 ∷ 10 ∷ 11 ∷ []; into = 3 ∷ 4 ∷ 12 ∷ 1 ∷ 2 ∷ 15 ∷ [] }
    ∷ record { capacity = 6; start = 2; n = 5; out = 12 ∷ 13 ∷ 14 ∷ 15 ∷ 10 ∷ []; into = 5 ∷ 11 ∷ 1 ∷ 2 ∷ 3 ∷ 4 ∷ [] }
    -- all of the ring, from each place
    ∷ record { capacity = 4; start = 0; n = 4; out = 10 ∷ 11 ∷ 12 ∷ 13 ∷ []; into = 1 ∷ 2 ∷ 3 ∷ 4 ∷ 14 ∷ 15 ∷ [] }
    ∷ record { capacity = 4; start = 1; n = 4; out = 11 ∷ 12 ∷ 13 ∷ 10 ∷ []; into = 4 ∷ 1 ∷ 2 ∷ 3 ∷ 14 ∷ 15 ∷ [] }
    ∷ record { capacity = 4; start = 2; n = 4; out = 12 ∷ 13 ∷ 10 ∷ 11 ∷ []; into = 3 ∷ 4 ∷ 1 ∷ 2 ∷ 14 ∷ 15 ∷ [] }
    ∷ record { capacity = 4; start = 3; n = 4; out = 13 ∷ 10 ∷ 11 ∷ 12 ∷ []; into = 2 ∷ 3 ∷ 4 ∷ 1 ∷ 14 ∷ 15 ∷ [] }
    -- a ring as long as its slice, and a ring of one entry
    ∷ record { capacity = 6; start = 5; n = 6; out = 15 ∷ 10 ∷ 11 ∷ 12 ∷ 13 ∷ 14 ∷ []; into = 2 ∷ 3 ∷ 4 ∷ 5 ∷ 6 ∷ 1 ∷ [] }
    ∷ record { capacity = 1; start = 0; n = 1; out = 10 ∷ []; into = 1 ∷ 11 ∷ 12 ∷ 13 ∷ 14 ∷ 15 ∷ [] }
    ∷ []

abbrev pub out_rows : List (List ℕ)
out_rows = map (λ (r : Copy). r.out) copy_rows

abbrev pub into_rows : List (List ℕ)
into_rows = map (λ (r : Copy). r.into) copy_rows

pub record CopyCases : Type 0 where
  pub out : map (λ (r : Copy). front r.capacity r.start r.n slice) copy_rows ≡ out_rows
  pub out_modulo : map (λ (r : Copy). front_modulo r.capacity r.start r.n slice) copy_rows ≡ out_rows
  pub into : map (λ (r : Copy). put r.capacity r.start r.n source slice) copy_rows ≡ into_rows
  pub into_modulo : map (λ (r : Copy). put_modulo r.capacity r.start r.n source slice) copy_rows ≡ into_rows
  -- from a number past C on it is the same: the remainder is taken of the sum
  pub into_past : put_modulo 4 7 3 source slice ≡ put_modulo 4 3 3 source slice
  -- the place 0 to C entries past a place: a whole turn comes back
  pub places : map (position 5 3) (0 ∷ 1 ∷ 2 ∷ 3 ∷ 4 ∷ 5 ∷ []) ≡ 3 ∷ 4 ∷ 0 ∷ 1 ∷ 2 ∷ 3 ∷ []
  pub from_first : map (position 4 0) (0 ∷ 1 ∷ 2 ∷ 3 ∷ 4 ∷ []) ≡ 0 ∷ 1 ∷ 2 ∷ 3 ∷ 0 ∷ []
  -- one step on from each place of a ring of 5, and of a ring of one entry
  pub steps : map (next_position 5) (0 ∷ 1 ∷ 2 ∷ 3 ∷ 4 ∷ []) ≡ 1 ∷ 2 ∷ 3 ∷ 4 ∷ 0 ∷ []
  pub one_entry : next_position 1 0 ≡ 0
