-- How the code goes: a table of which few places are used, changed place by place.
use Rattle.std.specs.Prelude.{ℕ, suc, ◌-◌, Bool, List, [], ◌∷◌, ◌++◌, leb, ltb, eqb, take, drop}
use Rattle.std.proofs.Math.Seq.{slice}
use Rattle.definition.specs.Status.{pick, ◌and◌}
use Rattle.definition.specs.declared.Places.{Places}
use Rattle.definition.specs.Port.{free, used, matches, matching}

-- whether at most 7 places are used, so that one more is among the first 8
unfoldable pub at_most_seven_used : Places → Bool
at_most_seven_used t = leb (used t) 7

-- where the first element that passes stands; where none does, their number
unfoldable pub index_of : {A : Type 0} → (A → Bool) → List A → ℕ
index_of f [] = 0
index_of f (x ∷ xs) = pick (f x) 0 (suc (index_of f xs))

-- where the only place stands that a cancel matches, if that is asked and at most 8 places are used; else 8
unfoldable pub only_match : (asked one : Bool) → (key : ℕ) → Places → ℕ
only_match asked one key t =
    pick (asked and (leb (used t) 8 and eqb (matching one key t) 1)) (index_of (matches one key) (take (used t) t.table)) 8

-- the element at k taken out of those up to `last`: those behind it stand one place further to the front, and z stands at `last`
unfoldable pub removed_at : {A : Type 0} → (k last : ℕ) → A → List A → List A
removed_at k last z tab = take k tab ++ (slice (suc k) (suc last) tab ++ (z ∷ drop (suc last) tab))

-- whether the place at k is used, and at most 8 are
unfoldable pub is_among_eight : (k : ℕ) → Places → Bool
is_among_eight k t = ltb k (pick (leb (used t) 8) (used t) 0)

-- the table without that place: a packet less, or a wait
unfoldable pub without_place : (k : ℕ) → Places → Places
without_place k t =
    record {
      packets = pick (ltb k t.packets) (t.packets - 1) t.packets;
      waits = pick (ltb k t.packets) t.waits (t.waits - 1);
      table = removed_at k (used t - 1) free t.table;
    }
