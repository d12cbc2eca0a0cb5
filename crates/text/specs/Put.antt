-- Text put into a list at a place, and what a writer of text says. It stands for no paragraph of 01: every text of a listing is put so.
use Rattle.std.specs.Prelude.{ℕ, ◌+◌, ◌≤◌, ◌<◌, ◌≡◌, List, Bool, true, false, length}
use Rattle.definition_script.specs.Call.{written_at}

-- xs, at most k bytes, was put into l at a place: r is the place behind it, and l' the list after
pub record Put (k at : ℕ) (xs : List ℕ) (r : ℕ) (l l' : List ℕ) : Type 0 where
  pub next : r ≡ at + length xs
  pub most : r ≤ at + k
  pub fits : r ≤ length l
  pub out : l' ≡ written_at at xs l

-- where k bytes have room, xs was put: what a function says that calls writers one after the other
pub record Fit (k at : ℕ) (xs : List ℕ) (r : ℕ) (l l' : List ℕ) : Type 0 where
  pub put : at + k ≤ length l → Put k at xs r l l'

-- what a writer says: with room for k bytes it puts xs, else it puts nothing and gives the place back
pub record Written (k at : ℕ) (xs : List ℕ) (r : ℕ) (l l' : List ℕ) : Type 0 where
  pub fit : Fit k at xs r l l'
  pub kept : length l < at + k → (r ≡ at) × (l' ≡ l)

-- whether k bytes have room at a place of a list that is so long
pub record Room (len at k : ℕ) (r : Bool) : Type 0 where
  pub yes : r ≡ true → at + k ≤ len
  pub no : r ≡ false → len < at + k
