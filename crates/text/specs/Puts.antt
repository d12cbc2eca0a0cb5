-- What the methods of a writer say: the text that they put into its slice, and that it holds the same slice.
use Rattle.std.specs.Prelude.{ℕ, ◌+◌, ◌<◌, ◌≡◌, List, length}
use Rattle.text.specs.declared.Writer.{Writer}
use Rattle.text.specs.Put.{Fit}

-- where k bytes have room, xs was put: what a method says that calls writers one after the other
pub record Appends (k : ℕ) (xs : List ℕ) (w w' : Writer) : Type 0 where
  pub fit : Fit k w.at xs w'.at w.out.now w'.out.now
  pub same_slice : w'.out.ghost_name ≡ w.out.ghost_name

-- with room for k bytes it puts xs, else it puts nothing and leaves the place
pub record Puts (k : ℕ) (xs : List ℕ) (w w' : Writer) : Type 0 where
  pub appends : Appends k xs w w'
  pub kept : length w.out.now < w.at + k → (w'.at ≡ w.at) × (w'.out.now ≡ w.out.now)
