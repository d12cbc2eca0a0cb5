-- A table that is owned has 128 places. Assumes nothing.
use Prim.Native.Nat.{ℕ}
use mathlib.Core.Path.{◌≡◌, refl}
use mathlib.Core.List.{List}
use mir.Val.{Val}
use lib.ListN.{length}
use denote.Laws.{Is}
use denote.Struct.Laws as LL
use Rattle.definition.specs.declared.Place.{Place}
use Rattle.definition.specs.declared.Places.{Places}
use Rattle.definition.specs.contracts.Places as T
use Rattle.definition.proofs.Places.TheLaws as T'

pub table_128 : (t : Places) (vs : List Val) → Is T.the_row t vs → length t.table ≡ 128
table_128 t vs g = (LL.owed T.the_type T'.the_laws t vs g).1.1.0.1.0.1

-- a table is its three fields
pub same-places : {a a' b b' : ℕ} {l l' : List Place} → a ≡ a' → b ≡ b' → l ≡ l'
    → ◌≡◌ {A = Places} (record { packets = a; waits = b; table = l }) (record { packets = a'; waits = b'; table = l' })
same-places e f g = rw (e, f, g) refl
