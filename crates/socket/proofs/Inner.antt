-- The places of a pair that a method owns. Assumes nothing.
use mathlib.Core.Path.{◌≡◌}
use mathlib.Core.List.{List}
use mir.Val.{Val}
use denote.Laws.{Is}
use denote.Struct.Laws as LL
use lib.ListN.{length}
use Rattle.socket.specs.declared.SocketPair.{SocketPair}
use Rattle.socket.specs.contracts.SocketPair as T
use Rattle.socket.proofs.SocketPair.TheLaws as T'
use Rattle.socket.proofs.Visiting.{places_128}

pub inner_128 : (s : SocketPair) (vs : List Val) → Is T.the_row s vs → length s.inner.places.table ≡ 128
inner_128 s vs g = places_128 s.inner _ (LL.owed T.the_type T'.the_laws s vs g).0
