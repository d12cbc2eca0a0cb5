use mathlib.Core.Path.{refl}
use native.Mathlib.Omega.{arith}
use Rattle.text.proofs.Place.{place-mid}
use Rattle.text.proofs.Writers.{writes_put}
use Rattle.text.proofs.Writer.copy.Goals as goal

pub returns-then-has_room : goal.returns-then-has_room
returns-then-has_room c =
    let room = c.has_room.ensures.yes c.if-has_room.true in
    writes_put room (record { next = refl; most = omega arith; fits = omega (arith, room); out = place-mid _ _ _ _ _ (omega arith) c.copy_from_slice.ensures.after }) refl
