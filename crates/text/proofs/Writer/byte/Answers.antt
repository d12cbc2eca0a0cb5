use mathlib.Core.Path.{refl}
use native.Mathlib.Omega.{arith}
use Rattle.text.proofs.Place.{place-one}
use Rattle.text.proofs.Writers.{writes_put}
use Rattle.text.proofs.Writer.byte.Goals as goal

pub returns-then-has_room : goal.returns-then-has_room
returns-then-has_room c =
    let w = c.args.self.now in
    let room = c.has_room.ensures.yes c.if-has_room.true in
    writes_put room (record { next = refl; most = omega arith; fits = omega (arith, room); out = place-one w.at c.args.b w.out.now (omega (arith, room)) }) refl
