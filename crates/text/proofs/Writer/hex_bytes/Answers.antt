use mathlib.Core.Path.{refl}
use native.Mathlib.Omega.{arith}
use Rattle.text.proofs.Spelling.{hex_bytes-length}
use Rattle.text.proofs.Writers.{writes_put}
use Rattle.text.proofs.Writer.hex_bytes.Goals as goal

pub returns-then-has_room : goal.returns-then-has_room
returns-then-has_room c =
    let room = c.has_room.ensures.yes c.if-has_room.true in
    let l = hex_bytes-length c.args.src.now in
    writes_put room (record { next = omega (arith, l); most = omega arith; fits = omega (arith, room); out = c.put_hex_bytes.ensures }) refl
