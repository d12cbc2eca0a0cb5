use mir.Syntax.{w64}
use native.Mathlib.Omega.{arith}
use Rattle.std.proofs.lemmas.Int.{to_z-of_z}
use Rattle.text.proofs.Spelling.{signed_below, signed_from}
use Rattle.text.proofs.Writers.{then_appends, appends_up_to, appends_same, writes}
use Rattle.text.proofs.Writer.signed.Goals as goal
use Rattle.text.proofs.Writer.signed.Goals.{then-n-lt0, else-n-lt0}

pub returns-after-n-lt0 : goal.returns-after-n-lt0
returns-after-n-lt0 c =
    let n = c.args.n in
    let whole = to_z-of_z w64 n c.ranges.n in
    let m = c.unsigned_abs.ensures.value in
    writes (c.has_room.ensures.yes c.if-has_room.true)
    (elim c.if-n-lt0.branch [
      | then-n-lt0 w ↦ appends_same _ (signed_below n _ _ whole w.if-n-lt0.true m) (then_appends w.byte.ensures.appends (rw w.self-is at c.decimal.ensures.appends))
      | else-n-lt0 w ↦ appends_same _ (signed_from n _ _ whole w.if-n-lt0.false m) (appends_up_to 21 (omega arith) (rw w.self-is at c.decimal.ensures.appends))
    ])
