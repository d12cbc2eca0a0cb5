use mathlib.Core.Path.{refl, ap, ◌∙◌}
use lib.IntN.{ℤ}
use mir.Val.{to_z, of_z}
use mir.ValLaws.{to_z_pos}
use mir.Syntax.{w64}
use native.Mathlib.Omega.{arith}
use Rattle.std.specs.declared.result.Result.TheVariants.{Ok, Err}
use Rattle.definition.specs.Status.{is_done}
use Rattle.host.proofs.values.Worded.{word_back, refused-number, shown-number}
use Rattle.host.proofs.values.signal.Goals as goal

pub returns-in-Err : goal.returns-in-Err
unfolding is_done
returns-in-Err c =
    ap (λ (z : ℤ). to_z w64 (of_z w64 z)) c.word.ensures
    ∙ word_back (Err _) refl
    ∙ refused-number c.args.p c.args.handle _ (Err _) c.ends_of-e.ensures.ends c.in-Err.ensures refl

pub returns-in-Ok : goal.returns-in-Ok
unfolding is_done
returns-in-Ok c =
    to_z_pos w64 c.own.result.signals (omega arith)
    ∙ shown-number c.args.p c.args.handle _ (Ok _) c.ends_of-e.ensures.ends c.in-Ok.ensures refl _ c.own.ensures
