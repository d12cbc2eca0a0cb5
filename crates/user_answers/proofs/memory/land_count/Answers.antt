use native.Mathlib.Omega.{arith}
use mathlib.Core.Path.{◌∙◌}
use Prim.Native.Nat.{◌-◌}
use Rattle.std.proofs.lemmas.Slice.{put_mid-paste}
use Rattle.endpoint.proofs.answer.Rules.{via}
use Rattle.definition.specs.Memory.{little_endian}
use Rattle.user_answers.proofs.memory.Landed.{le_bytes, little-length, count_none, count-out, count_in_lem}
use Rattle.user_answers.proofs.memory.land_count.Goals.{then-count_at-eq0-via-then-count_at-eq0, then-count_at-eq0-via-else-count_at-eq0+then-not-fits}
use Rattle.user_answers.proofs.memory.land_count.Goals as goal

pub returns-then-count_at-eq0 : goal.returns-then-count_at-eq0
returns-then-count_at-eq0 c =
    elim c.then-count_at-eq0.branch [
      | then-count_at-eq0-via-then-count_at-eq0 w ↦ count_none c.args.base c.args.count_at c.args.n c.args.memory.now w.if-count_at-eq0.true
      | then-count_at-eq0-via-else-count_at-eq0+then-not-fits w ↦ count-out c.args.base c.args.count_at c.args.n c.args.memory.now w.if-count_at-eq0.false (via w.fits.ensures w.if-not-fits.true)
    ]

pub returns : goal.returns
returns c =
    put_mid-paste (c.args.count_at - c.args.base) _ c.args.memory.now _ (little_endian 8 c.args.n) 8 (c.copy_from_slice.ensures.after ∙ c.to_le_bytes.ensures ∙ le_bytes c.args.n) (omega arith) (little-length c.args.n)
    ∙ count_in_lem c.args.base c.args.count_at c.args.n c.args.memory.now c.if-count_at-eq0.false (via c.fits.ensures c.if-not-fits.false)
