use Prim.Native.Nat.{ℕ, ◌+◌, min}
use mathlib.Core.Path.{ap, ◌∙◌, ◌≡◌}
use native.Mathlib.Omega.{arith}
use lib.ListN.{length}
use lib.Seq.{length-paste}
use Rattle.ring.proofs.copy.Lists.{copied_next}
use Rattle.ring.proofs.copy.copy.Goals as goal

pub loop-i-preserved : goal.loop-i-preserved
loop-i-preserved c =
    let o = c.loop-i in
    let n = c.min.result in
    let l = c.args.dst.now in
    let s = c.args.src.now in
    let here : min o.i (length s) ≡ o.i = omega arith in
    let next : o.i + n ≡ min (o.i + 4096) (length s) = omega (arith, c.min.ensures) in
    let e = copied_next {A = ℕ} l o.dst s _ o.i n (omega arith) (omega arith) (rw here at o.invariant.1) c.copy_block.ensures in
    (ap length e ∙ length-paste l 0 s (o.i + n) (omega arith) (omega arith), rw next at e)

-- after the last block
pub returns-2 : goal.returns-2
returns-2 c =
    let o = c.loop-i in
    let n = c.min.result in
    let s = c.args.src.now in
    let here : min o.i (length s) ≡ o.i = omega arith in
    let end : o.i + n ≡ length s = omega (arith, c.min.ensures) in
    let e = copied_next {A = ℕ} c.args.dst.now o.dst s _ o.i n (omega arith) (omega arith) (rw here at o.invariant.1) c.copy_block.ensures in
    rw end at e
