use Prim.Native.Nat.{ℕ, ◌+◌, ◌-◌, ◌/◌}
use borrow.Author.Rules.{rules}
use lib.ListN.{set}
use mathlib.Core.List.{[]}
use mathlib.Core.Path.{◌≡◌, sym, ap, ◌∙◌}
use native.Mathlib.Omega.{arith}
use Rattle.text.proofs.Spelling.{back, back_zero, back_step, back_is, digits_length}
use Rattle.text.proofs.Writers.{writes_put}
use Rattle.text.proofs.Writer.digits.Goals as goal

pub loop-i-preserved : goal.loop-i-preserved
loop-i-preserved c = (
  search rules,
  search rules,
  search rules,
  search rules,
  let l = c.loop-i in
      let a = c.args in
      l.invariant.4 ∙ back_step a.base l.self.at l.i l.rest l.self.out.now (omega arith)
      ∙ ap (λ (v : ℕ). back a.base l.self.at (l.i - 1) (l.rest / a.base) (set l.self.out.now (l.self.at + (l.i - 1)) v)) (sym c.digit.ensures),
)

pub returns-after-loop-i : goal.returns-after-loop-i
returns-after-loop-i c =
    let l = c.loop-i in
    let a = c.args in
    let w = a.self.now in
    let room = c.has_room.ensures.yes c.if-has_room.true in
    let z : l.i ≡ 0 = omega arith in
    let done : back a.base l.self.at a.k a.n w.out.now ≡ l.self.out.now =
    l.invariant.4 ∙ ap (λ (i : ℕ). back a.base l.self.at i l.rest l.self.out.now) z ∙ back_zero a.base l.self.at l.rest l.self.out.now
    in
    writes_put room
    (record {
      next = omega (arith, l.invariant.0, digits_length a.base a.k a.n []);
      most = omega (arith, l.invariant.0);
      fits = omega (arith, l.invariant.0, room);
      out = sym (rw l.invariant.0 at done) ∙ back_is a.base w.at a.k a.n w.out.now room;
    })
    l.invariant.1
