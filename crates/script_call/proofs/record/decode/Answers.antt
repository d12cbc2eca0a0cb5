use Prim.Native.Nat.{ℕ, ◌-◌}
use borrow.Author.Tests.{lt-ltb, le-ltb}
use lib.ListN.{length, get_or}
use mathlib.Core.Bool.{true, false}
use mathlib.Core.Path.{◌≡◌, sym, ap, ◌∙◌}
use native.Mathlib.Omega.{arith}
use Rattle.definition_script.specs.Record.{two, is_body, record_of}
use Rattle.definition.specs.Status.{pick}
use Rattle.script_call.proofs.record.decode.Goals as goal

pub returns-then-s-lt3 : goal.returns-then-s-lt3
unfolding pick record_of
returns-then-s-lt3 c = simp (lt-ltb _ _ c.if-s-lt3.true)

pub returns-then-s-n : goal.returns-then-s-n
unfolding pick record_of
returns-then-s-n c =
    let s = c.args.s.now in
    let n : c.u16_at-n.result ≡ two s 1 = c.u16_at-n.ensures in
    let e : is_body (get_or s 0 0) (two s 1) ≡ true = ap (λ (k : ℕ). is_body (get_or s 0 0) k) (sym n) ∙ sym c.is_body.ensures ∙ c.if-is_body.true in
    simp (le-ltb (length s) 3 (omega arith), e, lt-ltb (length s - 3) (two s 1) (omega arith))

pub returns-else-s-n : goal.returns-else-s-n
unfolding pick record_of
returns-else-s-n c =
    let s = c.args.s.now in
    let n : c.u16_at-n.result ≡ two s 1 = c.u16_at-n.ensures in
    let e : is_body (get_or s 0 0) (two s 1) ≡ true = ap (λ (k : ℕ). is_body (get_or s 0 0) k) (sym n) ∙ sym c.is_body.ensures ∙ c.if-is_body.true in
    simp (le-ltb (length s) 3 (omega arith), e, le-ltb (length s - 3) (two s 1) (omega arith), n)

pub returns-else-is_body : goal.returns-else-is_body
unfolding pick record_of
returns-else-is_body c =
    let s = c.args.s.now in
    let n : c.u16_at-n.result ≡ two s 1 = c.u16_at-n.ensures in
    let e : is_body (get_or s 0 0) (two s 1) ≡ false = ap (λ (k : ℕ). is_body (get_or s 0 0) k) (sym n) ∙ sym c.is_body.ensures ∙ c.if-is_body.false in
    simp (le-ltb (length s) 3 (omega arith), e)
