use Prim.Native.Nat.{ℕ, ◌+◌, ◌*◌, ◌/◌}
use borrow.Author.Rules.{rules}
use lib.ListN.{take, get_or, set}
use mathlib.Core.List.{List}
use mathlib.Core.Path.{refl, sym, ap, ◌∙◌}
use native.Mathlib.Omega.{arith}
use Rattle.std.proofs.lemmas.List.{take_all}
use Rattle.text.proofs.Place.{place_none}
use Rattle.text.proofs.Spelling.{hex_bytes_turn}
use Rattle.definition_script.specs.Line.{digit_of, hex_bytes_of}
use Rattle.definition_script.specs.Call.{written_at}
use Rattle.text.proofs.put_hex_bytes.Goals as goal

pub loop-i-init : goal.loop-i-init
unfolding hex_bytes_of
loop-i-init c = (search rules, sym (place_none c.args.at c.args.out.now))

pub loop-i-preserved : goal.loop-i-preserved
loop-i-preserved c = (
  search rules,
  let l = c.loop-i in
      let a = c.args in
      let s = a.src.now in
      let o = a.out.now in
      let to : ℕ = a.at + 2 * l.i in
      ap (λ (z : List ℕ). set (set z to c.digit.result) (to + 1) c.digit-in-loop-i.result) l.invariant.1
      ∙ ap (λ (v : ℕ). set (set (written_at a.at (hex_bytes_of (take l.i s)) o) to v) (to + 1) c.digit-in-loop-i.result) c.digit.ensures
      ∙ ap (λ (v : ℕ). set (set (written_at a.at (hex_bytes_of (take l.i s)) o) to (digit_of (get_or s l.i 0 / 16))) (to + 1) v) c.digit-in-loop-i.ensures
      ∙ hex_bytes_turn a.at l.i to s o (omega arith) (omega arith) refl,
)

pub returns : goal.returns
returns c =
    let l = c.loop-i in
    let a = c.args in
    l.invariant.1 ∙ ap (λ (z : List ℕ). written_at a.at (hex_bytes_of z) a.out.now) (take_all _ a.src.now (omega arith))
