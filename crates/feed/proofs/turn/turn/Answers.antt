use lib.ListN.{take, drop}
use native.Mathlib.Omega.{arith}
use Rattle.feed.proofs.Turns.{body_at, record-within, record-body, next-cut, next-bad, next-whole, turn_stay, turn_stop, turn_step}
use Rattle.script_call.specs.Lent.{machine_with, lent_rings}
use Rattle.definition_script.specs.Listing.{move_of}
use Rattle.feed.proofs.turn.turn.Goals as goal

pub overflow_add-e : goal.overflow_add-e
overflow_add-e c =
    let a = c.args in
    omega (arith, c.requires.input, record-within a.st a.from a.input.now c.next.result c.in-Whole.tag c.in-Whole.n c.requires.within c.next.ensures c.in-Whole.is)

pub slice_bounds-step-end : goal.slice_bounds-step-end
slice_bounds-step-end c =
    let a = c.args in
    omega (arith, record-within a.st a.from a.input.now c.next.result c.in-Whole.tag c.in-Whole.n c.requires.within c.next.ensures c.in-Whole.is)

pub step-state-requires : goal.step-state-requires
step-state-requires c =
    let a = c.args in
    record { body = record-body a.st a.from a.input.now c.next.result c.in-Whole.tag c.in-Whole.n c.requires.within c.next.ensures c.in-Whole.is; size = c.requires.size; number = c.requires.number }

pub returns-in-Cut-clause-done : goal.returns-in-Cut-clause-done
returns-in-Cut-clause-done c =
    let a = c.args in
    let m = machine_with a.st a.lent.now in
    let s = drop a.from a.input.now in
    turn_stay m (move_of m s) a.offset a.from a.to.now (next-cut m s c.next.result c.next.ensures c.in-Cut.is)

pub returns-in-Bad-clause-done : goal.returns-in-Bad-clause-done
returns-in-Bad-clause-done c =
    let a = c.args in
    let m = machine_with a.st a.lent.now in
    let s = drop a.from a.input.now in
    turn_stop m (move_of m s) a.offset a.from a.to.now _ _ (next-bad m s c.next.result c.next.ensures c.in-Bad.is) c.stop.ensures

pub returns-in-Whole-clause-done : goal.returns-in-Whole-clause-done
returns-in-Whole-clause-done c =
    let a = c.args in
    let m = machine_with a.st a.lent.now in
    let s = drop a.from a.input.now in
    let k = c.step-state in
    turn_step m (move_of m s) a.offset a.from a.to.now c.in-Whole.tag c.in-Whole.n _ (take c.in-Whole.n (drop 3 s)) k.new.lent.memory.now (lent_rings k.new.lent) k.new.to k.result
    (next-whole m s c.next.result c.next.ensures c.in-Whole.tag c.in-Whole.n c.in-Whole.is).1 (body_at a.from c.in-Whole.n a.input.now) k.ensures.done
