use borrow.Author.Tests.{lt-ltb, le-ltb}
use Prim.Native.Nat.{◌≤◌, ◌<◌}
use native.Mathlib.Omega.{arith}
use Rattle.script_call.proofs.plain_call.Steps.{cancel-tag}
use Rattle.definition_script.specs.Call.{control_step}
use Rattle.definition.specs.Status.{pick}
use Rattle.script_call.proofs.plain_call.plain.Goals as goal

pub returns-in-0 : goal.returns-in-0
unfolding control_step pick
returns-in-0 c = rw c.in-0.is c.create_over.ensures

pub returns-in-4 : goal.returns-in-4
unfolding control_step pick
returns-in-4 c = rw c.in-4.is c.shutdown.ensures

pub returns-in-5 : goal.returns-in-5
unfolding control_step pick
returns-in-5 c = rw c.in-5.is c.set_read_threshold.ensures

pub returns-in-6 : goal.returns-in-6
unfolding control_step pick
returns-in-6 c = rw c.in-6.is c.set_write_threshold.ensures

pub returns-in-7 : goal.returns-in-7
unfolding control_step pick
returns-in-7 c = rw c.in-7.is c.info_over.ensures

pub returns-in-8 : goal.returns-in-8
unfolding control_step pick
returns-in-8 c = rw c.in-8.is c.close.ensures

pub returns-in-9 : goal.returns-in-9
unfolding control_step pick
returns-in-9 c = rw c.in-9.is c.wait.ensures

pub returns-in-10 : goal.returns-in-10
unfolding control_step pick
returns-in-10 c = rw c.in-10.is c.take.ensures

pub returns-in-1-to-3 : goal.returns-in-1-to-3
unfolding control_step pick
returns-in-1-to-3 c =
    let tag = c.args.tag in
    let low : 1 ≤ tag = omega arith in
    let high : tag < 4 = omega arith in
    simp (le-ltb tag 1 low, lt-ltb tag 4 high) c.set_disposition.ensures

pub returns-in-11-to-255 : goal.returns-in-11-to-255
unfolding control_step pick
returns-in-11-to-255 c =
    let low : 11 ≤ c.args.tag = omega arith in
    cancel-tag _ _ c.args.tag _ _ low c.cancel.ensures
