use mathlib.Core.Path.{◌∙◌}
use native.Mathlib.Omega.{arith}
use Rattle.text.proofs.Place.{place-mid}
use Rattle.script_call.proofs.fill.Fills.{fits-no, fits_not, fits-yes, fill-no, fill-yes}
use Rattle.script_call.proofs.fill.put.Goals as goal

pub returns-then-address-lt-BASE : goal.returns-then-address-lt-BASE
returns-then-address-lt-BASE c = fill-no c.args.address c.args.bytes.now c.args.memory.now (fits-no _ _ _ c.requires.0 c.if-address-lt-BASE.true)

pub returns-then-end-memory : goal.returns-then-end-memory
returns-then-end-memory c =
    fill-no c.args.address c.args.bytes.now c.args.memory.now (fits_not _ _ _ c.requires.0 c.if-address-lt-BASE.false c.if-end-memory.true)

pub returns : goal.returns
returns c =
    let w = fill-yes c.args.address c.args.bytes.now c.args.memory.now (fits-yes _ _ _ c.requires.0 c.if-address-lt-BASE.false c.if-end-memory.false) in
    (w.0, place-mid _ _ _ _ _ (omega arith) c.copy_from_slice.ensures.after ∙ w.1)
