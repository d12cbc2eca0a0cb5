use Prim.Native.Nat.{ℕ, ◌+◌}
use mathlib.Core.Path.{◌≡◌, ap, ◌∙◌}
use lib.Dec.{leb}
use Rattle.definition.specs.Status.{pick, ◌and◌}
use Rattle.definition.specs.declared.Place.{Place}
use Rattle.definition.specs.Port.{wait_of, appended_of}
use Rattle.port.specs.few.Few.{at_most_seven_used}
use Rattle.endpoint.proofs.answer.Rules.{and-on}
use Rattle.port.proofs.places.Size.{table_128}
use Rattle.port.proofs.places.Tests.{first_fails}
use Rattle.port.proofs.few.Whole.{appended_few}
use Rattle.port.proofs.few.appended.Goals as goal
use Rattle.port.proofs.few.appended.Goals.{then-asked, else-asked}

-- whether there is room, as the contract has it
room : (c : goal.After-pick-2) → c.if-asked.room ≡ (c.args.asked and leb (c.args.t.packets + c.args.t.waits) 7)
room c =
    elim c.if-asked.branch [
      | then-asked w ↦ and-on _ _ _ w.if-asked.true (w.room-is ∙ w.uses_at_most-room.ensures)
      | else-asked w ↦ first_fails _ _ _ w.if-asked.false w.room-is
    ]

pub returns : goal.returns
unfolding wait_of
returns c =
    let t = c.args.t in
    let n = c.end_number in
    let x : Place = record { key = c.args.key; mask = c.args.mask; observed = 0; end = n.result } in
    appended_few c.args.asked t x c.if-asked.room c.used_within.result
    c.pick.result
    c.pick-2.result c.with_place-out.result (table_128 t _ c.well_formed.0)
    (room c)
    c.used_within.ensures c.pick.ensures c.pick-2.ensures c.with_place-out.ensures
    ∙ ap
    (λ (e : ℕ). pick (c.args.asked and at_most_seven_used t) (appended_of (record { key = c.args.key; mask = c.args.mask; observed = 0; end = e }) t) t)
    n.ensures
