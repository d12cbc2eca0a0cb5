-- `replay_entry` meets its contract. A script is shorter than 2 ^ 32 bytes, as its length has four bytes.
use Prim.Native.Nat.{◌+◌, ◌-◌, ◌≤◌}
use native.Mathlib.Omega.{arith}
use mathlib.Core.Path.{◌≡◌, ◌∙◌}
use lib.ListN.{length, take, drop, length-take}
use Rattle.definition_script.specs.Listing.{listing}
use Rattle.feed.specs.Turn.{LIMIT}
use Rattle.replay.specs.Entry.{entry_bytes, room_for}
use Rattle.replay.proofs.Entries.{listing-is, agreed, differs}
use Rattle.replay.proofs.entry.replay_entry.Goals as goal
use Rattle.replay.proofs.entry.replay_entry.Goals.{After-first_difference}

-- the script was run with room for another line, and the text that is compared is its listing
module _ (c : After-first_difference) where
  roomy : room_for (length c.args.out.now) c.args.s.now c.args.entry.name_end c.args.entry.script_end ≤ length c.args.out.now
  roomy = let r = c.run_script-n in omega (arith, c.if-out-n-lt8254.false, r.ensures.next, r.ensures.fits, r.auto.out)

  short : length (entry_bytes c.args.s.now c.args.entry.name_end c.args.entry.script_end) ≤ LIMIT
  short =
      let s = c.args.s.now in
      let e = c.args.entry in
      let from = e.name_end + 4 in
      omega (arith, c.requires.script, length-take (e.script_end - from) (drop from s), c.type_inv.s e.name_end, c.type_inv.s (e.name_end + 1), c.type_inv.s (e.name_end + 2), c.type_inv.s (e.name_end + 3))

  whole : take c.run_script-n.result c.run_script-n.new.out ≡ listing (entry_bytes c.args.s.now c.args.entry.name_end c.args.entry.script_end)
  whole =
      let r = c.run_script-n in
      r.ensures.whole short (omega (arith, c.if-out-n-lt8254.false, r.ensures.fits)) ∙ listing-is (entry_bytes c.args.s.now c.args.entry.name_end c.args.entry.script_end)

pub returns-in-None : goal.returns-in-None
returns-in-None c =
    let e = c.args.entry in
    let ran = (goal.at.returns-in-None c).After-first_difference in
    record { comparison = agreed c.args.s.now e.name_end e.script_end e.end _ tt (roomy ran) (whole ran) c.in-None.ensures; text = c.run_script-n.ensures.text }

pub returns-in-Some : goal.returns-in-Some
returns-in-Some c =
    let e = c.args.entry in
    let ran = (goal.at.returns-in-Some c).After-first_difference in
    record { comparison = differs c.args.s.now e.name_end e.script_end e.end _ (roomy ran) (whole ran) c.in-Some.ensures; text = c.run_script-n.ensures.text }
