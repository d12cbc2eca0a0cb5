-- What the functions say that are lent memory, and the ring and the table of each end.
use Rattle.std.specs.Prelude.{ℕ, ◌≡◌, List, length}
use Rattle.std.specs.Borrow.{MutBor}
use Rattle.script_call.specs.declared.lent.Lent.{Lent}
use Rattle.definition_script.specs.declared.ScriptState.{ScriptState}
use Rattle.definition_script.specs.Call.{Rings, rings}
use Rattle.definition_script.specs.Listing.{Machine, machine}

-- the rings and the tables
abbrev pub lent_rings : Lent → Rings
lent_rings l = rings l.ring_one.now l.table_one.now l.ring_two.now l.table_two.now

-- the machine that a script drives which stands so
abbrev pub machine_with : ScriptState → Lent → Machine
machine_with st l = machine st l.memory.now (lent_rings l)

-- the same slice, as long as before
pub record SameSlice (s s' : MutBor (List ℕ)) : Type 0 where
  pub name : s'.ghost_name ≡ s.ghost_name
  pub size : length s'.now ≡ length s.now

-- what is lent stays the same slices, as long as before
pub record SameLent (l l' : Lent) : Type 0 where
  pub memory : SameSlice l.memory l'.memory
  pub ring_one : SameSlice l.ring_one l'.ring_one
  pub table_one : SameSlice l.table_one l'.table_one
  pub ring_two : SameSlice l.ring_two l'.ring_two
  pub table_two : SameSlice l.table_two l'.table_two
