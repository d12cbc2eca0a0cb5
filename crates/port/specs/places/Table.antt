-- How the code goes: tables of which no place is used, or one alone.
use Rattle.std.specs.Prelude.{Bool, eqb}
use Rattle.definition.specs.declared.Places.{Places}
use Rattle.definition.specs.Status.{◌and◌}

-- ---- the table and its three parts

-- whether no place is used
unfoldable pub unused : Places → Bool
unused t = eqb t.packets 0 and eqb t.waits 0

-- whether the only place used is a wait
unfoldable pub only_wait : Places → Bool
only_wait t = eqb t.packets 0 and eqb t.waits 1

-- whether the only place used is a packet
unfoldable pub only_packet : Places → Bool
only_packet t = eqb t.packets 1 and eqb t.waits 0
