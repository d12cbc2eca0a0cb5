use lib.ListN.{length, take}
use mathlib.Core.Path.{◌≡◌}
use Rattle.definition_script.specs.Line.{hex_bytes_of}
use Rattle.definition_script.specs.Call.{written_at}
use Rattle.text.proofs.put_hex_bytes.Given as goal

abbrev pub invariant-loop-i : goal.invariant-loop-i
invariant-loop-i l = (length l.out ≡ length l.initial.out) × (l.out ≡ written_at l.at (hex_bytes_of (take l.i l.src)) l.initial.out)
