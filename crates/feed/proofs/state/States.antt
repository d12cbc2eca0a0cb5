-- A state is its three parts. Assumes nothing.
use Prim.Native.Nat.{ℕ}
use mathlib.Core.Bool.{Bool}
use Rattle.definition.specs.declared.Pair.{Pair}
use Rattle.definition_script.specs.declared.ScriptState.{ScriptState}

abbrev pub mk_state : Pair → ℕ → Bool → ScriptState
mk_state p number ended = record { pair = p; number = number; ended = ended }
