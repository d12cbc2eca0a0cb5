-- What a write and a read over user memory both rest on: the length of a part of memory, and what a lookup that passed tells. Assumes nothing.
use Prim.Native.Nat.{ℕ, ◌+◌, ◌≤◌}
use mathlib.Core.Path.{◌≡◌}
use mathlib.Core.Bool.{true}
use mathlib.Core.List.{List}
use native.Mathlib.Omega.{arith}
use lib.ListN.{length, take, drop, length-take, length-drop}
use Rattle.definition.specs.declared.Ends.{Ends}
use Rattle.definition.specs.Memory.{lookup}
use Rattle.definition.specs.Status.{is_done}
use Rattle.definition.specs.Tests.{handle_test}
use Rattle.endpoint.proofs.answer.Chains.{then_both}

-- a part of memory of n bytes
pub part_length : (memory : List ℕ) (at n : ℕ) → at + n ≤ length memory → length (take n (drop at memory)) ≡ n
part_length memory at n room = simp (length-take, length-drop) (omega arith)

-- a lookup that passed: the handle is open, and the rest is what the call without user memory asks
pub handle_passed : (e : Ends) (h right : ℕ) → is_done (lookup e h right) ≡ true → is_done (handle_test e h) ≡ true
unfolding lookup
handle_passed e h right d = (then_both _ _ d).0
