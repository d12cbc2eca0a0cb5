-- What the function says that makes the call of a record. The call is defined in crates/definition_script/specs/Call.
use Rattle.std.specs.Prelude.{ℕ, ◌≡◌, true, false, List, length}
use Rattle.definition.specs.declared.Status.TheVariants.{InvalidArgs}
use Rattle.std.specs.declared.result.Result.TheVariants.{Err}
use Rattle.definition.specs.declared.Pair.{Pair}
use Rattle.definition.specs.declared.Step.{Step}
use Rattle.definition_script.specs.Record.{is_body}
use Rattle.definition_script.specs.Call.{Rings, call_of}
use Rattle.script_call.specs.call.CallDone.{CallDone}

-- a body that is right for its tag makes the call; with any other body none is made, and nothing changes
pub record CallMade (memory : List ℕ) (z : Rings) (p : Pair) (tag : ℕ) (b memory' : List ℕ) (z' : Rings) (r : Step) : Type 0 where
  pub made : is_body tag (length b) ≡ true → CallDone (call_of memory z p tag b) memory' z' r
  pub none : is_body tag (length b) ≡ false → (r ≡ record { pair = p; answer = Err InvalidArgs }) × (memory' ≡ memory) × (z' ≡ z)
