-- What the functions say that make a call of a record over memory. The calls are defined in crates/definition_script/specs/Call.
use Rattle.std.specs.Prelude.{ℕ, ◌≡◌, List}
use Rattle.definition.specs.declared.Step.{Step}
use Rattle.definition_script.specs.Call.{Rings, Called}

-- what a function says that makes a call
pub record CallDone (d : Called) (memory' : List ℕ) (z' : Rings) (r : Step) : Type 0 where
  pub step : r ≡ d.step
  pub memory : memory' ≡ d.memory
  pub lent : z' ≡ d.lent
