-- What the function says that fills memory. The fill is defined in crates/definition_script/specs/Call.
use Rattle.std.specs.Prelude.{ℕ, ◌≡◌, true, false, List, length, drop}
use Rattle.definition.specs.declared.Status.TheVariants.{InvalidArgs}
use Rattle.definition.specs.Status.{Answer}
use Rattle.std.specs.declared.result.Result.TheVariants.{Err}
use Rattle.definition_script.specs.Record.{eight, is_body}
use Rattle.definition_script.specs.Call.{fill_answer, filled}

-- a body that is right for a fill, tag 11, has an address and then the bytes; with any other body nothing changes
pub record FillMade (memory b memory' : List ℕ) (r : Answer) : Type 0 where
  pub made : is_body 11 (length b) ≡ true → (r ≡ fill_answer (length memory) (eight b 0) (length (drop 8 b))) × (memory' ≡ filled (eight b 0) (drop 8 b) memory)
  pub none : is_body 11 (length b) ≡ false → (r ≡ Err InvalidArgs) × (memory' ≡ memory)
