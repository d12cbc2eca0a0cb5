-- What a program leaves: the functions that feed a script from a buffer. 01 "Script program".
use Rattle.std.specs.Prelude.{ℕ, ◌+◌, ◌-◌, ◌≤◌, List, ◌≡◌, length, take, leb}
use Rattle.buffer.specs.declared.buffer.Progress.{Progress}
use Rattle.definition.specs.Status.{pick}
use Rattle.definition_script.specs.Call.{Rings, written_at}
use Rattle.definition_script.specs.Listing.{machine}
use Rattle.feed.specs.Feed.{Block, no_block, fed_of}
use Rattle.buffer.specs.shift.Shift.{shifted}

-- what the bytes in use do that stand at the front of a buffer; a buffer that is shorter does nothing
unfoldable pub front_of : Progress → (room : ℕ) → (buffer memory : List ℕ) → Rings → Block
front_of p room buffer memory z =
    let m = machine p.state memory z in
    pick (leb p.used (length buffer)) (fed_of p.offset room m (take p.used buffer)) (no_block m)

-- b was done with the bytes in use: those that it did not take stand at the front, and those that it took are counted
pub record Advanced (b : Block) (p : Progress) (buffer buffer' memory' : List ℕ) (z' : Rings) (out out' : List ℕ) (r : Progress) : Type 0 where
  pub after : machine r.state memory' z' ≡ b.after
  pub offset : r.offset ≡ p.offset + b.taken
  pub used : r.used ≡ p.used - b.taken
  pub left : buffer' ≡ shifted b.taken p.used buffer
  pub written : r.written ≡ length b.text
  pub text : out' ≡ written_at 0 b.text out
  pub within : r.used ≤ p.used
  pub fits : r.written ≤ length out'
