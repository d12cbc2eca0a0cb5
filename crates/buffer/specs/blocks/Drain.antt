-- When the program reads on, what the function says that reads, and the one that feeds the bytes in the buffer until no move is left; the texts that this
-- makes.
-- 01 "Script program": standard input is read to its end, or until the script ends with `stop N` or a refused create.
use Rattle.std.specs.Prelude.{ℕ, ◌-◌, ◌+◌, ◌≤◌, Bool, false, ◌≡◌, List, [], ◌++◌, ltb, length, take, drop}
use Rattle.buffer.specs.declared.buffer.Progress.{Progress}
use Rattle.definition.specs.Status.{pick}
use Rattle.feed.specs.Turn.{LIMIT}
use Rattle.definition_script.specs.Call.{Rings}
use Rattle.line.specs.line.LineDone.{LINE}
use Rattle.definition_script.specs.Listing.{Machine, machine}
use Rattle.feed.specs.Feed.{Block, all_of}
use Rattle.buffer.specs.buffer.Buffer.{front_of, Advanced}

-- whether the program reads on. Not once the script has ended (01 "Script program"), nor where one more buffer might take the bytes to LIMIT or above, of
-- which 01 says nothing
unfoldable pub reads_on : (ended : Bool) → (offset : ℕ) → Bool
reads_on ended offset = pick ended false (ltb offset (LIMIT - 131072))

-- ---- reading

-- after a read behind the bytes in use: so many bytes more are in use, those before them stay as they were, and so does the buffer's length. Which bytes
-- stand behind them cannot be said: the contract of the operating system's `read` says nothing of them
pub record ReadIn (used got : ℕ) (buffer buffer' : List ℕ) : Type 0 where
  pub within : used + got ≤ length buffer
  pub size : length buffer' ≡ length buffer
  pub front : take used buffer' ≡ take used buffer

-- ---- feeding

-- where a script stands, and all that the program lends
pub record Held : Type 0 where
  pub at : Progress
  pub buffer : List ℕ
  pub memory : List ℕ
  pub lent : Rings
  pub out : List ℕ

-- the five together
abbrev pub held : Progress → (buffer memory : List ℕ) → Rings → (out : List ℕ) → Held
held p buffer memory z out = record { at = p; buffer = buffer; memory = memory; lent = z; out = out }

-- what draining asks for: the bytes in use stand in the buffer, no number is above LIMIT, memory is such that no line is longer than LINE, and a line has
-- room
pub record DrainMay (p : Progress) (buffer memory out : List ℕ) : Type 0 where
  pub used : p.used ≤ length buffer
  pub count : p.state.number ≤ p.offset
  pub total : p.offset + p.used ≤ LIMIT
  pub size : length memory ≤ 4096
  pub room : LINE ≤ length out

-- the machine that the script drives
abbrev pub machine_of : Held → Machine
machine_of x = machine x.at.state x.memory x.lent

-- the bytes in use: they were read, and are not done with
abbrev pub in_use : Held → List ℕ
in_use x = take x.at.used x.buffer

-- all moves that the bytes in use make
abbrev pub moves_of : Held → Block
moves_of x = all_of x.at.offset (machine_of x) (in_use x)

-- one call of `advance`
abbrev pub Advance : (x y : Held) → Type 0
Advance x y =
    Advanced (front_of x.at (length x.out) x.buffer x.memory x.lent) x.at x.buffer y.buffer y.memory y.lent x.out y.out
    y.at

-- calls of `advance`, one after the other, each of which takes bytes
pub data Advances (x : Held) : Held → Type 0 where
  none : Advances x x
  more : {y z : Held} → Advances x y → Advance y z → (z.at.used ≡ y.at.used → ⊥) → Advances x z

-- y is what calls of `advance` leave, up to the first that takes nothing: this settles the state and every lent slice, byte for byte. So all moves were
-- made that the bytes in use make; the bytes that they left stand at the front, and those that they took are counted. That a text was written to
-- standard output cannot be said: the contract of the operating system's `write` says nothing of it
pub record Drained (x y : Held) : Type 0 where
  pub calls : (w : Held) × Advances x w × Advance w y × (y.at.used ≡ w.at.used)
  pub after : machine_of y ≡ (moves_of x).after
  pub offset : y.at.offset ≡ x.at.offset + (moves_of x).taken
  pub left : in_use y ≡ drop (moves_of x).taken (in_use x)
  pub used : y.at.offset + y.at.used ≡ x.at.offset + x.at.used
  pub within : y.at.used ≤ x.at.used
  pub count : y.at.state.number ≤ y.at.offset

-- ---- the texts that the program makes, each at the front of the output

-- 01 "Script program", line and `stop N`: the text of the call of `advance` that left y, at the front of the output
abbrev pub call_text : Held → List ℕ
call_text y = take y.at.written y.out

-- the text of calls of `advance`, one behind the other
unfoldable pub advances_text : {x y : Held} → Advances x y → List ℕ
advances_text none = []
advances_text (more {y} {z} f d n) = advances_text f ++ call_text z

-- the text of a drain: that of the calls that take bytes, then that of the last one
unfoldable pub drain_text : {x y : Held} → Drained x y → List ℕ
drain_text {x} {y} d = advances_text d.calls.1 ++ call_text y
