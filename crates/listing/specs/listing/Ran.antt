-- What the function says that runs a script into a buffer. 01 "Script program".
use Rattle.std.specs.Prelude.{ℕ, ◌-◌, ◌+◌, ◌≤◌, List, [], ◌++◌, ◌≡◌, leb, length, drop, take}
use Rattle.definition.specs.Status.{pick}
use Rattle.definition_script.specs.Listing.{closing, Machine, header, run}
use Rattle.feed.specs.Feed.{Block, fed_of}
use Rattle.definition_script.specs.Call.{Rings, written_at}
use Rattle.line.specs.line.LineDone.{LINE}
use Rattle.feed.specs.Turn.{LIMIT}

-- a text is put where k bytes have room, else none is
unfoldable pub if_room : (k room : ℕ) → (text : List ℕ) → List ℕ
if_room k room text = pick (leb k room) text []

-- what comes behind the header: a block, and the end of the input
unfoldable pub lines_text : (room : ℕ) → List ℕ → Block → List ℕ
lines_text room s b = b.text ++ if_room 26 (room - length b.text) (closing b.taken b.after.state.ended (drop b.taken s))

-- what is put out of a script where so many bytes have room: 01 "Script program", the header, then what the records put out
unfoldable pub ran_text : (room : ℕ) → Machine → List ℕ → List ℕ
ran_text room m s =
    let h = if_room 22 room header in
    h ++ lines_text (room - length h) s (fed_of 0 (room - length h) m s)

-- the machine after it
unfoldable pub ran_machine : (room : ℕ) → Machine → List ℕ → Machine
ran_machine room m s = (fed_of 0 (room - length (if_room 22 room header)) m s).after

-- memory, rings and tables are those of the machine after it
pub record RanLent (room : ℕ) (m : Machine) (s memory' : List ℕ) (z' : Rings) : Type 0 where
  pub memory : memory' ≡ (ran_machine room m s).memory
  pub lent : z' ≡ (ran_machine room m s).lent

-- the text stands at the front of the buffer, and behind it the buffer is as it was. It is the listing where room for one more line is left
pub record Ran (m : Machine) (s : List ℕ) (r : ℕ) (out out' : List ℕ) : Type 0 where
  pub fits : r ≤ length out'
  pub next : r ≡ length (ran_text (length out) m s)
  pub text : out' ≡ written_at 0 (ran_text (length out) m s) out
  pub whole : length s ≤ LIMIT → r + LINE ≤ length out' → take r out' ≡ header ++ run 0 m s
