-- What the functions say that feed a block of a script, and what a block does. The listing is defined in crates/definition_script/specs/Listing.
use Rattle.std.specs.Prelude.{ℕ, ◌+◌, ◌-◌, zero, suc, ◌≤◌, Bool, List, [], ◌++◌, ◌≡◌, leb, length, drop}
use Rattle.definition_script.specs.declared.ScriptState.{ScriptState}
use Rattle.feed.specs.declared.Fed.{Fed}
use Rattle.definition.specs.Status.{◌and◌, pick}
use Rattle.feed.specs.Turn.{LIMIT, machine_after}
use Rattle.definition_script.specs.Listing.{Machine, Move, stay, halt, go, move_of, machine}
use Rattle.definition_script.specs.Line.{stop_of}
use Rattle.line.specs.line.LineDone.{LINE}
use Rattle.definition_script.specs.Call.{written_at, Rings}

-- whether a block can be fed: the numbers are far from 2 ^ 64, and memory is such that no line is longer than LINE
unfoldable pub is_ready : ScriptState → (offset input memory : ℕ) → Bool
is_ready st offset input memory = leb st.number LIMIT and leb offset LIMIT and leb input LIMIT and leb memory 4096

-- ---- what a block does

-- the machine after it, how many bytes it takes, and the text that it puts out
pub record Block : Type 0 where
  pub after : Machine
  pub taken : ℕ
  pub text : List ℕ

-- nothing is taken and nothing put out
abbrev pub no_block : Machine → Block
no_block m = record { after = m; taken = 0; text = [] }

-- n bytes and a text, and then a block
abbrev pub behind : ℕ → List ℕ → Block → Block
behind n l b = record { after = b.after; taken = n + b.taken; text = l ++ b.text }

-- 01 "Script program": one move, and then what f gives of the rest. A record that is cut waits for more; one that is wrong stops the script
unfoldable pub fed_move : (f : ℕ → ℕ → Machine → List ℕ → Block) → (offset room : ℕ) → Machine → List ℕ → Move → Block
fed_move f offset room m s stay = no_block m
fed_move f offset room m s halt = record { after = machine_after m halt; taken = 0; text = stop_of offset }
fed_move f offset room m s (go m' l n) = behind n l (f (offset + n) (room - length l) m' (drop n s))

-- at most k moves, each only where `need` bytes have room
unfoldable pub fed_by : (need k offset room : ℕ) → Machine → List ℕ → Block
fed_by need zero offset room m s = no_block m
fed_by need (suc k) offset room m s = pick (leb need room) (fed_move (fed_by need k) offset room m s (move_of m s)) (no_block m)

-- a move takes a byte at least, so that this many are enough
unfoldable pub fed_from : (need offset room : ℕ) → Machine → List ℕ → Block
fed_from need offset room m s = fed_by need (suc (length s)) offset room m s

-- what a block does for whose text so many bytes have room: moves as long as a whole line has room. A block that cannot be fed is left whole
unfoldable pub fed_of : (offset room : ℕ) → Machine → List ℕ → Block
fed_of offset room m s = pick (is_ready m.state offset (length s) (length m.memory)) (fed_from LINE offset room m s) (no_block m)

-- what all moves do that the bytes make, whatever room their text has
unfoldable pub all_of : (offset : ℕ) → Machine → List ℕ → Block
all_of offset m s = fed_from 0 offset 0 m s

-- ---- what the functions say

-- b was done: the state and all that is lent are those after it, its text stands at the front of `out`, and `out` is as it was behind the text
pub record BlockDone (b : Block) (memory' : List ℕ) (z' : Rings) (out out' : List ℕ) (r : Fed) : Type 0 where
  pub after : machine r.state memory' z' ≡ b.after
  pub taken : r.taken ≡ b.taken
  pub written : r.written ≡ length b.text
  pub text : out' ≡ written_at 0 b.text out

-- a block is fed; what is taken lies in the input, and the text in the output
pub record FeedDone (st : ScriptState) (offset : ℕ) (input memory memory' : List ℕ) (z z' : Rings) (out out' : List ℕ) (r : Fed) : Type 0 where
  pub block : BlockDone (fed_of offset (length out) (machine st memory z) input) memory' z' out out' r
  pub within : r.taken ≤ length input
  pub fits : r.written ≤ length out'
