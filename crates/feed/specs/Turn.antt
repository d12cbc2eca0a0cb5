-- What the functions say that make one move of the machine, which crates/definition_script/specs/Listing defines.
use Rattle.std.specs.Prelude.{ℕ, ◌+◌, ◌≤◌, ◌≡◌, true, false, Bool, List, [], length}
use Rattle.definition_script.specs.declared.ScriptState.{ScriptState}
use Rattle.feed.specs.declared.turn.Turned.{Turned}
use Rattle.definition_script.specs.declared.Decoded.{Decoded}
use Rattle.definition_script.specs.declared.Decoded.TheVariants.{Whole, Bad, Cut}
use Rattle.definition_script.specs.Record.{is_body, is_misplaced, record_of}
use Rattle.text.specs.declared.Writer.{Writer}
use Rattle.text.specs.Puts.{Appends}
use Rattle.line.specs.line.LineDone.{LINE}
use Rattle.definition_script.specs.Call.{Rings}
use Rattle.definition_script.specs.Listing.{Machine, stepped, step_line, stopped_state, machine, Move, stay, halt, go}
use Rattle.definition_script.specs.Line.{stop_of}
use Rattle.definition.specs.Status.{pick}

-- the numbers that a block may begin with are a quarter of what 64 bits count, so that sums of two of them fit
abbrev pub LIMIT : ℕ
LIMIT = 4611686018427387904

-- ---- what the functions say

-- what a step asks for: a body that is right for its tag, so that a record is run and its line put out
pub record StepMay (st : ScriptState) (tag : ℕ) (b memory : List ℕ) : Type 0 where
  pub body : is_body tag (length b) ≡ true
  pub size : length memory ≤ 4096
  pub number : st.number ≤ LIMIT + LIMIT

-- a step: state, memory and what is lent are those after the record, and its line is put out
pub record StepDone (m : Machine) (tag : ℕ) (body : List ℕ) (memory' : List ℕ) (z' : Rings) (w w' : Writer) (r : ScriptState) : Type 0 where
  pub state : r ≡ (stepped m tag body).state
  pub memory : memory' ≡ (stepped m tag body).memory
  pub lent : z' ≡ (stepped m tag body).lent
  pub text : Appends LINE (step_line m tag body) w w'

-- the line that stops a script
pub record StopDone (st : ScriptState) (offset from : ℕ) (w w' : Writer) (r : Turned) : Type 0 where
  pub state : r.state ≡ stopped_state st
  pub next : r.from ≡ from
  pub more : r.more ≡ false
  pub text : Appends 26 (stop_of (offset + from)) w w'

-- 01 "Script program": a record out of its place is as bad as one of a wrong length
unfoldable pub placed : (number : ℕ) → Decoded → Decoded
placed number Cut = Cut
placed number Bad = Bad
placed number (Whole tag n) = pick (is_misplaced tag number) Bad (Whole tag n)

-- what bytes begin with: once the script has ended they wait as a record that is cut does
unfoldable pub next_of : (ended : Bool) → (number : ℕ) → List ℕ → Decoded
next_of ended number s = pick ended Cut (placed number (record_of s))

-- ---- by the move

-- the machine after it
unfoldable pub machine_after : Machine → Move → Machine
machine_after m stay = m
machine_after m halt = machine (stopped_state m.state) m.memory m.lent
machine_after m (go m' l n) = m'

-- the text that it puts out: the line of a record, or `stop N` with the offset of the tag
unfoldable pub text_of : (offset : ℕ) → Move → List ℕ
text_of offset stay = []
text_of offset halt = stop_of offset
text_of offset (go m l n) = l

-- how many bytes it takes
unfoldable pub taken_by : Move → ℕ
taken_by stay = 0
taken_by halt = 0
taken_by (go m l n) = n

-- whether another move may follow
unfoldable pub goes_on : Move → Bool
goes_on stay = false
goes_on halt = false
goes_on (go m l n) = true

-- what a turn asks for, at a place of the input: offset is the number of bytes before the input
pub record TurnMay (st : ScriptState) (o : ℕ) (s : List ℕ) (from : ℕ) (memory : List ℕ) : Type 0 where
  pub within : from ≤ length s
  pub input : length s ≤ LIMIT
  pub offset : o ≤ LIMIT
  pub size : length memory ≤ 4096
  pub number : st.number ≤ LIMIT + LIMIT

-- a turn: the move that the bytes make from a place of the input on
pub record TurnDone (m : Machine) (mv : Move) (offset from : ℕ) (memory' : List ℕ) (z' : Rings) (w w' : Writer) (r : Turned) : Type 0 where
  pub state : r.state ≡ (machine_after m mv).state
  pub memory : memory' ≡ (machine_after m mv).memory
  pub lent : z' ≡ (machine_after m mv).lent
  pub next : r.from ≡ from + taken_by mv
  pub more : r.more ≡ goes_on mv
  pub text : Appends LINE (text_of (offset + from) mv) w w'
