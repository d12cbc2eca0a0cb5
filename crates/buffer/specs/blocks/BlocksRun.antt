-- What a program leaves: the function that runs a whole script, from the header to the end of the input. 01 "Script program".
use Rattle.std.specs.Prelude.{ℕ, ◌≤◌, ◌+◌, ◌<◌, ◌≡◌, List, [], ◌++◌, Bool, true, false, length, take, drop}
use Rattle.buffer.specs.declared.buffer.Progress.{Progress}
use Rattle.line.specs.line.LineDone.{LINE}
use Rattle.definition_script.specs.Call.{Rings, written_at}
use Rattle.definition_script.specs.Listing.{start_state, machine, start_machine, closing, header, listing}
use Rattle.buffer.specs.blocks.Drain.{Held, held, reads_on, ReadIn, Drained, drain_text}

-- what it asks for: 01 "Script program", memory, rings and tables are as a script finds them before its first record; a record, of at most 4107 bytes, has
-- room in the buffer, which has at most the 131072 bytes that `reads_on` leaves below LIMIT; and a line has room
pub record RunMay (memory : List ℕ) (z : Rings) (buffer out : List ℕ) : Type 0 where
  pub starts : machine start_state memory z ≡ start_machine
  pub least : 4107 ≤ length buffer
  pub most : length buffer ≤ 131072
  pub room : LINE ≤ length out

-- nothing has been read
abbrev pub first_progress : Progress
first_progress = record { state = start_state; offset = 0; used = 0; written = 0 }

-- once a read has left the buffer so, with so many bytes more in use
abbrev pub read_more : (got : ℕ) → (buffer : List ℕ) → Held → Held
read_more got buffer x =
    held (record { state = x.at.state; offset = x.at.offset; used = x.at.used + got; written = x.at.written }) buffer x.memory x.lent x.out

-- whether the program reads on
abbrev pub reads_on_at : Held → Bool
reads_on_at x = reads_on x.at.state.ended x.at.offset

-- blocks, one after the other, each while the program reads on: a byte or more come behind those in use, as a read may leave them, and then all moves are
-- made that the bytes in use make
pub data Blocks (x : Held) : Held → Type 0 where
  none : Blocks x x
  more :
      {y z : Held} {buffer : List ℕ} {got : ℕ} → Blocks x y → reads_on_at y ≡ true → ReadIn y.at.used got y.buffer buffer → (got ≡ 0 → ⊥)
      → Drained (read_more got buffer y) z → Blocks x z

-- why no block follows, and what the buffer is then: the program does not read on, or no byte came where one had room, as a read may leave the buffer
pub data Stops (x : Held) : (buffer : List ℕ) → Type 0 where
  reads_no_more : reads_on_at x ≡ false → Stops x x.buffer
  input_ended : {buffer : List ℕ} → reads_on_at x ≡ true → x.at.used < length x.buffer → ReadIn x.at.used 0 x.buffer buffer → Stops x buffer

-- 01 "Script program", standard input: the bytes read, of each block those that stand behind the bytes in use in the buffer after its read
unfoldable pub input_read : {x y : Held} → Blocks x y → List ℕ
input_read none = []
input_read (more {y} {z} {buffer} {got} f g r n d) = input_read f ++ take got (drop y.at.used buffer)

-- the texts that draining the blocks makes
unfoldable pub blocks_text : {x y : Held} → Blocks x y → List ℕ
blocks_text none = []
blocks_text (more {y} {z} {buffer} {got} f g r n d) = blocks_text f ++ drain_text d

-- 01 "Script program", `stop N`: the text at the end of the input, where the buffer is this
abbrev pub end_text : Held → (buffer : List ℕ) → List ℕ
end_text x buffer = closing x.at.offset x.at.state.ended (take x.at.used buffer)

-- the header is made, then blocks come and are fed, then the text at the end of the input is made. This settles memory, rings, tables, the bytes in use and
-- the output block by block; behind the bytes in use the buffer is as the reads and the moves to the front left it.
-- listed: the header, the texts that the calls of `advance` leave at the front of the output, and the end, one behind the other, are the listing of the
-- bytes read. That each was written, once and in this order, stands in the code alone, and which bytes a read gives, or that one was made, cannot be said:
-- the contracts of the operating system's `read` and `write` say nothing of it
pub record RunDone (memory : List ℕ) (z : Rings) (buffer out memory' : List ℕ) (z' : Rings) (buffer' out' : List ℕ) : Type 0 where
  pub last : Held
  pub blocks : Blocks (held first_progress buffer memory z (written_at 0 header out)) last
  pub stops : Stops last buffer'
  pub user : memory' ≡ last.memory
  pub lent : z' ≡ last.lent
  pub text : out' ≡ written_at 0 (end_text last buffer') last.out
  pub listed : header ++ (blocks_text blocks ++ end_text last buffer') ≡ listing (input_read blocks)
