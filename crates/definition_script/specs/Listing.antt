-- The listing of a script, from bytes to bytes. 01 "Script program".
use Rattle.std.specs.Prelude.{ℕ, ◌+◌, zero, suc, false, true, Bool, List, [], ◌∷◌, ◌++◌, replicate, take, drop, length}
use Rattle.definition_script.specs.declared.ScriptState.{ScriptState}
use Rattle.definition_script.specs.declared.Decoded.{Decoded}
use Rattle.definition_script.specs.declared.Decoded.TheVariants.{Whole, Bad, Cut}
use Rattle.definition.specs.Create.{no_pair}
use Rattle.definition_script.specs.Call.{Rings, rings, Called, after_count, call_of, delivered}
use Rattle.definition_script.specs.Record.{is_last, is_misplaced, record_of}
use Rattle.definition.specs.Pair.{shown_by}
use Rattle.definition_script.specs.Line.{line_of, stop_of}
use Rattle.definition.specs.Status.{pick}

-- ---- where a script stands

-- no pair is made, and no record has been run
unfoldable pub start_state : ScriptState
start_state = record { pair = no_pair; number = 0; ended = false }

-- the program's state, and the memory, rings and tables that it lends. The byte offset is no part of it: only the line that stops a script shows it.
pub record Machine : Type 0 where
  pub state : ScriptState
  pub memory : List ℕ
  pub lent : Rings

-- the three together
abbrev pub machine : ScriptState → (memory : List ℕ) → Rings → Machine
machine st memory z = record { state = st; memory = memory; lent = z }

-- 01 "Script program": rings and tables have 4096 entries, memory 4096 bytes, all 0
abbrev pub zeros : List ℕ
zeros = replicate 4096 0

-- what a script finds before its first record
unfoldable pub start_machine : Machine
start_machine = machine start_state zeros (rings zeros zeros zeros zeros)

-- after a call: its pair, one record more, and whether the script ends with it
unfoldable pub stepped_state : ScriptState → (tag : ℕ) → Called → ScriptState
stepped_state st tag d = record { pair = d.step.pair; number = st.number + 1; ended = is_last tag d.step.answer }

-- 01 "Script program", tag and body: the machine after a record; the count of a read lands last
unfoldable pub stepped : Machine → (tag : ℕ) → (body : List ℕ) → Machine
stepped m tag b =
    let d = call_of m.memory m.lent m.state.pair tag b in
    machine (stepped_state m.state tag d) (after_count tag b d.step.answer d.memory) d.lent

-- 01 "Script program", line: a record's number, its answer, both signal words, and the bytes delivered as before the count landed
unfoldable pub called_line : (number tag : ℕ) → (body : List ℕ) → Called → List ℕ
called_line number tag b d =
    line_of number d.step.answer (shown_by d.step.pair 1) (shown_by d.step.pair 2) (delivered tag b d.step.answer d.memory)

-- the line of the call that a record makes
unfoldable pub step_line : Machine → (tag : ℕ) → (body : List ℕ) → List ℕ
step_line m tag b = called_line m.state.number tag b (call_of m.memory m.lent m.state.pair tag b)

-- 01 "Script program": a script that stops has ended, and all else is as it was
unfoldable pub stopped_state : ScriptState → ScriptState
stopped_state st = record { pair = st.pair; number = st.number; ended = true }

-- what the bytes at hand make the machine do: nothing, where the record may be cut or the script has ended; stop; or go on, with a line, past so many bytes
pub data Move : Type 0 where
  stay : Move
  halt : Move
  go : Machine → List ℕ → ℕ → Move

-- 01 "Script program": by what the bytes begin with. A misplaced record stops the script as a bad one does; tag and length are 3 bytes
unfoldable pub move_by : Machine → List ℕ → Decoded → Move
move_by m s Cut = stay
move_by m s Bad = halt
move_by m s (Whole tag n) =
    pick (is_misplaced tag m.state.number) halt (go (stepped m tag (take n (drop 3 s))) (step_line m tag (take n (drop 3 s))) (3 + n))

-- a script that has ended makes no move
unfoldable pub move_of : Machine → List ℕ → Move
move_of m s = pick m.state.ended stay (move_by m s (record_of s))

-- ---- the whole script

-- 01 "Script program", `stop N`: what is put out at the end of the input. A record that is cut stops the script. offset is the number of bytes before those left
unfoldable pub closing : (offset : ℕ) → (ended : Bool) → (left : List ℕ) → List ℕ
closing offset ended [] = []
closing offset ended (b ∷ s) = pick ended [] (stop_of offset)

-- 01 "Script program": what one move puts out, and then what f gives of the rest
unfoldable pub run_move : (f : ℕ → Machine → List ℕ → List ℕ) → (offset : ℕ) → Machine → List ℕ → Move → List ℕ
run_move f offset m s stay = closing offset m.state.ended s
run_move f offset m s halt = stop_of offset
run_move f offset m s (go m' l n) = l ++ f (offset + n) m' (drop n s)

-- what at most k moves put out
unfoldable pub run_by : (k offset : ℕ) → Machine → List ℕ → List ℕ
run_by zero offset m s = []
run_by (suc k) offset m s = run_move (run_by k) offset m s (move_of m s)

-- what all moves put out: a move takes a byte at least, so that this many are enough
unfoldable pub run : (offset : ℕ) → Machine → List ℕ → List ℕ
run offset m s = run_by (suc (length s)) offset m s

-- 01 "Script program": the line `record word end1 end2`
unfoldable pub header : List ℕ
header = 114 ∷ 101 ∷ 99 ∷ 111 ∷ 114 ∷ 100 ∷ 32 ∷ 119 ∷ 111 ∷ 114 ∷ 100 ∷ 32 ∷ 101 ∷ 110 ∷ 100 ∷ 49 ∷ 32 ∷ 101 ∷ 110 ∷ 100 ∷ 50 ∷ 10 ∷ []

-- 01 "Script program": the header line, then what the records put out
unfoldable pub listing : List ℕ → List ℕ
listing s = header ++ run 0 start_machine s
