-- Every call, by handles 1, 2 and 3, and whether it is INTERNAL on a state. 01 "Status and answer word".
use Rattle.std.specs.Prelude.{ℕ, true, false, Bool, List, [], ◌∷◌, map, ◌++◌, eqb}
use Rattle.definition.specs.Status.{Answer}
use Rattle.std.specs.declared.result.Result.TheVariants.{Ok, Err}
use Rattle.definition.specs.Calls.{set_disposition, shutdown, plain_disposition, plain_shutdown, set_read_threshold, set_write_threshold, get_thresholds, get_info, wait, Call, write, read, plain_write, plain_read, close, control, take_packet, cancel, State, answer_of}
use Rattle.definition.specs.Status.{status_number}
use Rattle.definition.specs.cases.Lines.{word_answered}
use Rattle.definition.specs.cases.States.{finding}

-- by one handle; most have more wrong with them, which is tested later
abbrev pub calls_by : (h : ℕ) → List Call
calls_by h =
    write h 1 0 1 1 ∷ write h 0 4096 3 0 ∷ read h 1 0 1 1 ∷ read h 0 4096 3 0 ∷ read h 8 4096 3 0
    ∷ plain_write h ∷ plain_read h false ∷ plain_read h true ∷ close h
    ∷ map control
    (set_disposition h 3 3 ∷ shutdown h 0 ∷ plain_disposition h 3 3 ∷ plain_shutdown h true true ∷ set_read_threshold h 9
    ∷ set_write_threshold h 9 ∷ get_thresholds h ∷ get_info h ∷ wait h 0 0 2 ∷ cancel h 0 ∷ [])

unfoldable pub every_call : List Call
every_call = calls_by 1 ++ calls_by 2 ++ calls_by 3 ++ (control take_packet ∷ [])

abbrev pub is_internal : Answer → Bool
is_internal (Ok d) = false
is_internal (Err e) = eqb (status_number e) 1

-- whether each call on a state is INTERNAL
unfoldable pub internal : State → List Bool
unfolding word_answered every_call
internal s = map (λ (c : Call). is_internal (answer_of s (finding c))) every_call
