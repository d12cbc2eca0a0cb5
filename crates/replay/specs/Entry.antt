-- The stored entries: where they lie in the input, and whether a stored listing agrees with that of its script. Of 01 it uses the listing of "Script
-- program" alone.
use Rattle.std.specs.Prelude.{ℕ, ◌+◌, ◌≤◌, ◌<◌, ◌-◌, List, ◌≡◌, length, take, drop, get_or, Option}
use Rattle.std.specs.declared.option.Option.TheVariants.{None, Some}
use Rattle.std.specs.declared.result.Result.TheVariants.{Ok, Err}
use Rattle.replay.specs.declared.entry.Entry.{Entry}
use Rattle.report.specs.declared.tally.Miss.TheVariants.{DiffersAt, NoRoom}
use Rattle.report.specs.tally.Count.{Comparison}
use Rattle.definition_script.specs.Record.{four}
use Rattle.definition_script.specs.Listing.{listing, start_machine}
use Rattle.line.specs.line.LineDone.{LINE}
use Rattle.listing.specs.listing.Ran.{ran_text}
use Rattle.definition_script.specs.Call.{written_at}

-- where a field ends that begins at a place: four bytes with its length, and so many bytes
abbrev pub field_end : List ℕ → ℕ → ℕ
field_end s at = at + 4 + four s at

-- a field is cut where its end lies past the input
abbrev pub FieldAt : List ℕ → ℕ → Option ℕ → Type 0
FieldAt s at (Some e) = (e ≡ field_end s at) × (e ≤ length s)
FieldAt s at None = length s < field_end s at

-- a script and its listing are two fields, one behind the other
pub record ScriptIn (s : List ℕ) (at script_end end : ℕ) : Type 0 where
  pub script : script_end ≡ field_end s at
  pub stored : end ≡ field_end s script_end
  pub within : end ≤ length s

-- an entry is a field with its name, and behind it its script and its listing
pub record EntryIn (s : List ℕ) (at nameEnd script_end end : ℕ) : Type 0 where
  pub name : nameEnd ≡ field_end s at
  pub behind : ScriptIn s nameEnd script_end end

-- where the third field ends that begins at a place
abbrev pub entry_end : List ℕ → ℕ → ℕ
entry_end s at = field_end s (field_end s (field_end s at))

-- an entry is cut where its third field ends past the input
abbrev pub EntryAt : List ℕ → ℕ → Option Entry → Type 0
EntryAt s at (Some e) = EntryIn s at e.name_end e.script_end e.end
EntryAt s at None = length s < entry_end s at

-- the bytes of a field that begins at a place and ends at another
abbrev pub entry_bytes : List ℕ → (at end : ℕ) → List ℕ
entry_bytes s at end = take (end - (at + 4)) (drop (at + 4) s)

-- two lists are equal before a place, where both have an element and the elements differ, or just one of the lists ends
pub record FirstDifference (a b : List ℕ) (i : ℕ) : Type 0 where
  pub before : (k : ℕ) → k < i → get_or a k 0 ≡ get_or b k 0
  pub in_one : i ≤ length a
  pub in_other : i ≤ length b
  pub differs : i < length a → i < length b → get_or a i 0 ≡ get_or b i 0 → ⊥
  pub one_goes_on : i ≡ length a → i ≡ length b → ⊥

-- two lists are equal, or first differ at a place
abbrev pub Compares : (a b : List ℕ) → Option ℕ → Type 0
Compares a b None = a ≡ b
Compares a b (Some i) = FirstDifference a b i

-- the stored listing is that of the script, which begins at a place
abbrev pub Agreed : List ℕ → (at script_end end : ℕ) → Type 0
Agreed s at script_end end = listing (entry_bytes s at script_end) ≡ entry_bytes s script_end end

-- how many bytes the text of a script takes that begins at a place, with room for one more line behind it
abbrev pub room_for : (room : ℕ) → List ℕ → (at script_end : ℕ) → ℕ
room_for room s at script_end = length (ran_text room start_machine (entry_bytes s at script_end)) + LINE

-- what a comparison says: that the stored listing is right, or where it first differs, or that another line might not have fit into so much room. Just
-- one comparison is so of an entry (`one-comparison` in proofs/)
abbrev pub Agreement : (room : ℕ) → List ℕ → (at script_end end : ℕ) → Comparison → Type 0
Agreement room s at script_end end (Ok _) = Agreed s at script_end end × (room_for room s at script_end ≤ room)
Agreement room s at script_end end (Err (DiffersAt i)) =
    FirstDifference (listing (entry_bytes s at script_end)) (entry_bytes s script_end end) i × (room_for room s at script_end ≤ room)
Agreement room s at script_end end (Err NoRoom) = room < room_for room s at script_end

-- a script is run: its comparison, and its text at the front of the buffer
pub record EntryRun (s : List ℕ) (at script_end end : ℕ) (out out' : List ℕ) (r : Comparison) : Type 0 where
  pub comparison : Agreement (length out) s at script_end end r
  pub text : out' ≡ written_at 0 (ran_text (length out) start_machine (entry_bytes s at script_end)) out
