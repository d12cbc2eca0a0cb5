-- What is claimed of feeding: what it puts out is the listing, however the script is cut into blocks. 01 "Script program".
use Rattle.std.specs.Prelude.{ℕ, ◌+◌, ◌≤◌, ◌≡◌, drop, length, take}
use mathlib.Core.List.{List, ◌++◌, [], ◌∷◌, flatten}
use Rattle.definition_script.specs.declared.ScriptState.{ScriptState}
use Rattle.feed.specs.declared.Fed.{Fed}
use Rattle.definition_script.specs.Listing.{Machine, run, machine, stay, move_of, closing, start_machine, header, listing}
use Rattle.feed.specs.Feed.{Block, FeedDone, fed_of, all_of}
use Rattle.text.specs.Put.{Written}
use Rattle.definition_script.specs.Call.{Rings}
use Rattle.line.specs.line.LineDone.{LINE}
use Rattle.feed.specs.Turn.{LIMIT}

-- whatever bytes follow those of a block, the listing is its text, and then the listing from the machine after it with the bytes that are left
abbrev pub Listed : (offset : ℕ) → Machine → List ℕ → Block → Type 0
Listed offset m s b = (t : List ℕ) → run offset m (s ++ t) ≡ b.text ++ run (offset + b.taken) b.after (drop b.taken s ++ t)

-- What is put out when a machine that has taken so many bytes has the bytes s at hand and the blocks bs are to come, with room for so many bytes of
-- text: `more` is a block that comes, `fed` a call of `feed` on the bytes at hand, `done` a call of `finish` at the end of the input.
pub data Feeds (room : ℕ) : (offset : ℕ) → Machine → (s : List ℕ) → (bs : List (List ℕ)) → (output : List ℕ) → Type 0 where
  more :
      {offset : ℕ} {m : Machine} {s b o : List ℕ} {bs : List (List ℕ)} → Feeds room offset m (s ++ b) bs o → Feeds room offset m s (b ∷ bs) o
  fed :
      {offset : ℕ} {st : ScriptState} {memory memory' : List ℕ} {z z' : Rings} {s out out' o : List ℕ} {bs : List (List ℕ)} {r : Fed}
      → length out ≡ room → FeedDone st offset s memory memory' z z' out out' r
      → Feeds room (offset + r.taken) (machine r.state memory' z') (drop r.taken s) bs o
      → Feeds room offset (machine st memory z) s bs (take r.written out' ++ o)
  done :
      {offset : ℕ} {st : ScriptState} {memory : List ℕ} {z : Rings} {s out out' : List ℕ} {r : ℕ} → move_of (machine st memory z) s ≡ stay
      → Written 26 0 (closing offset st.ended s) r out out' → length out ≡ room → 26 ≤ room
      → Feeds room offset (machine st memory z) s [] (take r out')

-- the header, then what feeding puts out, is the listing, however the script is cut into blocks
abbrev pub AnyBlocks : Type 0
AnyBlocks = (room : ℕ) (bs : List (List ℕ)) (o : List ℕ) → Feeds room 0 start_machine [] bs o → header ++ o ≡ listing (flatten bs)

-- from every place of a script there is a feeding to the end, where the output has room for a line. Before the place are offset bytes, and so at most as
-- many records; no script has more than LIMIT bytes, and memory has at most 4096
abbrev pub Complete : Type 0
Complete =
    (offset room : ℕ) (m : Machine) (s : List ℕ) (bs : List (List ℕ)) → m.state.number ≤ offset → offset + length (s ++ flatten bs) ≤ LIMIT
    → length m.memory ≤ 4096 → LINE ≤ room → (o : List ℕ) × Feeds room offset m s bs o

-- every script of at most LIMIT bytes has a feeding, however it is cut into blocks, where the output has room for a line
abbrev pub Every : Type 0
Every = (room : ℕ) (bs : List (List ℕ)) → length (flatten bs) ≤ LIMIT → LINE ≤ room → (o : List ℕ) × Feeds room 0 start_machine [] bs o

-- what is claimed of feeding
pub record FeedingClaims : Type 0 where
  pub block : (offset room : ℕ) (m : Machine) (s : List ℕ) → Listed offset m s (fed_of offset room m s)
  pub all : (offset : ℕ) (m : Machine) (s : List ℕ) → Listed offset m s (all_of offset m s)
  pub chain : AnyBlocks
  pub complete : Complete
  pub every : Every
