-- The stored entries run and counted, the first that does not agree, and the report in the buffer. It stands for no paragraph of 01.
use Rattle.std.specs.Prelude.{ℕ, ◌-◌, ◌+◌, ◌≤◌, ◌<◌, List, ◌≡◌, take, drop, length, ltb, eqb, Option, []}
use Rattle.report.specs.declared.tally.Tally.{Tally}
use Rattle.report.specs.declared.tally.MissedEntry.{MissedEntry}
use Rattle.std.specs.declared.option.Option.TheVariants.{None, Some}
use Rattle.std.specs.declared.result.Result.TheVariants.{Err}
use Rattle.replay.specs.declared.entry.Replayed.{Replayed}
use Rattle.report.specs.tally.Count.{Comparison, counted_of}
use Rattle.replay.specs.Entry.{EntryIn, EntryRun, Agreed, entry_bytes, Agreement, entry_end}
use Rattle.report.specs.report.Report.{REPORT, report_text}
use Rattle.definition_script.specs.Call.{written_at}

-- the bytes between the two places of an entry that does not agree, which are its name; none where no entry misses
unfoldable pub missed_name : List ℕ → Option MissedEntry → List ℕ
missed_name s None = []
missed_name s (Some m) = take (m.to - m.from) (drop m.from s)

-- the name of the first entry that does not agree
unfoldable pub first_name : List ℕ → Tally → List ℕ
first_name s t = missed_name s t.first

-- that name lies within the input
abbrev pub NameWithin : List ℕ → Tally → Type 0
NameWithin s t = (m : MissedEntry) → t.first ≡ Some m → (m.from ≤ m.to) × (m.to ≤ length s)

-- the tally before any entry
unfoldable pub no_tally : Tally
no_tally = record { total = 0; agree = 0; first = None }

-- the tally of the entries before a place, and the buffer after them: each, from the first on, is run and counted. Its name lies behind its length
pub data Tallied (s out₀ : List ℕ) : ℕ → Tally → List ℕ → Type 0 where
  begun : Tallied s out₀ 0 no_tally out₀
  next :
      {at nameEnd script_end end : ℕ} {out out' : List ℕ} (t : Tally) (o : Comparison) → Tallied s out₀ at t out → EntryIn s at nameEnd script_end end
      → EntryRun s nameEnd script_end end out out' o → Tallied s out₀ end (counted_of t (at + 4) nameEnd o) out'

-- so many entries lie before a place, and every one of them agrees
pub data AllAgree (s : List ℕ) : (number at : ℕ) → Type 0 where
  none : AllAgree s 0 0
  more :
      {number at nameEnd script_end end : ℕ} → AllAgree s number at → EntryIn s at nameEnd script_end end → Agreed s nameEnd script_end end
      → AllAgree s (number + 1) end

-- the tally holds an entry that does not agree: as many as its number says lie before it, and agree, its name lies between its two places, and its
-- comparison says where it differs, or that another line might not have had room
pub record FirstMissed (room : ℕ) (s : List ℕ) (t : Tally) : Type 0 where
  pub missed : MissedEntry
  pub held : t.first ≡ Some missed
  pub at : ℕ
  pub script_end : ℕ
  pub end : ℕ
  pub before : AllAgree s missed.number at
  pub entry : EntryIn s at missed.to script_end end
  pub name : first_name s t ≡ entry_bytes s at missed.to
  pub comparison : Agreement room s missed.to script_end end (Err missed.miss)

-- the entries that were run end at a place, and are counted; no more agree than were run. If as many do, all agree and the tally holds no entry,
-- else it holds the first that does not. Behind the place the input ends, or an entry is cut
pub record AgreeTo (s out out' : List ℕ) (r : Replayed) : Type 0 where
  pub within : r.at ≤ length s
  pub tally : Tallied s out r.at r.tally out'
  pub most : r.tally.agree ≤ r.tally.total
  pub all : r.tally.agree ≡ r.tally.total → AllAgree s r.tally.total r.at
  pub none_missed : r.tally.agree ≡ r.tally.total → r.tally.first ≡ None
  pub first : r.tally.agree < r.tally.total → FirstMissed (length out) s r.tally
  pub cut : r.at < length s → length s < entry_end s r.at

-- what the function asks for that runs the entries and puts the report: the bytes in use lie in the input, and the buffer has room for a report with
-- any name from them
pub record ReplayMay (input : List ℕ) (used : ℕ) (out : List ℕ) : Type 0 where
  pub within : used ≤ length input
  pub room : used + REPORT ≤ length out

-- the entries in the bytes in use are run and counted, and the report of their tally is put over what the runs left in the buffer. An entry is cut where
-- bytes in use lie behind those that were run
pub record Replays (input : List ℕ) (used : ℕ) (out out' : List ℕ) : Type 0 where
  pub ran : Replayed
  pub left : List ℕ
  pub counted : AgreeTo (take used input) out left ran
  pub report : out' ≡ written_at 0 (report_text ran.tally (first_name (take used input) ran.tally) (ltb ran.at used) (eqb used (length input))) left
