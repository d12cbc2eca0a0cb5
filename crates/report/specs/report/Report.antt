-- What the program `replay` prints of its tally. It stands for no paragraph of 01. A comment has the words whose bytes a definition has; each line ends
-- with 10, a newline.
use Rattle.std.specs.Prelude.{ℕ, List, ◌++◌, [], ◌∷◌, Bool, Option}
use Rattle.std.specs.declared.option.Option.TheVariants.{None, Some}
use Rattle.report.specs.declared.tally.Miss.{Miss}
use Rattle.report.specs.declared.tally.Miss.TheVariants.{DiffersAt, NoRoom}
use Rattle.report.specs.declared.tally.MissedEntry.{MissedEntry}
use Rattle.report.specs.declared.tally.Tally.{Tally}
use Rattle.definition_script.specs.Line.{decimal_of}
use Rattle.definition.specs.Status.{pick}

-- the most bytes of a report beside the name in it: 69 for the first entry that does not agree, 34 for a cut entry, 27 for a full buffer, 60 for the
-- counts
abbrev pub REPORT : ℕ
REPORT = 190

-- a text, a number in decimal, and another text
unfoldable pub numbered_text : (before : List ℕ) → (n : ℕ) → (after : List ℕ) → List ℕ
numbered_text before n after = before ++ (decimal_of n ++ after)

-- `listing `, the number, ` (`, the name, `)`
unfoldable pub entry_text : (number : ℕ) → (name : List ℕ) → List ℕ
entry_text number name = numbered_text (108 ∷ 105 ∷ 115 ∷ 116 ∷ 105 ∷ 110 ∷ 103 ∷ 32 ∷ []) number (32 ∷ 40 ∷ []) ++ (name ++ (41 ∷ []))

-- why it does not agree: ` differs at byte `, the byte's place in the listing; or ` may have no room`
unfoldable pub miss_text : Miss → List ℕ
miss_text (DiffersAt i) = numbered_text (32 ∷ 100 ∷ 105 ∷ 102 ∷ 102 ∷ 101 ∷ 114 ∷ 115 ∷ 32 ∷ 97 ∷ 116 ∷ 32 ∷ 98 ∷ 121 ∷ 116 ∷ 101 ∷ 32 ∷ []) i (10 ∷ [])
miss_text NoRoom = 32 ∷ 109 ∷ 97 ∷ 121 ∷ 32 ∷ 104 ∷ 97 ∷ 118 ∷ 101 ∷ 32 ∷ 110 ∷ 111 ∷ 32 ∷ 114 ∷ 111 ∷ 111 ∷ 109 ∷ 10 ∷ []

-- the first entry that does not agree. Where all agree there is no line
unfoldable pub first_text : Option MissedEntry → (name : List ℕ) → List ℕ
first_text None name = []
first_text (Some m) name = entry_text m.number name ++ miss_text m.miss

-- `entry `, its number, ` is cut`; no line where no entry is cut
unfoldable pub cut_text : (cut : Bool) → (number : ℕ) → List ℕ
cut_text cut number =
    pick cut (numbered_text (101 ∷ 110 ∷ 116 ∷ 114 ∷ 121 ∷ 32 ∷ []) number (32 ∷ 105 ∷ 115 ∷ 32 ∷ 99 ∷ 117 ∷ 116 ∷ 10 ∷ [])) []

-- `the input fills the buffer`; no line where it does not
unfoldable pub full_text : (full : Bool) → List ℕ
full_text full =
    pick full
    (116 ∷ 104 ∷ 101 ∷ 32 ∷ 105 ∷ 110 ∷ 112 ∷ 117 ∷ 116 ∷ 32 ∷ 102 ∷ 105 ∷ 108 ∷ 108 ∷ 115 ∷ 32
    ∷ 116 ∷ 104 ∷ 101 ∷ 32 ∷ 98 ∷ 117 ∷ 102 ∷ 102 ∷ 101 ∷ 114 ∷ 10 ∷ [])
    []

-- how many agree, ` of `, how many there are, ` listings agree`
unfoldable pub counts_text : (agree total : ℕ) → List ℕ
counts_text agree total =
    decimal_of agree
    ++ numbered_text (32 ∷ 111 ∷ 102 ∷ 32 ∷ []) total (32 ∷ 108 ∷ 105 ∷ 115 ∷ 116 ∷ 105 ∷ 110 ∷ 103 ∷ 115 ∷ 32 ∷ 97 ∷ 103 ∷ 114 ∷ 101 ∷ 101 ∷ 10 ∷ [])

-- the whole report of a tally: its first entry that does not agree, which has the name; the entry behind those counted, if it is cut, whose number is
-- how many were counted; an input that fills its buffer; the counts
unfoldable pub report_text : Tally → (name : List ℕ) → (cut full : Bool) → List ℕ
report_text t name cut full =
    first_text t.first name ++ (cut_text cut t.total ++ (full_text full ++ counts_text t.agree t.total))
