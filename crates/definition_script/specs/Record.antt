-- A record of a script: a tag of one byte, a length of two, and a body; where a create may stand. 01 "Script program", tag and body.
use Rattle.std.specs.Prelude.{ℕ, ◌+◌, ◌*◌, ◌-◌, List, Bool, false, not, get_or, length, ltb, leb, eqb}
use Rattle.definition_script.specs.declared.TransferBody.{TransferBody}
use Rattle.definition_script.specs.declared.Decoded.{Decoded}
use Rattle.definition_script.specs.declared.Decoded.TheVariants.{Whole, Bad, Cut}
use Rattle.definition.specs.Status.{Answer}
use Rattle.definition.specs.Status.{pick, ◌and◌, is_done}

-- ---- the fields of a body

-- numbers of two, four and eight bytes, the lowest first
abbrev pub two : List ℕ → ℕ → ℕ
two s at = get_or s at 0 + 256 * get_or s (at + 1) 0

abbrev pub four : List ℕ → ℕ → ℕ
four s at = get_or s at 0 + 256 * (get_or s (at + 1) 0 + 256 * (get_or s (at + 2) 0 + 256 * get_or s (at + 3) 0))

abbrev pub eight : List ℕ → ℕ → ℕ
eight s at = four s at + 4294967296 * four s (at + 4)

-- the body of write and read
unfoldable pub transfer_of : (body : List ℕ) → TransferBody
transfer_of b = record { handle = four b 0; options = four b 4; address = eight b 8; count = eight b 16; count_at = eight b 24 }

-- ---- the record

-- the tags that a definition names
abbrev pub CREATE : ℕ
CREATE = 0

abbrev pub READ : ℕ
READ = 2

abbrev pub FILL : ℕ
FILL = 11

-- whether a body of n bytes is right for a tag: 0 create; 1 write, 2 read; 3 disposition; 4 shutdown; 5 read and 6 write threshold; 7 info,
-- 8 close; 9 wait; 10 take; 11 fill, with 1 to 4096 bytes behind its address; 12 cancel (02 (i)). No body is right for a tag of 13 or more.
unfoldable pub is_body : (tag n : ℕ) → Bool
is_body tag n =
    pick (ltb tag 1) (eqb n 10)
    (pick (ltb tag 3) (eqb n 32)
    (pick (ltb tag 4) (eqb n 12)
    (pick (ltb tag 5) (eqb n 8)
    (pick (ltb tag 7) (eqb n 12)
    (pick (ltb tag 9) (eqb n 4)
    (pick (ltb tag 10) (eqb n 17)
    (pick (ltb tag 11) (eqb n 0)
    (pick (ltb tag 12) (pick (ltb n 9) false (leb n 4104))
    (pick (ltb tag 13) (eqb n 12) false)))))))))

-- what bytes begin with: a record that is all there, one that no further bytes make good, or one that may be cut
unfoldable pub record_of : List ℕ → Decoded
record_of s =
    pick (ltb (length s) 3) Cut
    (pick (is_body (get_or s 0 0) (two s 1))
    (pick (ltb (length s - 3) (two s 1)) Cut (Whole (get_or s 0 0) (two s 1)))
    Bad)

-- 01 "Script program": create is first and only once
unfoldable pub is_misplaced : (tag number : ℕ) → Bool
is_misplaced tag number = pick (eqb number 0) (not (eqb tag CREATE)) (eqb tag CREATE)

-- 01 "Script program": a refused create ends the script
unfoldable pub is_last : (tag : ℕ) → Answer → Bool
is_last tag a = eqb tag CREATE and not (is_done a)
