-- The number of each tag. 01 "Script program", tag and body; 02 (i), tag 12.
use Rattle.std.specs.Prelude.{ℕ, ◌≡◌, ◌<◌, Result, MatchResult}
use Rattle.definition_script.specs.declared.Tag.{Tag}
use Rattle.definition_script.specs.declared.Tag.TheVariants.{Create, Write, Read, SetDisposition, Shutdown, SetReadThreshold, SetWriteThreshold, GetInfo, Close, Wait, Take, Fill, Cancel}
use Rattle.definition_script.specs.declared.UnknownTag.{UnknownTag}

-- the number that stands for a tag
abbrev pub tag_number : Tag → ℕ
tag_number Create = 0
tag_number Write = 1
tag_number Read = 2
tag_number SetDisposition = 3
tag_number Shutdown = 4
tag_number SetReadThreshold = 5
tag_number SetWriteThreshold = 6
tag_number GetInfo = 7
tag_number Close = 8
tag_number Wait = 9
tag_number Take = 10
tag_number Fill = 11
tag_number Cancel = 12

-- the result is the tag with this number, or the number itself, which stands for none
abbrev pub Numbered : ℕ → Result Tag UnknownTag → Type 0
Numbered n r = MatchResult r (λ tag. tag_number tag ≡ n) (λ e. (e.0 ≡ n) × (12 < n))
