-- The tally of stored entries: how one entry more is counted.
use Rattle.std.specs.Prelude.{ℕ, ◌+◌, Bool, leb, ltb, Result}
use Rattle.report.specs.declared.tally.Tally.{Tally}
use Rattle.report.specs.declared.tally.Miss.{Miss}
use Rattle.std.specs.declared.option.Option.TheVariants.{Some}
use Rattle.std.specs.declared.result.Result.TheVariants.{Ok, Err}
use Rattle.definition.specs.Status.{◌or◌, pick}

-- what came of an entry: its listing agrees, or it misses
abbrev pub Comparison : Type 0
Comparison = Result Unit Miss

-- a tally with a count of 2^63 or above is full, and is left as it is; no input is so long
unfoldable pub is_full : Tally → Bool
is_full t = leb 9223372036854775808 t.total or leb 9223372036854775808 t.agree

-- an entry is counted that does not agree, and whose name begins and ends at two places: it is the first such if all before it agree
unfoldable pub missed_entry : Tally → (from to : ℕ) → Miss → Tally
missed_entry t from to m =
    record {
      total = t.total + 1;
      agree = t.agree;
      first = pick (ltb t.agree t.total) t.first (Some (record { number = t.total; from = from; to = to; miss = m }));
    }

-- one entry more is counted
unfoldable pub counted_of : Tally → (from to : ℕ) → Comparison → Tally
counted_of t from to (Ok _) = record { total = t.total + 1; agree = t.agree + 1; first = t.first }
counted_of t from to (Err m) = missed_entry t from to m
