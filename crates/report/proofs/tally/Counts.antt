-- When a tally is full, and what is counted. Assumes nothing.
use Prim.Native.Nat.{ℕ, ◌+◌, ◌≤◌, ◌<◌}
use mathlib.Core.Bool.{true, false}
use Rattle.std.proofs.Common.{◌⊎◌, inl, inr}
use mathlib.Core.Path.{◌≡◌, refl, sym, ◌∙◌}
use borrow.Author.Tests.{lt-ltb, le-ltb, le-leb, lt-leb}
use Rattle.definition.specs.Status.{pick}
use Rattle.endpoint.proofs.answer.Rules.{pick_off, or-on, or_off}
use Rattle.std.specs.declared.option.Option.TheVariants.{Some}
use Rattle.std.specs.declared.result.Result.TheVariants.{Err}
use Rattle.report.specs.declared.tally.Miss.{Miss}
use Rattle.report.specs.declared.tally.Tally.{Tally}
use Rattle.report.specs.tally.Count.{Comparison, is_full, missed_entry, counted_of}

-- ---- when a tally is full

pub full : (t : Tally) → (9223372036854775808 ≤ t.total) ⊎ ((t.total < 9223372036854775808) × (9223372036854775808 ≤ t.agree)) → is_full t ≡ true
unfolding is_full
full t (inl h) = sym (or-on _ _ (le-leb _ _ h))
full t (inr h) = sym (or_off _ _ _ (lt-leb _ _ h.0) (sym (le-leb _ _ h.1)))

pub not_full : (t : Tally) → t.total < 9223372036854775808 → t.agree < 9223372036854775808 → is_full t ≡ false
unfolding is_full
not_full t h g = sym (or_off _ _ _ (lt-leb _ _ h) (sym (lt-leb _ _ g)))

-- ---- what is counted

pub counted_again : (t : Tally) (from to : ℕ) (m : Miss) → t.agree < t.total
    → record { total = t.total + 1; agree = t.agree; first = t.first } ≡ counted_of t from to (Err m)
unfolding counted_of missed_entry pick
counted_again t from to m g = rw (lt-ltb t.agree t.total g) refl

pub counted-first : (t : Tally) (from to : ℕ) (m : Miss) → t.total ≤ t.agree
    → record { total = t.total + 1; agree = t.agree; first = Some (record { number = t.total; from = from; to = to; miss = m }) } ≡ counted_of t from to (Err m)
unfolding counted_of missed_entry pick
counted-first t from to m g = rw (le-ltb t.agree t.total g) refl

-- a tally that is not full is counted on
pub counted_on : {r : Tally} (t : Tally) (from to : ℕ) (o : Comparison) → t.total < 9223372036854775808 → t.agree < 9223372036854775808
    → r ≡ counted_of t from to o → r ≡ pick (is_full t) t (counted_of t from to o)
counted_on t from to o h g e = pick_off _ (is_full t) _ t (counted_of t from to o) (not_full t h g) e

-- an entry is counted where the tally is not full
pub counted-small : {r : Tally} (t : Tally) (from to : ℕ) (o : Comparison) → t.total < 9223372036854775808 → t.agree < 9223372036854775808
    → r ≡ pick (is_full t) t (counted_of t from to o) → r ≡ counted_of t from to o
counted-small t from to o h g e = e ∙ sym (pick_off _ (is_full t) (counted_of t from to o) t (counted_of t from to o) (not_full t h g) refl)
