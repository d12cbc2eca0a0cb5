use Rattle.std.proofs.Common.{◌≡◌, ℕ, Some, rules, tests, sym, ap, ◌∙◌}
use Rattle.std.specs.Option.{option_or}
use Rattle.std.proofs.lemmas.Bool.{false≢true}
use Rattle.std.proofs.lemmas.Bool.Decides.{Decides-eqb}
use Rattle.std.proofs.lemmas.Iterator.{YieldsList-from_slice, YieldsList-from_zip, IsFirst-from_position}
use Rattle.std.proofs.lemmas.Slice.Eq.{slice_eq-Decides}
use Rattle.replay.proofs.Entries.{first_place}
use Rattle.replay.proofs.entry.first_difference.Goals as goal

pub returns : goal.returns
returns c =
    let a = c.args.a.now in
    let b = c.args.b.now in
    let d = slice_eq-Decides Decides-eqb a b c.eq.result c.eq.ensures in
    first_place a b (λ e. false≢true (sym c.if-eq.false ∙ d.1 e)) c.position.result
    (IsFirst-from_position c.position.new.self _ c.position.result (λ p. p.0 ≡ p.1 → ⊥) (λ p. p.0 ≡ p.1) c.position.ensures.ran
    (YieldsList-from_zip (YieldsList-from_slice a cc) (YieldsList-from_slice b cc)) (λ x q k. search (rules, tests)) (λ x q k. search (rules, tests)))
    (c.or.ensures ∙ ap (λ (n : ℕ). option_or c.position.result (Some n)) c.min.ensures)
