-- `replay_all` meets its contract.
use Prim.Native.Nat.{ℕ, ◌+◌, ◌<◌}
use mathlib.Core.List.{List}
use mathlib.Core.Path.{◌≡◌, refl, ap, ◌∙◌}
use native.Mathlib.Omega.{arith}
use borrow.Author.Rules.{rules}
use lib.ListN.{length}
use Rattle.std.specs.Prelude.{Option}
use Rattle.std.specs.declared.option.Option.TheVariants.{None}
use Rattle.report.specs.declared.tally.MissedEntry.{MissedEntry}
use Rattle.report.specs.declared.tally.Tally.{Tally}
use Rattle.report.proofs.tally.Counts.{counted-small}
use Rattle.replay.specs.Replay.{none, more, no_tally, Tallied, begun, next}
use Rattle.replay.proofs.Entries.{counted-total, counted-most, counted-all, none_missed_lem, first_counted}
use Rattle.replay.proofs.entry.replay_all.Goals as goal

begins : {s out : List ℕ} (t : Tally) → t.total ≡ 0 → t.agree ≡ 0 → t.first ≡ None → Tallied s out 0 t out
unfolding no_tally
begins {s} {out} t e f g =
    let k : t ≡ record { total = 0; agree = 0; first = None } =
    ap (λ (x : ℕ). record { total = x; agree = t.agree; first = t.first }) e
    ∙ ap (λ (x : ℕ). record { total = 0; agree = x; first = t.first }) f
    ∙ ap (λ (x : Option MissedEntry). record { total = 0; agree = 0; first = x }) g
    in
    rw k begun

pub loop-entry-init : goal.loop-entry-init
loop-entry-init c =
    let t = c.default-tally in
    let e = t.ensures in
    record {
      within = omega arith;
      few = omega arith;
      most = omega arith;
      all = λ k. rw e.0 none;
      same_length = refl;
      tallied = begins t.result e.0 e.1.0 e.1.1;
      first = λ k. absurd (let z : ⊥ = omega (arith, k) in z);
    }

pub loop-entry-preserved : goal.loop-entry-preserved
loop-entry-preserved c =
    let h = c.loop-entry.invariant in
    let t = c.loop-entry.tally in
    let entry = c.in-Some.ensures in
    let k = c.replay_entry-o in
    let x = c.in-Some.entry in
    let compared = rw h.same_length at k.ensures.comparison in
    let small : t.total < 9223372036854775808 = search rules in
    let e = counted-small t _ _ k.result small (omega (arith, small, h.most)) c.counted-tally.ensures in
    let total : c.counted-tally.result.total ≡ t.total + 1 = ap (λ (x : Tally). x.total) e ∙ counted-total t _ _ k.result in
    record {
      within = entry.behind.within;
      few = omega (arith, entry.name, entry.behind.script, entry.behind.stored, total);
      most = rw e (counted-most t _ _ k.result h.most);
      all = λ g. let w = counted-all (length c.args.out.now) x.name_end x.script_end x.end c.args.s.now t _ _ k.result h.most compared (rw e at g) in rw total (more (h.all w.0) entry w.1);
      same_length = omega (arith, k.auto.out);
      tallied = rw e (next t k.result h.tallied entry k.ensures);
      first = λ g. rw e (first_counted t h.most h.all h.first entry k.result compared (rw e at g));
    }

pub returns : goal.returns
returns c =
    let h = c.loop-entry.invariant in
    record {
      within = h.within;
      tally = h.tallied;
      most = h.most;
      all = h.all;
      none_missed = (none_missed_lem h.tallied).1;
      first = h.first;
      cut = λ e. c.in_default.ensures;
    }
