-- The header is made, then each block that is read is fed, and what the loop stops at makes the whole a run.
use Rattle.std.proofs.Common.{rules, arith, ◌≡◌, ◌≤◌, ◌<◌, ◌+◌, ◌-◌, ℕ, refl, sym, ap, ◌∙◌}
use Rattle.feed.specs.Turn.{LIMIT}
use Rattle.script_call.specs.Lent.{lent_rings}
use Rattle.definition_script.specs.Listing.{start_state}
use Rattle.buffer.specs.declared.buffer.Progress.{Progress}
use Rattle.buffer.specs.blocks.Drain.{held}
use Rattle.buffer.specs.blocks.BlocksRun.{RunMay, Stops, more}
use Rattle.buffer.specs.blocks.BlocksRun.{none as no_block}
use Rattle.buffer.proofs.blocks.Drains.{reads_below}
use Rattle.buffer.proofs.blocks.Blocks.{first-memory, begun, stops-reading, stops_ended}
use Rattle.buffer.proofs.blocks.Listed.{listed}
use Rattle.socket_script.proofs.run.Goals.{else-loop-buffer-test, then-loop-buffer-test+then-got-eq0}
use Rattle.socket_script.proofs.run.Goals as goal

no_record : start_state.number ≡ 0
unfolding start_state
no_record = refl

pub loop-buffer-init : goal.loop-buffer-init
loop-buffer-init c =
    let f = c.first-p in
    let q = c.requires in
    let u : f.result.used ≡ 0 = ap (λ (q : Progress). q.used) f.ensures in
    let o : f.result.offset ≡ 0 = ap (λ (q : Progress). q.offset) f.ensures in
    let n : f.result.state.number ≡ 0 = ap (λ (q : Progress). q.state.number) f.ensures ∙ no_record in
    let may : RunMay _ _ _ c.begin.new.out =
    record { starts = q.starts; least = q.least; most = q.most; room = omega (arith, q.room, c.begin.auto.out) }
    in
    (omega (arith, u), may, search rules, refl, refl, omega (arith, u, o), omega (arith, n), no_block)

pub drain-p-requires : goal.drain-p-requires
drain-p-requires c =
    let i = c.loop-buffer.invariant in
    let r = c.read_in-got.ensures in
    record {
      used = omega (arith, r.within, r.size);
      count = i.6;
      total = omega (arith, r.within, i.1.most, i.3, reads_below _ _ (sym c.reads_on.ensures ∙ c.loop-buffer-test.true));
      size = omega (arith, first-memory i.1.starts, i.2.memory.size);
      room = omega (arith, i.1.room, i.4);
    }

-- a block leads nearer to LIMIT: it has bytes, and where the program reads on a whole buffer more stays below LIMIT
less : (offset used got offset' used' size whole : ℕ) → offset < 4611686018427256832 → offset' + used' ≡ offset + (used + got) → (got ≡ 0 → ⊥)
    → used + got ≤ size → size ≡ whole → whole ≤ 131072 → LIMIT - (offset' + used') < LIMIT - (offset + used)
less offset used got offset' used' size whole below count some within same most = omega (arith, below, count, some, within, same, most)

pub loop-buffer-smaller : goal.loop-buffer-smaller
loop-buffer-smaller c =
    let l = c.loop-buffer in
    let i = l.invariant in
    let r = c.drain-p.result in
    let below = reads_below _ _ (sym c.reads_on.ensures ∙ c.loop-buffer-test.true) in
    less l.p.offset l.p.used c.read_in-got.result r.offset r.used _ _ below c.drain-p.ensures.done.used c.if-got-eq0.false c.read_in-got.ensures.within
    i.3 i.1.most

pub loop-buffer-preserved : goal.loop-buffer-preserved
loop-buffer-preserved c =
    let i = c.loop-buffer.invariant in
    let r = c.read_in-got.ensures in
    let d = c.drain-p.ensures.done in
    let a = c.drain-p.auto in
    let n = c.drain-p.new in
    let z = held c.drain-p.result n.buffer n.lent.memory.now (lent_rings n.lent) n.out in
    let on = sym c.reads_on.ensures ∙ c.loop-buffer-test.true in
    let below = reads_below _ _ on in (
      omega (arith, d.within, r.within, i.3),
      i.1,
      search rules,
      a.buffer ∙ r.size ∙ i.3,
      a.out ∙ i.4,
      omega (arith, below, d.used, r.within, i.1.most, i.3),
      d.count,
      more {z = z} i.7 on r c.if-got-eq0.false d,
    )

pub returns-clause-done : goal.returns-clause-done
returns-clause-done c =
    let l = c.loop-buffer in
    let i = l.invariant in
    let b = begun c.args.out.now c.first-p.ensures c.begin.ensures i.7 in
    let last = held l.p l.buffer l.lent.memory.now (lent_rings l.lent) l.out in
    let s : Stops last c.loop-buffer-test.buffer =
    elim c.loop-buffer-test.branch [
      | else-loop-buffer-test w ↦ stops-reading (sym c.reads_on.ensures ∙ w.loop-buffer-test.false) w.buffer-is
      | then-loop-buffer-test+then-got-eq0 w ↦
          stops_ended b (omega (arith, i.0, i.3)) (omega (arith, i.1.least, i.3)) (sym c.reads_on.ensures ∙ w.loop-buffer-test.true) w.read_in-got.ensures
          w.if-got-eq0.true w.buffer-is
    ]
    in
    record {
      last = last;
      blocks = b;
      stops = s;
      user = refl;
      lent = refl;
      text = c.finish.ensures;
      listed = listed b s i.1.starts;
    }
