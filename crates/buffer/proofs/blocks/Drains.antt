-- What the loop keeps that feeds the bytes in use, and how far a program that reads on is from LIMIT. Assumes nothing.
use Prim.Native.Nat.{ℕ, ◌+◌, ◌-◌, ◌≤◌, ◌<◌}
use native.Mathlib.Omega.{arith}
use mathlib.Core.Path.{◌≡◌, refl, sym, ap, ◌∙◌}
use mathlib.Core.Bool.{Bool, true, false}
use mathlib.Core.List.{List}
use lib.ListN.{length, take, drop, length-take}
use lib.Seq.{drop-drop}
use borrow.Author.Tests.{ltb-true}
use Rattle.definition.specs.Status.{pick}
use Rattle.line.specs.line.LineDone.{LINE}
use Rattle.definition_script.specs.Call.{Rings}
use Rattle.buffer.specs.declared.buffer.Progress.{Progress}
use Rattle.definition_script.specs.Listing.{Machine, machine, stay, move_of}
use Rattle.feed.specs.Turn.{LIMIT}
use Rattle.feed.specs.Feed.{Block, fed_from, all_of}
use Rattle.buffer.specs.shift.Shift.{shifted}
use Rattle.buffer.specs.buffer.Buffer.{front_of, Advanced}
use Rattle.feed.proofs.Blocks.{fed_ready}
use Rattle.listing.proofs.script.Tells.{tells}
use Rattle.listing.proofs.script.Alls.{all_stay, splits, fed_idle}
use Rattle.listing.proofs.script.Complete.{is_ready_lem}
use Rattle.buffer.proofs.buffer.Fronts.{front-fed, front-left}
use Rattle.buffer.specs.blocks.Drain.{reads_on, Held, machine_of, in_use, moves_of, Advance, Advances, Drained}

-- where the program reads on, a whole buffer more stays within LIMIT
pub reads_below : (ended : Bool) (offset : ℕ) → reads_on ended offset ≡ true → offset < 4611686018427256832
unfolding reads_on pick
reads_below true offset e =
    let z : ◌≡◌ {A = Bool} false true = e in
    let n : ◌≡◌ {A = ℕ} 0 1 = (cc) in
    omega arith
reads_below false offset e = ltb-true _ _ e

-- from the beginning on, where s₀ was at hand, what is left to do is what m does with the bytes s that are in use
pub record Stands (p₀ : Progress) (m₀ : Machine) (s₀ : List ℕ) (p : Progress) (m : Machine) (s : List ℕ) : Type 0 where
  pub after : (all_of p₀.offset m₀ s₀).after ≡ (all_of p.offset m s).after
  pub taken : p₀.offset + (all_of p₀.offset m₀ s₀).taken ≡ p.offset + (all_of p.offset m s).taken
  pub left : s ≡ drop (p.offset - p₀.offset) s₀
  pub sum : p.offset + p.used ≡ p₀.offset + p₀.used
  pub onward : p₀.offset ≤ p.offset
  pub within : p.used ≤ p₀.used
  pub count : p.state.number ≤ p.offset

pub stands : (p : Progress) (m : Machine) (s : List ℕ) → p.state.number ≤ p.offset → Stands p m s p m s
stands p m s h =
    let e : p.offset - p.offset ≡ 0 = omega arith in
    record {
      after = refl;
      taken = refl;
      left = ap (λ (n : ℕ). drop n s) (sym e);
      sum = refl;
      onward = omega arith;
      within = omega arith;
      count = h;
    }

module _ (p₀ : Progress) (m₀ : Machine) (s₀ : List ℕ) (p : Progress) (buffer buffer' memory memory' : List ℕ) (z z' : Rings) (out out' : List ℕ) (r : Progress)
    (f : Stands p₀ m₀ s₀ p (machine p.state memory z) (take p.used buffer))
    (d : Advanced (front_of p (length out) buffer memory z) p buffer buffer' memory' z' out out' r)
    (used : p.used ≤ length buffer) (total : p₀.offset + p₀.used ≤ LIMIT) (size : length memory ≤ 4096)
  where
    -- the block that was done
    fed_here : front_of p (length out) buffer memory z ≡ fed_from LINE p.offset (length out) (machine p.state memory z) (take p.used buffer)
    fed_here =
        let m : Machine = machine p.state memory z in
        let s : List ℕ = take p.used buffer in
        front-fed p (length out) buffer memory z used
        ∙ fed_ready p.offset (length out) m s
        (is_ready_lem p.state p.offset (length s) (length memory) (omega (arith, f.count, f.sum)) (omega (arith, f.sum))
        (omega (arith, f.sum, length-take p.used buffer)) size)

    pub onwards : Stands p₀ m₀ s₀ r (machine r.state memory' z') (take r.used buffer')
    onwards =
        let m : Machine = machine p.state memory z in
        let s : List ℕ = take p.used buffer in
        let b : Block = fed_from LINE p.offset (length out) m s in
        let t = (tells LINE p.offset (length out) m s).passes in
        let ls : length s ≤ p.used = omega (arith, length-take p.used buffer) in
        let eo : r.offset ≡ p.offset + b.taken = d.offset ∙ ap (λ (x : Block). p.offset + x.taken) fed_here in
        let eu : r.used ≡ p.used - b.taken = d.used ∙ ap (λ (x : Block). p.used - x.taken) fed_here in
        let em : machine r.state memory' z' ≡ b.after = d.after ∙ ap (λ (x : Block). x.after) fed_here in
        let es : take r.used buffer' ≡ drop b.taken s =
        ap (λ (x : List ℕ). take r.used x) (d.left ∙ ap (λ (x : Block). shifted x.taken p.used buffer) fed_here)
        ∙ ap (λ (n : ℕ). take n (shifted b.taken p.used buffer)) eu
        ∙ front-left b.taken p.used buffer (omega (arith, t.within)) used
        in
        let rest : all_of r.offset (machine r.state memory' z') (take r.used buffer') ≡ all_of (p.offset + b.taken) b.after (drop b.taken s) =
        ap (λ (x : Machine). all_of r.offset x (take r.used buffer')) em
        ∙ ap (λ (n : ℕ). all_of n b.after (take r.used buffer')) eo
        ∙ ap (λ (x : List ℕ). all_of (p.offset + b.taken) b.after x) es
        in
        let sp = splits p.offset (length out) m s in
        let kt : (all_of p.offset m s).taken ≡ b.taken + (all_of (p.offset + b.taken) b.after (drop b.taken s)).taken = ap (λ (x : Block). x.taken) sp in
        let rt : (all_of r.offset (machine r.state memory' z') (take r.used buffer')).taken
        ≡ (all_of (p.offset + b.taken) b.after (drop b.taken s)).taken = ap (λ (x : Block). x.taken) rest in
        let o : p.offset - p₀.offset + b.taken ≡ r.offset - p₀.offset = omega (arith, eo, f.onward) in
        let nn : r.state.number ≡ b.after.state.number = ap (λ (x : Machine). x.state.number) em in
        record {
          after = f.after ∙ ap (λ (x : Block). x.after) sp ∙ sym (ap (λ (x : Block). x.after) rest);
          taken = omega (arith, f.taken, kt, rt, eo);
          left =
              es
              ∙ ap (λ (x : List ℕ). drop b.taken x) f.left
              ∙ drop-drop b.taken (p.offset - p₀.offset) s₀
              ∙ ap (λ (n : ℕ). drop n s₀) o;
          sum = omega (arith, f.sum, eo, eu, t.within, ls);
          onward = omega (arith, f.onward, eo);
          within = omega (arith, f.within, eu);
          count = omega (arith, nn, t.count, f.count, eo);
        }

    -- nothing was taken, so that nothing is left to do
    pub ends : LINE ≤ length out → r.used ≡ p.used → move_of (machine r.state memory' z') (take r.used buffer') ≡ stay
    ends room e =
        let m : Machine = machine p.state memory z in
        let s : List ℕ = take p.used buffer in
        let b : Block = fed_from LINE p.offset (length out) m s in
        let t = (tells LINE p.offset (length out) m s).passes in
        let eu : r.used ≡ p.used - b.taken = d.used ∙ ap (λ (x : Block). p.used - x.taken) fed_here in
        let em : machine r.state memory' z' ≡ b.after = d.after ∙ ap (λ (x : Block). x.after) fed_here in
        let k : b.taken ≡ 0 = omega (arith, e, eu, t.within, length-take p.used buffer) in
        let es : take r.used buffer' ≡ s =
        ap (λ (x : List ℕ). take r.used x) (d.left ∙ ap (λ (x : Block). shifted x.taken p.used buffer) fed_here)
        ∙ ap (λ (n : ℕ). take n (shifted b.taken p.used buffer)) eu
        ∙ front-left b.taken p.used buffer (omega (arith, t.within, length-take p.used buffer)) used
        ∙ ap (λ (n : ℕ). drop n s) k
        in
        ap (λ (x : Machine). move_of x (take r.used buffer')) em
        ∙ ap (λ (x : List ℕ). move_of b.after x) es
        ∙ fed_idle p.offset (length out) m s room k

-- all moves were made
pub drained : (x y : Held) → ((w : Held) × Advances x w × Advance w y × (y.at.used ≡ w.at.used))
    → Stands x.at (machine_of x) (in_use x) y.at (machine_of y) (in_use y) → move_of (machine_of y) (in_use y) ≡ stay → Drained x y
drained x y l f e =
    let m : Machine = machine_of y in
    let s : List ℕ = in_use y in
    let a : Block = moves_of x in
    let n = all_stay y.at.offset m s e in
    let k : (all_of y.at.offset m s).taken ≡ 0 = ap (λ (x : Block). x.taken) n in
    let o : y.at.offset ≡ x.at.offset + a.taken = omega (arith, f.taken, k) in
    let i : y.at.offset - x.at.offset ≡ a.taken = omega arith in
    record {
      calls = l;
      after = sym (f.after ∙ ap (λ (x : Block). x.after) n);
      offset = o;
      left = f.left ∙ ap (λ (j : ℕ). drop j (in_use x)) i;
      used = f.sum;
      within = f.within;
      count = f.count;
    }
