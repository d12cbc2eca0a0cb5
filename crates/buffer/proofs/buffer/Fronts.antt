-- The bytes in use at the front of a buffer: fed, and those that are left moved to the front. Assumes nothing.
use Prim.Native.Nat.{ℕ, ◌+◌, ◌-◌, ◌≤◌, ◌<◌}
use native.Mathlib.Omega.{arith}
use mathlib.Core.Path.{◌≡◌, refl, sym, ap, ◌∙◌}
use mathlib.Core.Bool.{true, false}
use mathlib.Core.List.{List}
use mathlib.Core.Logic.{⊎_elim}
use lib.ListN.{length, take, drop, length-take, length-drop}
use lib.Seq.{take_at, drop_at, take-add, length-take-le}
use borrow.Author.Tests.{le-leb, lt-leb}
use Rattle.definition.specs.Status.{pick, ◌and◌}
use Rattle.port.proofs.places.Lists.{either}
use Rattle.text.proofs.Place.{place_none}
use Rattle.definition_script.specs.Call.{Rings}
use Rattle.definition_script.specs.declared.ScriptState.{ScriptState}
use Rattle.feed.specs.declared.Fed.{Fed}
use Rattle.buffer.specs.declared.buffer.Progress.{Progress}
use Rattle.definition_script.specs.Listing.{machine}
use Rattle.feed.specs.Feed.{is_ready, Block, fed_of, FeedDone}
use Rattle.buffer.specs.shift.Shift.{moved, shifted}
use Rattle.buffer.specs.buffer.Buffer.{front_of, Advanced}
use Rattle.feed.proofs.Blocks.{fed_unready}
use Rattle.feed.proofs.Feeding.{ready}

-- a buffer that is shorter than what is in use
shifted_none : (used : ℕ) (buffer : List ℕ) → length buffer < used → buffer ≡ shifted 0 used buffer
unfolding shifted pick ◌and◌
shifted_none used buffer h = rw (le-leb 0 used (let z : 0 ≤ used = omega arith in z), lt-leb used (length buffer) h)

pub advance_short : (p : Progress) (buffer memory : List ℕ) (z : Rings) (out : List ℕ) (r : Progress) → length buffer < p.used
    → r ≡ record { state = p.state; offset = p.offset; used = p.used; written = 0 }
    → Advanced (front_of p (length out) buffer memory z) p buffer buffer memory z out out r
unfolding front_of pick
advance_short p buffer memory z out r h e =
    rw (e, lt-leb p.used (length buffer) h)
    (record {
      after = refl;
      offset = omega arith;
      used = omega arith;
      left = shifted_none p.used buffer h;
      written = refl;
      text = sym (place_none 0 out);
      within = omega arith;
      fits = omega arith;
    })

pub front-fed : (p : Progress) (room : ℕ) (buffer memory : List ℕ) (z : Rings) → p.used ≤ length buffer
    → front_of p room buffer memory z ≡ fed_of p.offset room (machine p.state memory z) (take p.used buffer)
unfolding front_of pick
front-fed p room buffer memory z h = rw (le-leb p.used (length buffer) h)

pub advance_done : (p : Progress) (s buffer buffer' memory memory' : List ℕ) (z z' : Rings) (out out' : List ℕ) (f : Fed) (r : Progress)
    → p.used ≤ length buffer → s ≡ take p.used buffer → FeedDone p.state p.offset s memory memory' z z' out out' f
    → buffer' ≡ shifted f.taken p.used buffer
    → r ≡ record { state = f.state; offset = p.offset + f.taken; used = p.used - f.taken; written = f.written }
    → Advanced (front_of p (length out) buffer memory z) p buffer buffer' memory' z' out out' r
advance_done p s buffer buffer' memory memory' z z' out out' f r h q d₀ g e =
    let d : FeedDone p.state p.offset (take p.used buffer) memory memory' z z' out out' f = rw q at d₀ in
    rw (e, front-fed p (length out) buffer memory z h)
    (record {
      after = d.block.after;
      offset = ap (λ (n : ℕ). p.offset + n) d.block.taken;
      used = ap (λ (n : ℕ). p.used - n) d.block.taken;
      left = g ∙ ap (λ (n : ℕ). shifted n p.used buffer) d.block.taken;
      written = d.block.written;
      text = d.block.text;
      within = omega arith;
      fits = d.fits;
    })

-- what stands at the front after: the bytes that were not taken
pub front-left : (from to : ℕ) (buffer : List ℕ) → from ≤ to → to ≤ length buffer → take (to - from) (shifted from to buffer) ≡ drop from (take to buffer)
unfolding shifted pick ◌and◌ moved
front-left from to buffer h g =
    let n : ℕ = to - from in
    let l : length (take n (drop from buffer)) ≡ n = omega (arith, length-take n (drop from buffer), length-drop from buffer) in
    let e : to ≡ from + n = omega arith in
    rw (le-leb from to h, le-leb to (length buffer) g)
    (take_at (take n (drop from buffer)) (drop n buffer) n l
    ∙ sym (drop_at (take from buffer) (take n (drop from buffer)) from (length-take-le from buffer (omega arith)))
    ∙ ap (λ (x : List ℕ). drop from x) (sym (take-add from n buffer))
    ∙ ap (λ (k : ℕ). drop from (take k buffer)) (sym e))

-- what is taken is 0, or else offset and input are LIMIT at most
pub no_wrap : {st : ScriptState} {offset : ℕ} {input memory memory' : List ℕ} {z z' : Rings} {out out' : List ℕ} {r : Fed}
    → FeedDone st offset input memory memory' z z' out out' r → offset < 18446744073709551616 → offset + r.taken < 18446744073709551616
no_wrap {st} {offset} {input} {memory} {memory'} {z} {z'} {out} {out'} {r} d h =
    ⊎_elim
    (λ (e : is_ready st offset (length input) (length memory) ≡ true).
    let y = ready st offset (length input) (length memory) e in omega (arith, y.offset, y.input, d.within))
    (λ (e : is_ready st offset (length input) (length memory) ≡ false).
    let k : r.taken ≡ 0 = d.block.taken ∙ ap (λ (b : Block). b.taken) (fed_unready offset (length out) (machine st memory z) input e) in omega (arith, k, h))
    (either (is_ready st offset (length input) (length memory)))
