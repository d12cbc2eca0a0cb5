-- The texts that the script program makes are the listing of the bytes read. Assumes nothing.
use Prim.Native.Nat.{ℕ, ◌+◌, ◌-◌}
use native.Mathlib.Omega.{arith}
use mathlib.Core.Path.{◌≡◌, refl, sym, ap, ◌∙◌}
use mathlib.Core.Bool.{false}
use mathlib.Core.List.{List, [], ◌++◌, append_assoc, append-nil}
use lib.Dec.{leb}
use lib.ListN.{length, take, drop, length-take}
use lib.Seq.{take-add}
use borrow.Author.Tests.{leb-true, le-leb}
use Rattle.definition.specs.Status.{pick, ◌and◌}
use Rattle.definition_script.specs.Record.{record_of}
use Rattle.script_call.proofs.record.Records.{cases}
use Rattle.definition_script.specs.Call.{Rings}
use Rattle.feed.specs.declared.Fed.{Fed}
use Rattle.definition_script.specs.Listing.{start_state, Machine, machine, start_machine, stay, move_by, move_of, run, closing, header, listing}
use Rattle.feed.specs.Feed.{Block, no_block, fed_of, all_of}
use Rattle.listing.proofs.script.Runs.{run-stay}
use Rattle.listing.proofs.script.Tells.{tells, passes, shown}
use Rattle.buffer.specs.shift.Shift.{shifted}
use Rattle.buffer.specs.buffer.Buffer.{front_of}
use Rattle.buffer.proofs.buffer.Fronts.{front-left}
use Rattle.buffer.specs.blocks.Drain.{Held, held, machine_of, in_use, Advance, Advances, Drained, call_text, advances_text, drain_text, none as no_other, more as another}
use Rattle.buffer.specs.blocks.BlocksRun.{first_progress, read_more, Blocks, none, more, Stops, reads_no_more, input_ended, input_read, blocks_text, end_text}

-- ---- calls of `advance`

-- the listing from x on, where the bytes t follow those in use
abbrev from : Held → List ℕ → List ℕ
from x t = run x.at.offset (machine_of x) (in_use x ++ t)

-- the listing from x on is a text, and then the listing from y on
abbrev Puts : (x y : Held) → (text : List ℕ) → Type 0
Puts x y text = (t : List ℕ) → from x t ≡ text ++ from y t

-- the same of the block that the bytes in use make, whose rest is moved to the front
abbrev PutsBlock : Held → Block → Type 0
PutsBlock x b =
    (t : List ℕ)
    → from x t
    ≡ b.text ++ run (x.at.offset + b.taken) b.after (take (x.at.used - b.taken) (shifted b.taken x.at.used x.buffer) ++ t)

-- a buffer that is shorter than what is in use
short : (x : Held) → leb x.at.used (length x.buffer) ≡ false → PutsBlock x (no_block (machine_of x))
unfolding shifted pick ◌and◌
short x e t =
    let u : ℕ = x.at.used in
    let n : x.at.offset ≡ x.at.offset + 0 = omega arith in
    let k : u ≡ u - 0 = omega arith in
    rw (e, le-leb 0 u (omega arith))
    (ap (λ (j : ℕ). run j (machine_of x) (in_use x ++ t)) n
    ∙ ap (λ (j : ℕ). run (x.at.offset + 0) (machine_of x) (take j x.buffer ++ t)) k)

-- the block that `advance` does
front : (x : Held) → PutsBlock x (front_of x.at (length x.out) x.buffer x.memory x.lent)
unfolding front_of
front x =
    let s : List ℕ = in_use x in
    let b : Block = fed_of x.at.offset (length x.out) (machine_of x) s in
    cases Block (PutsBlock x) (leb x.at.used (length x.buffer)) b (no_block (machine_of x))
    (λ e t.
    let p = passes x.at.offset (length x.out) (machine_of x) s in
    p.rest t
    ∙ ap (λ (l : List ℕ). b.text ++ run (x.at.offset + b.taken) b.after (l ++ t))
    (sym (front-left b.taken x.at.used x.buffer (omega (arith, p.within, length-take x.at.used x.buffer)) (leb-true _ _ e))))
    (short x)

advance_puts : (x y : Held) → Advance x y → Puts x y (call_text y)
advance_puts x y d t =
    let b : Block = front_of x.at (length x.out) x.buffer x.memory x.lent in
    let r : Fed = record { state = y.at.state; taken = b.taken; written = y.at.written } in
    let e : call_text y ≡ b.text = shown {r = r} (record { after = d.after; taken = refl; written = d.written; text = d.text }) in
    rw (e, d.offset, d.after, d.used, d.left) (front x t)

-- one text, and then another
both : (x y z : Held) (k l : List ℕ) → Puts x y k → Puts y z l → Puts x z (k ++ l)
both x y z k l f g t = f t ∙ ap (λ (o : List ℕ). k ++ o) (g t) ∙ sym (append_assoc k l (from z t))

advances_put : {x y : Held} (f : Advances x y) → Puts x y (advances_text f)
unfolding advances_text
advances_put no_other t = refl
advances_put {x} (another {y} {z} f d n) t = both x y z (advances_text f) (call_text z) (advances_put f) (advance_puts y z d) t

drain_puts : {x y : Held} (d : Drained x y) → Puts x y (drain_text d)
unfolding drain_text
drain_puts {x} {y} d =
    let c = d.calls in
    both x c.0 y (advances_text c.1) (call_text y) (advances_put c.1) (advance_puts c.0 y c.2)

-- ---- blocks

-- the bytes read, and any t behind them, give the text of the blocks, and then what t gives from y on
blocks-put : {x y : Held} (f : Blocks x y) (t : List ℕ) → from x (input_read f ++ t) ≡ blocks_text f ++ from y t
unfolding input_read blocks_text
blocks-put none t = refl
blocks-put {x} (more {y} {z} {buffer} {got} f g r n d) t =
    let k : List ℕ = take got (drop y.at.used buffer) in
    let e : in_use y ++ k ≡ take (y.at.used + got) buffer =
    ap (λ (l : List ℕ). l ++ k) (sym r.front) ∙ sym (take-add y.at.used got buffer)
    in
    ap (λ (l : List ℕ). from x l) (append_assoc (input_read f) k t)
    ∙ blocks-put f (k ++ t)
    ∙ ap (λ (l : List ℕ). blocks_text f ++ run y.at.offset (machine_of y) l) (sym (append_assoc (in_use y) k t))
    ∙ ap (λ (l : List ℕ). blocks_text f ++ run y.at.offset (machine_of y) (l ++ t)) e
    ∙ ap (λ (l : List ℕ). blocks_text f ++ l) (drain_puts d t)
    ∙ sym (append_assoc (blocks_text f) (drain_text d) (from z t))

-- no move is left once a block is drained
drained_stays : (x y : Held) → Drained x y → move_of (machine_of y) (in_use y) ≡ stay
unfolding all_of
drained_stays x y d = rw (d.after, d.left) ((tells 0 x.at.offset 0 (machine_of x) (in_use x)).stuck (omega arith))

pub blocks-stay : {x y : Held} → Blocks x y → move_of (machine_of x) (in_use x) ≡ stay → move_of (machine_of y) (in_use y) ≡ stay
blocks-stay none h = h
blocks-stay (more {y} {z} {buffer} {got} f g r n d) h = drained_stays (read_more got buffer y) z d

-- ---- the whole script

-- before the first block no byte is in use
pub first_stays : (memory : List ℕ) (z : Rings) → move_of (machine start_state memory z) [] ≡ stay
unfolding move_of pick move_by record_of start_state
first_stays memory z = refl

-- a read that gives nothing leaves the bytes in use as they were
stops-in_use : {x : Held} {buffer : List ℕ} → Stops x buffer → take x.at.used buffer ≡ in_use x
stops-in_use (reads_no_more e) = refl
stops-in_use (input_ended e k r) = r.front

-- the header, the text of the blocks and the end are the listing of the bytes read
pub listed : {memory buffer out buffer' : List ℕ} {z : Rings} {y : Held} (f : Blocks (held first_progress buffer memory z out) y) → Stops y buffer'
    → machine start_state memory z ≡ start_machine → header ++ (blocks_text f ++ end_text y buffer') ≡ listing (input_read f)
unfolding listing
listed {memory} {buffer} {out} {buffer'} {z} {y} f s e =
    let c : run y.at.offset (machine_of y) (in_use y) ≡ end_text y buffer' =
    run-stay y.at.offset (machine_of y) (in_use y) (blocks-stay f (first_stays memory z))
    ∙ ap (λ (l : List ℕ). closing y.at.offset y.at.state.ended l) (sym (stops-in_use s))
    in
    ap (λ (l : List ℕ). header ++ l)
    (ap (λ (l : List ℕ). blocks_text f ++ l) (sym c ∙ ap (λ (l : List ℕ). run y.at.offset (machine_of y) l) (sym (append-nil (in_use y))))
    ∙ sym (blocks-put f [])
    ∙ ap (λ (l : List ℕ). run 0 (machine start_state memory z) l) (append-nil (input_read f))
    ∙ ap (λ (m : Machine). run 0 m (input_read f)) e)
