-- Blocks read and fed, from the first, and why no other follows. Assumes nothing.
use Prim.Native.Nat.{ℕ, ◌≤◌, ◌<◌}
use mathlib.Core.Path.{◌≡◌, refl, sym, ap, ◌∙◌, subst}
use mathlib.Core.Bool.{Bool, true, false}
use mathlib.Core.List.{List}
use native.Mathlib.Omega.{arith}
use lib.ListN.{length, length-replicate}
use lib.Seq.{length-take-le}
use Rattle.definition_script.specs.Call.{written_at, Rings}
use Rattle.buffer.specs.declared.buffer.Progress.{Progress}
use Rattle.definition_script.specs.Listing.{header, start_state, Machine, machine, start_machine}
use Rattle.definition.specs.Status.{pick}
use Rattle.buffer.specs.blocks.Drain.{reads_on, ReadIn, Held, held, machine_of, in_use}
use Rattle.buffer.specs.blocks.BlocksRun.{first_progress, reads_on_at, Blocks, Stops, reads_no_more, input_ended}
use Rattle.buffer.proofs.blocks.Short.{stay-short}
use Rattle.buffer.proofs.blocks.Listed.{blocks-stay, first_stays}

-- the memory that a script starts with is such that no line is longer than LINE
pub first-memory : {memory : List ℕ} {z : Rings} → machine start_state memory z ≡ start_machine → length memory ≤ 4096
unfolding start_machine
first-memory {memory} e =
    let z : ℕ = 0 in
    let l : length memory ≡ 4096 = ap (λ (m : Machine). length m.memory) e ∙ length-replicate {A = ℕ} 4096 z in
    omega (arith, l)

-- the header is put out before the first
pub begun : {p : Progress} {buffer memory out₁ : List ℕ} {z : Rings} {y : Held} (out : List ℕ) → p ≡ first_progress → out₁ ≡ written_at 0 header out
    → Blocks (held p buffer memory z out₁) y → Blocks (held first_progress buffer memory z (written_at 0 header out)) y
begun {p} {buffer} {memory} {out₁} {z} {y} out e f b =
    subst (λ (q : Progress). Blocks (held q buffer memory z (written_at 0 header out)) y) e
    (subst (λ (o : List ℕ). Blocks (held p buffer memory z o) y) f b)

-- why no block follows, where the program does not read on
pub stops-reading : {x : Held} {buffer : List ℕ} → reads_on_at x ≡ false → buffer ≡ x.buffer → Stops x buffer
stops-reading {x} {buffer} e f = subst (λ (l : List ℕ). Stops x l) (sym f) (reads_no_more e)

-- where the program reads on, the script has not ended
not_ended : (e : Bool) (offset : ℕ) → reads_on e offset ≡ true → e ≡ false
unfolding reads_on pick
not_ended true offset h =
    let z : ◌≡◌ {A = Bool} false true = h in
    let n : ◌≡◌ {A = ℕ} 0 1 = (cc) in
    absurd (let y : ⊥ = omega arith in y)
not_ended false offset h = refl

-- where the program reads on, another byte has room in a buffer that a record fits into
has_room : {buffer memory out : List ℕ} {z : Rings} {x : Held} → Blocks (held first_progress buffer memory z out) x → reads_on_at x ≡ true
    → x.at.used ≤ length x.buffer → 4107 ≤ length x.buffer → x.at.used < length x.buffer
has_room {buffer} {memory} {out} {z} {x} f e u l =
    let k : length (in_use x) < 4107 = stay-short (machine_of x) (in_use x) (not_ended _ _ e) (blocks-stay f (first_stays memory z)) in
    let n : length (in_use x) ≡ x.at.used = length-take-le x.at.used x.buffer u in
    omega (arith, k, n, l)

pub stops_ended : {buffer₀ memory out : List ℕ} {z : Rings} {x : Held} {buffer buffer' : List ℕ} {got : ℕ} → Blocks (held first_progress buffer₀ memory z out) x
    → x.at.used ≤ length x.buffer → 4107 ≤ length x.buffer → reads_on_at x ≡ true → ReadIn x.at.used got x.buffer buffer' → got ≡ 0
    → buffer ≡ buffer' → Stops x buffer
stops_ended {x = x} {buffer} {buffer'} {got} b u l e r n f =
    subst (λ (l : List ℕ). Stops x l) (sym f) (input_ended e (has_room b e u l) (subst (λ (n : ℕ). ReadIn x.at.used n x.buffer buffer') n r))
