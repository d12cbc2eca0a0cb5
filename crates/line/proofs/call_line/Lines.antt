-- The bytes that a read delivered, and the line of a call. Assumes nothing.
use Prim.Native.Nat.{ℕ, ◌-◌, ◌≤◌}
use native.Mathlib.Omega.{arith}
use mathlib.Core.Path.{◌≡◌, ap, ◌∙◌, subst}
use mathlib.Core.List.{List}
use lib.ListN.{length, take, drop, length-take, length-drop}
use Rattle.definition.specs.Status.{Answer}
use Rattle.definition.specs.Signal.{SignalWord}
use Rattle.definition_script.specs.Record.{eight}
use Rattle.text.specs.declared.Writer.{Writer}
use Rattle.line.specs.line.LineWritten.{LineWritten}
use Rattle.definition_script.specs.Call.{BASE, delivered_count, delivered}

-- no more bytes are delivered than memory has
pub delivered-small : (tag : ℕ) (b : List ℕ) (a : Answer) (memory : List ℕ) → length memory ≤ 4096 → length (delivered tag b a memory) ≤ 4096
unfolding delivered
delivered-small tag b a memory h = simp (length-take, length-drop) (omega arith)

-- the bytes and the words that are put are those of the call
pub call_line : {number : ℕ} (tag : ℕ) {n from address : ℕ} {a : Answer} (b memory : List ℕ) {bs : List ℕ} {one two one' two' : SignalWord} {w w' : Writer} → one ≡ one' → two ≡ two'
    → address ≡ eight b 8 → from ≡ address - BASE → n ≡ delivered_count tag a → bs ≡ take n (drop from memory)
    → LineWritten number a one two bs w w' → LineWritten number a one' two' (delivered tag b a memory) w w'
unfolding delivered
call_line {number} tag {n} {from} {address} {a} b memory {bs} {one} {two} {one'} {two'} {w} {w'} e₁ e₂ e₃ e₄ e₅ e₆ d =
    subst (λ (x : List ℕ). LineWritten number a one' two' x w w')
    (e₆ ∙ ap (λ (k : ℕ). take k (drop from memory)) e₅ ∙ ap (λ (k : ℕ). take (delivered_count tag a) (drop k memory)) (e₄ ∙ ap (λ (k : ℕ). k - BASE) e₃))
    (rw (e₁, e₂) at d)
