-- What a fill says is what its definition says. Assumes nothing.
use Prim.Native.Nat.{ℕ, ◌+◌, ◌-◌, ◌≤◌, ◌<◌}
use native.Mathlib.Omega.{arith}
use mathlib.Core.Path.{◌≡◌, refl, sym, ap, ◌∙◌}
use mathlib.Core.Bool.{Bool, true, false, cond}
use mathlib.Core.List.{List}
use lib.ListN.{length, take, drop, length-drop}
use lib.Seq.{take_all}
use lib.Dec.{ltb, leb, eqb}
use borrow.Author.Tests.{ltb-false, leb-true, ne_eqb, le-leb, lt-leb}
use Rattle.definition.specs.Status.{Answer}
use Rattle.std.specs.declared.result.Result.TheVariants.{Ok, Err}
use Rattle.definition.specs.declared.Status.TheVariants.{InvalidArgs}
use Rattle.definition.specs.declared.Record.TheVariants.{Count}
use Rattle.definition.specs.Status.{pick, ◌and◌, ◌or◌, refuse_unless, ◌then◌}
use Rattle.definition.specs.Memory.{fits}
use Rattle.definition_script.specs.Call.{written_at, BASE, fill_answer, filled}
use Rattle.definition_script.specs.Record.{eight, is_body}
use Rattle.script_call.specs.fill.FillMade.{FillMade}

-- the part of a list from a place to its end
pub part_all : (from : ℕ) (l : List ℕ) → from ≤ length l → take (length l - from) (drop from l) ≡ drop from l
part_all from l h = take_all (length l - from) (drop from l) (simp length-drop (omega arith))

module _ (size address n : ℕ) (some : 1 ≤ n) where
  fits_by : (b c : Bool) → leb BASE address ≡ b → leb (address - BASE + n) size ≡ c → fits BASE size address n ≡ (b and c)
  unfolding fits ◌or◌
  fits_by b c e f = let z : eqb n 0 ≡ false = ne_eqb n 0 (λ x. omega arith) in rw (z, e, f) refl

  pub fits-no : address < BASE → fits BASE size address n ≡ false
  unfolding ◌and◌
  fits-no h = fits_by false (leb (address - BASE + n) size) (lt-leb _ _ h) refl

  pub fits_not : BASE ≤ address → size < address - BASE + n → fits BASE size address n ≡ false
  unfolding ◌and◌
  fits_not g h = fits_by true false (le-leb _ _ g) (lt-leb _ _ h)

  pub fits-yes : BASE ≤ address → address - BASE + n ≤ size → fits BASE size address n ≡ true
  unfolding ◌and◌
  fits-yes g h = fits_by true true (le-leb _ _ g) (le-leb _ _ h)

-- both facts of a fill, by whether its range fits
pub fill-no : (address : ℕ) (bs memory : List ℕ) → fits BASE (length memory) address (length bs) ≡ false
    → (Err InvalidArgs ≡ fill_answer (length memory) address (length bs)) × (memory ≡ filled address bs memory)
unfolding fill_answer filled pick refuse_unless ◌then◌
fill-no address bs memory e = (rw e refl, rw e refl)

pub fill-yes : (address : ℕ) (bs memory : List ℕ) → fits BASE (length memory) address (length bs) ≡ true
    → (Ok (Count (length bs)) ≡ fill_answer (length memory) address (length bs)) × (written_at (address - BASE) bs memory ≡ filled address bs memory)
unfolding fill_answer filled pick refuse_unless ◌then◌
fill-yes address bs memory e = (rw e refl, rw e refl)

-- the body of a fill
pub never : ◌≡◌ {A = Bool} false true → ⊥
never e = let z : ◌≡◌ {A = ℕ} 0 1 = ap (λ (b : Bool). cond b 1 0) e in omega arith

fill-cases : (c d : Bool) → pick c false d ≡ true → (c ≡ false) × (d ≡ true)
unfolding pick
fill-cases true d e = absurd (let z : ◌≡◌ {A = Bool} false true = e in never z)
fill-cases false d e = (refl, e)

pub fill-body : (n : ℕ) → is_body 11 n ≡ true → (9 ≤ n) × (n ≤ 4104)
unfolding is_body pick
fill-body n e =
    let f : (ltb n 9 ≡ false) × (leb n 4104 ≡ true) = fill-cases (ltb n 9) (leb n 4104) e in
    (ltb-false n 9 f.0, leb-true n 4104 f.1)

-- a body that is right, and one that is not
pub fill-made : {memory b memory' : List ℕ} {address : ℕ} {r : Answer} → is_body 11 (length b) ≡ true → address ≡ eight b 0
    → (r ≡ fill_answer (length memory) address (length (take (length b - 8) (drop 8 b)))) × (memory' ≡ filled address (take (length b - 8) (drop 8 b)) memory)
    → FillMade memory b memory' r
fill-made {memory} {b} {memory'} {address} {r} e a w =
    let l = part_all 8 b (omega (arith, fill-body (length b) e)) in
    record { made = λ f. rw (a, l) at w; none = λ f. absurd (never (sym f ∙ e)) }

pub fill_none : {memory b : List ℕ} → is_body 11 (length b) ≡ false → FillMade memory b memory (Err InvalidArgs)
fill_none e = record { made = λ f. absurd (never (sym e ∙ f)); none = λ f. (refl, refl) }
