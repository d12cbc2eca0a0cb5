-- The count in memory: its bytes, and where its range fits. Assumes nothing.
use Prim.Native.Nat.{ℕ, ◌+◌, ◌-◌, ◌/◌, ◌≤◌}
use mathlib.Core.Path.{◌≡◌, refl, sym}
use mathlib.Core.Bool.{Bool, true, false}
use mathlib.Core.List.{List}
use native.Mathlib.Omega.{arith}
use lib.Dec.{eqb}
use lib.ListN.{length}
use lib.Seq.{paste}
use borrow.Author.Tests.{leb-true, eq-eqb, ne_eqb}
use Rattle.definition.specs.Status.{◌or◌}
use Rattle.endpoint.proofs.answer.Rules.{pick-on, pick_off, or-on, or_off}
use Rattle.endpoint.proofs.answer.Chains.{both}
use Rattle.definition.specs.Memory.{fits, count_fits, little_endian, count_landed, count_put}
use Rattle.std.specs.Int.{to_le_bytes, w64}
use Rattle.std.proofs.Common.{◌^◌}

-- a range that fits, of more than 0 bytes
pub fits_in : (base size address n : ℕ) → fits base size address n ≡ true → (n ≡ 0 → ⊥) → (base ≤ address) × (address - base + n ≤ size)
unfolding fits ◌or◌
fits_in base size address n e z =
    let w = both _ _ (rw (ne_eqb n 0 z) at e) in
    (leb-true _ _ w.0, leb-true _ _ w.1)

-- the 8 bytes of a number as the library makes them
pub le_bytes : (n : ℕ) → to_le_bytes w64 n ≡ little_endian 8 n
unfolding little_endian
le_bytes n =
    let b : n / 256 ^ 2 ≡ n / 256 / 256 = omega arith in
    let c : n / 256 ^ 3 ≡ n / 256 / 256 / 256 = omega arith in
    let d : n / 256 ^ 4 ≡ n / 256 / 256 / 256 / 256 = omega arith in
    let e : n / 256 ^ 5 ≡ n / 256 / 256 / 256 / 256 / 256 = omega arith in
    let f : n / 256 ^ 6 ≡ n / 256 / 256 / 256 / 256 / 256 / 256 = omega arith in
    let g : n / 256 ^ 7 ≡ n / 256 / 256 / 256 / 256 / 256 / 256 / 256 = omega arith in
    rw (b, c, d, e, f, g) refl

pub little-length : (n : ℕ) → 8 ≡ length (little_endian 8 n)
unfolding little_endian
little-length n = refl

-- where the count's range fits, the count lands
pub count_put_lem : (base countAt n : ℕ) (memory : List ℕ) → count_fits base (length memory) countAt ≡ true
    → count_put base countAt n memory ≡ count_landed base countAt n memory
unfolding count_put
count_put_lem base countAt n memory e = sym (pick-on _ _ _ _ _ e refl)

-- what landing a count leaves: no count where its address is 0, and none where its range does not fit
module _ (base countAt n : ℕ) (memory : List ℕ) where
  pub count_none : countAt ≡ 0 → memory ≡ count_put base countAt n memory
  unfolding count_put count_landed count_fits
  count_none z =
      let t : eqb countAt 0 ≡ true = eq-eqb countAt 0 z in
      pick-on _ _ _ _ _ (sym (or-on _ _ t)) (pick-on _ _ _ _ _ t refl)

  module _ (z : countAt ≡ 0 → ⊥) where
    fits-is : (b : Bool) → fits base (length memory) countAt 8 ≡ b → count_fits base (length memory) countAt ≡ b
    unfolding count_fits
    fits-is b e = sym (or_off _ _ _ (ne_eqb countAt 0 z) (sym e))

    pub count-out : fits base (length memory) countAt 8 ≡ false → memory ≡ count_put base countAt n memory
    unfolding count_put
    count-out e = pick_off _ _ _ _ _ (fits-is false e) refl

    pub count_in_lem : fits base (length memory) countAt 8 ≡ true → paste memory (countAt - base) (little_endian 8 n) 8 ≡ count_put base countAt n memory
    unfolding count_put count_landed
    count_in_lem e = pick-on _ _ _ _ _ (fits-is true e) (pick_off _ _ _ _ _ (ne_eqb countAt 0 z) refl)
