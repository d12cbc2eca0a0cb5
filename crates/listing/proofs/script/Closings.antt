-- The end of the input. Assumes nothing.
use Prim.Native.Nat.{ℕ}
use native.Mathlib.Omega.{arith}
use mathlib.Core.Path.{◌≡◌, refl, sym, subst}
use mathlib.Core.Bool.{Bool, true, false}
use mathlib.Core.List.{List, [], ◌∷◌}
use lib.ListN.{length}
use Rattle.definition.specs.Status.{pick}
use Rattle.definition_script.specs.Line.{stop_of}
use Rattle.text.specs.Put.{Written}
use Rattle.text.proofs.Place.{nothing, same}
use Rattle.definition_script.specs.Listing.{closing}

pub closing-none : (offset : ℕ) (ended : Bool) (s : List ℕ) → length s ≡ 0 → [] ≡ closing offset ended s
unfolding closing
closing-none offset ended [] h = refl
closing-none offset ended (b ∷ s) h = absurd (let z : ⊥ = omega arith in z)

pub closing_over : (offset : ℕ) (ended : Bool) (s : List ℕ) → ended ≡ true → [] ≡ closing offset ended s
unfolding closing pick
closing_over offset ended [] e = refl
closing_over offset ended (b ∷ s) e = rw e refl

pub closing-stop : (offset : ℕ) (ended : Bool) (s : List ℕ) → (length s ≡ 0 → ⊥) → ended ≡ false → stop_of offset ≡ closing offset ended s
unfolding closing pick
closing-stop offset ended [] h e = absurd (h refl)
closing-stop offset ended (b ∷ s) h e = rw e refl

pub nothing_put : (k : ℕ) (xs l : List ℕ) → [] ≡ xs → Written k 0 xs 0 l l
nothing_put k xs l e = record { fit = same xs e (nothing k 0 l); kept = λ h. (refl, refl) }

-- the same text, put into a list that is the output
pub put_into : {k at r : ℕ} {xs ys out out' out'' : List ℕ} → xs ≡ ys → Written k at xs r out out' → out'' ≡ out' → Written k at ys r out out''
put_into {k} {at} {r} {xs} {ys} {out} {out'} {out''} d w e =
    subst (λ (z : List ℕ). Written k at z r out out'') d (subst (λ (l : List ℕ). Written k at xs r out l) (sym e) w)
