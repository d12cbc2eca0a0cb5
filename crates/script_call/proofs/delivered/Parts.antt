-- A part of memory, also where it runs over the end. Assumes nothing.
use Prim.Native.Nat.{ℕ, ◌+◌, ◌-◌, ◌<◌}
use native.Mathlib.Omega.{arith}
use mathlib.Core.Path.{◌≡◌, sym, ap, ◌∙◌}
use mathlib.Core.List.{List, []}
use lib.ListN.{length, take, drop, length-drop, drop_of_length-le}
use lib.Seq.{take_all, take-nil}

pub part_none : (from n : ℕ) (l : List ℕ) → length l < from → [] ≡ take n (drop from l)
part_none from n l h = sym (ap (λ (x : List ℕ). take n x) (drop_of_length-le l {i = from} (omega arith)) ∙ take-nil n)

pub part_over : (from n : ℕ) (l : List ℕ) → length l - from < n → take (length l - from) (drop from l) ≡ take n (drop from l)
part_over from n l h =
    take_all (length l - from) (drop from l) (simp length-drop (omega arith)) ∙ sym (take_all n (drop from l) (simp length-drop (omega arith)))

pub part_whole : (from n : ℕ) (l : List ℕ) → take (from + n - from) (drop from l) ≡ take n (drop from l)
part_whole from n l = let e : from + n - from ≡ n = omega arith in ap (λ (k : ℕ). take k (drop from l)) e
