-- How the code goes: the copies into a ring and out of it, total, so that they demand nothing. What lies in a ring is in crates/definition/specs/Ring.
use Rattle.std.specs.Prelude.{ℕ, Bool, List, ltb, leb, length}
use Rattle.std.proofs.Math.Seq.{paste}
use Rattle.definition.specs.Status.{◌and◌, pick}
use Rattle.definition.specs.Ring.{put, front}

-- whether n entries from the place `at` on lie in a ring of capacity C in a slice of so many entries. 01 "Delivered bytes".
unfoldable pub ring_fits : ℕ → ℕ → ℕ → ℕ → Bool
ring_fits C at n size = ltb at C and leb n C and leb C size

-- the ring after a copy into it of the first n of xs. Where they do not fit, or xs is shorter, it stays as it was: so the copy demands nothing.
unfoldable pub copied_in : {A : Type 0} → ℕ → ℕ → ℕ → List A → List A → List A
copied_in C at n xs ring = pick (ring_fits C at n (length ring) and leb n (length xs)) (put C at n xs ring) ring

-- dst after a copy to its start of the n entries from the place `start` on. Where they do not fit, or dst is shorter, it stays as it was.
unfoldable pub copied_out : {A : Type 0} → ℕ → ℕ → ℕ → List A → List A → List A
copied_out C start n ring dst = pick (ring_fits C start n (length ring) and leb n (length dst)) (paste dst 0 (front C start n ring) n) dst
