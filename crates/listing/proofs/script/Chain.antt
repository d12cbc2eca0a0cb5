-- What feeding a script in blocks puts out is its listing, and every script has a feeding. Assumes nothing.
use Prim.Native.Nat.{ℕ}
use native.Mathlib.Omega.{arith}
use mathlib.Core.Path.{◌≡◌, sym, ap, ◌∙◌}
use mathlib.Core.List.{List, ◌++◌, append_assoc, append-nil, flatten}
use lib.ListN.{take}
use Rattle.definition_script.specs.Call.{written_at}
use Rattle.text.specs.Put.{Put}
use Rattle.text.proofs.Place.{place-front}
use Rattle.definition_script.specs.Listing.{Machine, machine, closing, run, listing, header}
use Rattle.listing.specs.script.Claims.{Feeds, more, fed, done, AnyBlocks}
use Rattle.listing.proofs.script.Runs.{run-stay}
use Rattle.listing.proofs.script.Tells.{fed-rest}

put_all : (k r : ℕ) (xs l l' : List ℕ) → Put k 0 xs r l l' → take r l' ≡ xs
put_all k r xs l l' p =
    ap (λ (z : List ℕ). take r z) p.out ∙ ap (λ (n : ℕ). take n (written_at 0 xs l)) p.next ∙ place-front 0 xs l (omega arith)

feeds : {room offset : ℕ} {m : Machine} {s : List ℕ} {bs : List (List ℕ)} {o : List ℕ} → Feeds room offset m s bs o → o ≡ run offset m (s ++ flatten bs)
unfolding flatten
feeds (more {offset} {m} {s} {b} {o} {bs} f) = feeds f ∙ ap (λ (x : List ℕ). run offset m x) (append_assoc s b (flatten bs))
feeds (fed {offset} {st} {memory} {memory'} {z} {z'} {s} {out} {out'} {o} {bs} {r} e d f) =
    ap (λ (x : List ℕ). take r.written out' ++ x) (feeds f) ∙ sym (fed-rest d (flatten bs))
feeds (done {offset} {st} {memory} {z} {s} {out} {out'} {r} e w h g) =
    put_all 26 r (closing offset st.ended s) out out' (w.fit.put (omega (arith, h, g)))
    ∙ sym (run-stay offset (machine st memory z) s e)
    ∙ ap (λ (x : List ℕ). run offset (machine st memory z) x) (sym (append-nil s))

pub chain : AnyBlocks
unfolding listing
chain room bs o f = ap (λ (x : List ℕ). header ++ x) (feeds f)
