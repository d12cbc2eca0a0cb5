use Prim.Native.Nat.{ℕ}
use mathlib.Core.Path.{◌≡◌, refl}
use mathlib.Core.Bool.{Bool, true, false}
use Rattle.definition.specs.Status.{pick}
use Rattle.definition.specs.Port.{new_places}
use Rattle.definition.specs.Create.{new_end, no_end, new_pair, no_pair}
use Rattle.socket.proofs.create.pair_if.Goals as goal

-- field by field
whole : (made datagram : Bool) (C r s : ℕ)
    → record { datagram = pick made datagram false; spare1 = 0; spare2 = 0; capacity = pick made C 0; one = pick made (new_end r) no_end; two = pick made (new_end s) no_end; places = new_places }
    ≡ pick made (new_pair datagram C r s) no_pair
unfolding new_pair no_pair pick
whole true datagram C r s = refl
whole false datagram C r s = refl

pub returns : goal.returns
returns c = rw (c.end_if.ensures, c.end_if-2.ensures, c.pick.ensures, c.pick-2.ensures, c.new_places.ensures) (whole _ _ _ _ _)
