-- Where create is done, the new pair has the rights words that it was given. Assumes nothing.
use Prim.Native.Nat.{ℕ}
use mathlib.Core.Path.{◌≡◌}
use lib.Dec.{eqb}
use Rattle.definition.specs.Status.{pick, is_done}
use Rattle.definition.specs.Create.{create_answer, new_pair}
use Rattle.answers.specs.create.Held.{held_rights}
use Rattle.answers.proofs.create.Held.{held-made}
use Rattle.definition.specs.declared.Pair.{Pair}

pub new_held : (kind C r s ring1 table1 ring2 table2 : ℕ) (p : Pair)
    → pick (is_done (create_answer kind C r s ring1 table1 ring2 table2)) (new_pair (eqb kind 1) C (held_rights r) (held_rights s)) p
    ≡ pick (is_done (create_answer kind C r s ring1 table1 ring2 table2)) (new_pair (eqb kind 1) C r s) p
new_held kind C r s ring1 table1 ring2 table2 p = held-made kind C r s ring1 table1 ring2 table2 (λ (x y : ℕ). new_pair (eqb kind 1) C x y) p
