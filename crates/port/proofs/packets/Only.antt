-- A table whose only place used is a packet: what taking it leaves. Assumes nothing.
use Prim.Native.Nat.{ℕ, ◌<◌}
use mathlib.Core.Path.{◌≡◌, refl, sym, ap, ◌∙◌}
use mathlib.Core.Bool.{Bool, true, not}
use mathlib.Core.List.{List, [], ◌∷◌}
use native.Mathlib.Omega.{arith}
use lib.ListN.{length, set}
use borrow.Author.Tests.{eqb-true, ne_eqb}
use Rattle.definition.specs.Status.{pick, ◌and◌}
use Rattle.endpoint.proofs.answer.Chains.{both}
use Rattle.definition.specs.declared.Place.{Place}
use Rattle.definition.specs.declared.Places.{Places}
use Rattle.definition.specs.Port.{free, packets_of, waits_of, unused_of, table_of, taken_of, take_of}
use Rattle.port.specs.places.Table.{only_packet}
use Rattle.port.proofs.places.Tests.{sound_below}
use Rattle.port.proofs.places.First.{counted, both-on, pick_true}
use Rattle.port.proofs.packets.Operations.{take_if_on}

free-first : (tab : List Place) → 0 < length tab → record { packets = 0; waits = 0; table = set tab 0 free } ≡ taken_of (record { packets = 1; waits = 0; table = tab })
unfolding taken_of packets_of waits_of unused_of table_of
free-first [] h = absurd (omega arith)
free-first (y ∷ ys) h = refl

module _ (asked : Bool) (t : Places) (l : length t.table ≡ 128) where
  -- where taking is asked and the only place used is a packet
  pub taken-on : (asked and only_packet t) ≡ true → record { packets = 0; waits = t.waits; table = set t.table 0 free } ≡ pick (asked and only_packet t) (take_of t).places t
  unfolding only_packet
  taken-on e =
      let r = both _ _ e in
      let one : t.packets ≡ 1 = eqb-true t.packets 1 (both _ _ r.1).0 in
      let none : t.waits ≡ 0 = eqb-true t.waits 0 (both _ _ r.1).1 in
      ap (λ (n : ℕ). record { packets = 0; waits = n; table = set t.table 0 free }) none
      ∙ free-first t.table (omega arith)
      ∙ ap taken_of (sym (counted t 1 0 r.1))
      ∙ take_if_on asked t (both-on _ _ r.0 (both-on _ _ (sound_below t (omega arith)) (ap not (ne_eqb t.packets 0 (λ z. omega arith)))))
      ∙ pick_true _ _ _ r.0
      ∙ sym (pick_true _ _ _ e)
