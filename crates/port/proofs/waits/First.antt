-- A table of which no place is used: what registering a wait leaves. Assumes nothing.
use Prim.Native.Nat.{ℕ, ◌<◌}
use mathlib.Core.Path.{◌≡◌, refl, sym, ap, ◌∙◌}
use mathlib.Core.Bool.{Bool, true, false, not}
use mathlib.Core.List.{List, [], ◌∷◌}
use native.Mathlib.Omega.{arith}
use lib.ListN.{length, set}
use lib.Dec.{ltb}
use borrow.Author.Tests.{eqb-true, lt-ltb}
use Rattle.definition.specs.Status.{pick, ◌and◌}
use Rattle.endpoint.proofs.answer.Chains.{both}
use Rattle.definition.specs.Signal.{meets}
use Rattle.definition.specs.declared.Place.{Place}
use Rattle.definition.specs.declared.Places.{Places}
use Rattle.definition.specs.Port.{used, packets_of, waits_of, unused_of, table_of, end_number, inserted_of, appended_of, register_of}
use Rattle.port.specs.places.Table.{unused}
use Rattle.port.proofs.places.First.{counted, both-on, pick_true}
use Rattle.port.proofs.waits.Operations.{register_if}

put_first : (now : Bool) (x : Place) (tab : List Place) → 0 < length tab
    → record { packets = pick now 1 0; waits = pick now 0 1; table = set tab 0 x }
    ≡ pick now (inserted_of x (record { packets = 0; waits = 0; table = tab })) (appended_of x (record { packets = 0; waits = 0; table = tab }))
unfolding inserted_of appended_of packets_of waits_of unused_of table_of pick
put_first now x [] h = absurd (omega arith)
put_first true x (y ∷ ys) h = refl
put_first false x (y ∷ ys) h = refl

module _ (asked : Bool) (t : Places) (l : length t.table ≡ 128) where
  -- where registering is asked and no place is used
  pub registered_on : (one : Bool) (w key mask : ℕ) (edge : Bool) → (asked and unused t) ≡ true
      → record {
        packets = pick (not edge and meets w mask) 1 0;
        waits = pick (not edge and meets w mask) 0 1;
        table = set t.table 0 (record { key = key; mask = mask; observed = pick (not edge and meets w mask) w 0; end = end_number one });
      }
      ≡ pick (asked and unused t) (register_of one w key mask edge t).places t
  unfolding unused
  registered_on one w key mask edge e =
      let r = both _ _ e in
      let few : ltb (used t) 128 ≡ true
      = lt-ltb (used t) 128 (omega (arith, eqb-true t.packets 0 (both _ _ r.1).0, eqb-true t.waits 0 (both _ _ r.1).1)) in
      let x : Place = record { key = key; mask = mask; observed = pick (not edge and meets w mask) w 0; end = end_number one } in
      put_first (not edge and meets w mask) x t.table (omega arith)
      ∙ ap (λ (u : Places). pick (not edge and meets w mask) (inserted_of x u) (appended_of x u)) (sym (counted t 0 0 r.1))
      ∙ sym (pick_true _ _ _ (both-on _ _ r.0 few))
      ∙ register_if asked one w key mask edge t
      ∙ pick_true _ _ _ r.0
      ∙ sym (pick_true _ _ _ e)
