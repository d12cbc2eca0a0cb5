-- A table whose only place used is a wait: what a change of a word does to it. Assumes nothing.
use Prim.Native.Nat.{ℕ, ◌<◌}
use mathlib.Core.Path.{◌≡◌, refl, sym, ap, ◌∙◌}
use mathlib.Core.Bool.{Bool, true, false, not, false≢true}
use mathlib.Core.Logic.{⊎_elim}
use mathlib.Core.List.{List, [], ◌∷◌}
use native.Mathlib.Omega.{arith}
use lib.ListN.{length, get_or, set}
use lib.Dec.{eqb}
use borrow.Author.Tests.{eqb-true}
use Rattle.definition.specs.Status.{pick, ◌and◌}
use Rattle.endpoint.proofs.answer.Chains.{both}
use Rattle.definition.specs.declared.Place.{Place}
use Rattle.definition.specs.declared.Places.{Places}
use Rattle.definition.specs.Port.{filter, free, sound, packets_of, waits_of, unused_of, table_of, observe, fires, fired, kept, fired_of, change_of}
use Rattle.definition.specs.Signal.{changed_word}
use Rattle.port.specs.places.Table.{only_wait}
use Rattle.port.proofs.places.Lists.{either}
use Rattle.port.proofs.places.Tests.{sound_below}
use Rattle.port.proofs.signal_change.Operations.{change_sound}

fired-one : (one : Bool) (w : ℕ) (tab : List Place) → 0 < length tab → fires one w (get_or tab 0 free) ≡ true
    → fired_of one w (record { packets = 0; waits = 1; table = tab }) ≡ record { packets = 1; waits = 0; table = set tab 0 (observe w (get_or tab 0 free)) }
unfolding fired_of fired kept packets_of waits_of unused_of table_of filter pick
fired-one one w [] h e = absurd (omega arith)
fired-one one w (x ∷ xs) h e = rw e refl

kept-one : (one : Bool) (w : ℕ) (tab : List Place) → 0 < length tab → fires one w (get_or tab 0 free) ≡ false
    → fired_of one w (record { packets = 0; waits = 1; table = tab }) ≡ record { packets = 0; waits = 1; table = tab }
unfolding fired_of fired kept packets_of waits_of unused_of table_of filter pick
kept-one one w [] h e = absurd (omega arith)
kept-one one w (x ∷ xs) h e = rw e refl

module _ (t : Places) (o : only_wait t ≡ true) where
  same : t ≡ record { packets = 0; waits = 1; table = t.table }
  unfolding only_wait
  same =
      let w = both _ _ o in
      ap (λ (n : ℕ). record { packets = n; waits = t.waits; table = t.table }) (eqb-true t.packets 0 w.0)
      ∙ ap (λ (n : ℕ). record { packets = 0; waits = n; table = t.table }) (eqb-true t.waits 1 w.1)

  is-sound : sound t ≡ true
  unfolding only_wait
  is-sound =
      let w = both _ _ o in
      sound_below t (omega (arith, eqb-true t.packets 0 w.0, eqb-true t.waits 1 w.1))

  changed : (one : Bool) (w clear set : ℕ) → (change_of one w clear set t).places ≡ pick (eqb (changed_word clear set w) w) t (fired_of one (changed_word clear set w) t)
  changed one w clear set = ap (λ c. c.places) (change_sound one w clear set t is-sound)

module _ (one : Bool) (w clear put : ℕ) (t : Places) (l : length t.table ≡ 128) where
  abbrev next : ℕ
  next = changed_word clear put w

  pub only_on : (only_wait t and not (eqb next w) and fires one next (get_or t.table 0 free)) ≡ true
      → record { packets = 1; waits = 0; table = set t.table 0 (observe next (get_or t.table 0 free)) } ≡ pick (only_wait t) (change_of one w clear put t).places t
  unfolding pick
  only_on e =
      let a = both _ _ e in
      let b = both _ _ a.1 in
      let other : eqb next w ≡ false = off (eqb next w) b.0 in
      rw (a.0, changed t a.0 one w clear put, other)
      (sym (ap (fired_of one next) (same t a.0) ∙ fired-one one next t.table (omega arith) b.1))
    where
      off : (b : Bool) → not b ≡ true → b ≡ false
      off true e = absurd (false≢true e)
      off false e = refl

  pub only_off : (only_wait t and not (eqb next w) and fires one next (get_or t.table 0 free)) ≡ false
      → t ≡ pick (only_wait t) (change_of one w clear put t).places t
  unfolding pick ◌and◌
  only_off e =
      ⊎_elim
      (λ (o : only_wait t ≡ true).
      ⊎_elim
      (λ (s : eqb next w ≡ true). rw (o, changed t o one w clear put, s) refl)
      (λ (s : eqb next w ≡ false).
      let k : fires one next (get_or t.table 0 free) ≡ false = rw (o, s) at e in
      rw (o, changed t o one w clear put, s)
      (sym (ap (fired_of one next) (same t o) ∙ kept-one one next t.table (omega arith) k ∙ sym (same t o))))
      (either (eqb next w)))
      (λ (o : only_wait t ≡ false). rw o refl)
      (either (only_wait t))
