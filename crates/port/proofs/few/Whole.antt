-- The table that the loops over the first 8 places leave, with its counts. Assumes nothing.
use Prim.Native.Nat.{ℕ, suc, ◌+◌, ◌-◌, ◌≤◌, ◌<◌}
use mathlib.Core.Path.{◌≡◌, refl, sym, ap, ◌∙◌}
use mathlib.Core.Bool.{Bool, true, false}
use mathlib.Core.List.{List, [], ◌∷◌, ◌++◌, append_assoc}
use native.Mathlib.Omega.{arith}
use native.Mathlib.Numerals.{add-one}
use lib.Dec.{leb, ltb}
use lib.ListN.{length, take, drop, set}
use lib.Seq.{slice, slice_empty, set_split, drop-drop}
use borrow.Author.Tests.{ltb-true, ltb-false, leb-true, lt-ltb, le-leb, lt-leb}
use Rattle.definition.specs.Status.{pick, ◌and◌}
use Rattle.definition.specs.declared.Place.{Place}
use Rattle.definition.specs.declared.Places.{Places}
use Rattle.definition.specs.Port.{free, used, appended_of}
use Rattle.port.specs.few.Few.{at_most_seven_used, removed_at, is_among_eight, without_place}
use Rattle.port.proofs.places.Size.{same-places}
use Rattle.port.proofs.waits.Insertion.{placed_as}

-- ---- a wait put behind the waits

-- the place behind those used, written where it stands
put-behind-used : (t : Places) (x : Place) → used t < length t.table
    → ◌≡◌ {A = Places} (record { packets = t.packets; waits = t.waits + 1; table = set t.table (used t) x }) (appended_of x t)
unfolding pick
put-behind-used t x h =
    let u = used t in
    let tab = t.table in
    let rest : drop (suc u) tab ≡ slice u u tab ++ drop 1 (drop u tab) =
    ap (λ (n : ℕ). drop n tab) (sym (add-one u)) ∙ sym (drop-drop 1 u tab) ∙ ap (λ (l : List Place). l ++ drop 1 (drop u tab)) (sym (slice_empty u tab)) in
    same-places (omega arith) (omega arith)
    (set_split tab u x h ∙ sym (append_assoc (take u tab) (x ∷ []) (drop (suc u) tab)) ∙ ap (λ (l : List Place). (take u tab ++ (x ∷ [])) ++ l) rest)
    ∙ placed_as t x false u 0 refl refl h

pub appended_few : (asked : Bool) (t : Places) (x : Place) (room : Bool) (u at more : ℕ) (w : Places) → length t.table ≡ 128
    → room ≡ (asked and leb (used t) 7) → u ≡ pick (leb (used t) 7) (used t) 0 → at ≡ pick room u 8 → more ≡ pick room 1 0
    → w ≡ record { packets = t.packets; waits = t.waits; table = pick (ltb at 8) (set t.table at x) t.table }
    → ◌≡◌ {A = Places} (record { packets = w.packets; waits = t.waits + more; table = w.table }) (pick (asked and at_most_seven_used t) (appended_of x t) t)
unfolding pick ◌and◌ at_most_seven_used
appended_few asked t x room u at more w l r e f g h = rw (h, g, f, e, r) (by asked (leb (used t) 7) refl)
  where
    by : (a b : Bool) → leb (used t) 7 ≡ b
        → ◌≡◌ {A = Places} (record {
          packets = t.packets;
          waits = t.waits + pick (a and leb (used t) 7) 1 0;
          table =
              pick (ltb (pick (a and leb (used t) 7) (pick (leb (used t) 7) (used t) 0) 8) 8)
              (set t.table (pick (a and leb (used t) 7) (pick (leb (used t) 7) (used t) 0) 8) x)
              t.table;
        })
        (pick (a and leb (used t) 7) (appended_of x t) t)
    by true true b =
        let few = leb-true (used t) 7 b in
        rw (b, lt-ltb (used t) 8 (omega (arith, few))) (put-behind-used t x (omega (arith, few, l)))
    by true false b = rw b (same-places refl (omega arith) refl)
    by false b' b = same-places refl (omega arith) refl

-- ---- a place taken out

pub removed_few : (t : Places) (k u ks ls : ℕ) (w : Places) (b₁ b₂ : Bool) (np nw : ℕ) → u ≡ pick (leb (used t) 8) (used t) 0
    → ks ≡ pick (ltb k u) k 8 → ls ≡ pick (ltb k u) (u - 1) 8
    → w ≡ record { packets = t.packets; waits = t.waits; table = pick (ltb ls 8) (removed_at ks ls free t.table) t.table }
    → b₁ ≡ (ltb k u and ltb k t.packets) → np ≡ pick b₁ (t.packets - 1) t.packets
    → b₂ ≡ (ltb k u and leb t.packets k) → nw ≡ pick b₂ (t.waits - 1) t.waits
    → ◌≡◌ {A = Places} (record { packets = np; waits = nw; table = w.table }) (pick (is_among_eight k t) (without_place k t) t)
unfolding pick ◌and◌ is_among_eight without_place
removed_few t k u ks ls w b₁ b₂ np nw eu ek el ew e₁ ep e₂ en = rw (ew, ek, el, ep, e₁, en, e₂, ← eu) (by (ltb k u) refl)
  where
    some : ltb k u ≡ true → (u ≡ used t) × (used t ≤ 8)
    some h = of (leb (used t) 8) refl
      where
        of : (b : Bool) → leb (used t) 8 ≡ b → (u ≡ used t) × (used t ≤ 8)
        of true b = (eu ∙ rw b refl, leb-true (used t) 8 b)
        of false b = absurd (omega (arith, ltb-true k u h, rw b at eu))

    counts : (c : Bool) → ltb k t.packets ≡ c
        → pick (leb t.packets k) (t.waits - 1) t.waits ≡ pick (ltb k t.packets) t.waits (t.waits - 1)
    counts true c = rw (c, lt-leb t.packets k (ltb-true k t.packets c)) refl
    counts false c = rw (c, le-leb t.packets k (ltb-false k t.packets c)) refl

    by : (b : Bool) → ltb k u ≡ b
        → ◌≡◌ {A = Places} (record {
          packets = pick (ltb k u and ltb k t.packets) (t.packets - 1) t.packets;
          waits = pick (ltb k u and leb t.packets k) (t.waits - 1) t.waits;
          table = pick (ltb (pick (ltb k u) (u - 1) 8) 8) (removed_at (pick (ltb k u) k 8) (pick (ltb k u) (u - 1) 8) free t.table) t.table;
        })
        (pick (ltb k u) (record {
          packets = pick (ltb k t.packets) (t.packets - 1) t.packets;
          waits = pick (ltb k t.packets) t.waits (t.waits - 1);
          table = removed_at k (used t - 1) free t.table;
        }) t)
    by true b =
        let s = some b in
        let h = ltb-true k u b in
        rw (b, lt-ltb (u - 1) 8 (omega (arith, s.0, s.1, h)))
        (same-places refl (counts (ltb k t.packets) refl) (ap (λ (n : ℕ). removed_at k (n - 1) free t.table) s.0))
    by false b = rw b refl
