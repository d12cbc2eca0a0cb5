-- A cancel that matches one place of a table: the place is taken out; and a wait behind the others is what registering gives. Assumes nothing.
use Prim.Native.Nat.{ℕ, suc, ◌+◌, ◌-◌, ◌≤◌, ◌<◌}
use mathlib.Core.Path.{◌≡◌, refl, sym, ap, ◌∙◌}
use mathlib.Core.Bool.{Bool, true, false, not}
use mathlib.Core.List.{List, ◌∷◌, ◌++◌, append_assoc}
use native.Mathlib.Omega.{arith}
use lib.Dec.{leb, ltb, eqb}
use lib.ListN.{length, take, drop, replicate, length-append}
use lib.Seq.{slice, length-take-le, take-take}
use borrow.Author.Tests.{leb-true, eqb-true, ltb-true, lt-ltb}
use Rattle.definition.specs.Status.{pick, ◌and◌}
use Rattle.definition.specs.declared.Place.{Place}
use Rattle.definition.specs.declared.Places.{Places}
use Rattle.definition.specs.Port.{filter, free, used, packets_of, waits_of, unused_of, table_of, wait_of, done, appended_of, registered_of, register_of, matches, unmatched, matching, cancelled_of}
use Rattle.port.specs.few.Few.{index_of, only_match, removed_at, is_among_eight, without_place}
use Rattle.endpoint.proofs.answer.Chains.{both}
use Rattle.definition.specs.declared.Next.{Next}
use Rattle.definition.specs.Signal.{meets}
use Rattle.port.proofs.waits.Operations.{register_done}
use Rattle.port.proofs.places.Lists.{two_parts, filter-append, length-filter}
use Rattle.port.proofs.places.Size.{same-places}
use Rattle.port.proofs.waits.Sound.{length-packets, length_waits}
use Rattle.port.proofs.few.Lists.{others_of_one, one_among}

module _ (one : Bool) (key : ℕ) (t : Places) (h : used t ≤ length t.table) where
  abbrev f : Place → Bool
  f = matches one key

  -- how many of the used places match
  pub all-matching : length (filter f (take (used t) t.table)) ≡ matching one key t
  unfolding matching packets_of waits_of
  all-matching =
      let ps = take t.packets t.table in
      let ws = slice t.packets (used t) t.table in
      ap (λ (l : List Place). length (filter f l)) (two_parts t.table t.packets (used t) (omega arith))
      ∙ ap length (filter-append f ps ws)
      ∙ length-append (filter f ps) (filter f ws)

  module _ (e : matching one key t ≡ 1) where
    abbrev at : ℕ
    at = index_of f (take (used t) t.table)

    -- it stands among those used
    pub at-used : at < used t
    at-used =
        let n = (others_of_one f (take (used t) t.table) (all-matching ∙ e)).0 in
        omega (arith, n, length-take-le (used t) t.table h)

    -- how many packets match
    packets-matching : length (filter f (packets_of t)) ≡ pick (ltb at t.packets) 1 0
    unfolding packets_of
    packets-matching =
        let ps = take t.packets t.table in
        let ws = slice t.packets (used t) t.table in
        let parts = two_parts t.table t.packets (used t) (omega arith) in
        one_among f ps ws (ap (λ (l : List Place). length (filter f l)) (sym parts) ∙ all-matching ∙ e)
        ∙ ap (λ (l : List Place). pick (ltb (index_of f l) (length ps)) 1 0) (sym parts)
        ∙ ap (λ (n : ℕ). pick (ltb at n) 1 0) (length-take-le t.packets t.table (omega arith))

    -- what is left of the used places
    left : filter (λ p. not (f p)) (packets_of t) ++ filter (λ p. not (f p)) (waits_of t) ≡ take at t.table ++ slice (suc at) (used t) t.table
    unfolding packets_of waits_of
    left =
        let ps = take t.packets t.table in
        let ws = slice t.packets (used t) t.table in
        sym (filter-append (λ p. not (f p)) ps ws)
        ∙ ap (filter (λ p. not (f p))) (sym (two_parts t.table t.packets (used t) (omega arith)))
        ∙ (others_of_one f (take (used t) t.table) (all-matching ∙ e)).1
        ∙ ap (λ (l : List Place). l ++ slice (suc at) (used t) t.table) (take-take at (used t) t.table (omega (arith, at-used)))

    matching_parts : length (filter f (packets_of t)) + length (filter f (waits_of t)) ≡ 1
    unfolding matching
    matching_parts = e

    left-table : removed_at at (used t - 1) free t.table
        ≡ filter (λ p. not (f p)) (packets_of t) ++ (filter (λ p. not (f p)) (waits_of t) ++ (replicate (matching one key t) free ++ unused_of t))
    unfolding removed_at unused_of
    left-table =
        let last : suc (used t - 1) ≡ used t = omega (arith, at-used) in
        let a = take at t.table in
        let b = slice (suc at) (used t) t.table in
        let c = free ∷ drop (used t) t.table in
        ap (λ (n : ℕ). a ++ (slice (suc at) n t.table ++ (free ∷ drop n t.table))) last
        ∙ sym (append_assoc a b c)
        ∙ ap (λ (l : List Place). l ++ c) (sym left)
        ∙ append_assoc (filter (λ p. not (f p)) (packets_of t)) (filter (λ p. not (f p)) (waits_of t)) c
        ∙ ap
        (λ (n : ℕ). filter (λ p. not (f p)) (packets_of t) ++ (filter (λ p. not (f p)) (waits_of t) ++ (replicate n free ++ drop (used t) t.table)))
        (sym e)

    pub one-cancelled : without_place at t ≡ cancelled_of one key t
    unfolding without_place cancelled_of table_of unmatched pick
    one-cancelled = by (ltb at t.packets) refl
      where
        by : (b : Bool) → ltb at t.packets ≡ b
            → ◌≡◌ {A = Places} (record {
              packets = pick (ltb at t.packets) (t.packets - 1) t.packets;
              waits = pick (ltb at t.packets) t.waits (t.waits - 1);
              table = removed_at at (used t - 1) free t.table;
            })
            (record {
              packets = length (filter (λ p. not (f p)) (packets_of t));
              waits = length (filter (λ p. not (f p)) (waits_of t));
              table = filter (λ p. not (f p)) (packets_of t) ++ (filter (λ p. not (f p)) (waits_of t) ++ (replicate (matching one key t) free ++ unused_of t));
            })
        by true b =
            let m : length (filter f (packets_of t)) ≡ 1 = rw b at packets-matching in
            rw b
            (same-places
            (omega (arith, m, length-filter f (packets_of t), length-packets t h))
            (omega (arith, m, matching_parts, length-filter f (waits_of t), length_waits t h))
            left-table)
        by false b =
            let m : length (filter f (packets_of t)) ≡ 0 = rw b at packets-matching in
            rw b
            (same-places
            (omega (arith, m, length-filter f (packets_of t), length-packets t h))
            (omega (arith, m, matching_parts, length-filter f (waits_of t), length_waits t h))
            left-table)

-- ---- the place that the code found

-- a cancel that is done, and what it leaves
pub record OnlyOne (asked one : Bool) (key : ℕ) (t : Places) (k : ℕ) : Type 0 where
  pub done : asked ≡ true
  pub count : matching one key t ≡ 1
  pub left : pick (is_among_eight k t) (without_place k t) t ≡ cancelled_of one key t

pub only_one : (asked one : Bool) (key : ℕ) (t : Places) (k : ℕ) → length t.table ≡ 128 → k ≡ only_match asked one key t → ltb k 8 ≡ true
    → OnlyOne asked one key t k
unfolding only_match pick is_among_eight
only_one asked one key t k l e b = by (asked and (leb (used t) 8 and eqb (matching one key t) 1)) refl
  where
    by : (y : Bool) → (asked and (leb (used t) 8 and eqb (matching one key t) 1)) ≡ y → OnlyOne asked one key t k
    by true y =
        let a = both _ _ y in
        let c = both _ _ a.1 in
        let m = eqb-true (matching one key t) 1 c.1 in
        let few = leb-true (used t) 8 c.0 in
        let h : used t ≤ length t.table = omega (arith, few, l) in
        let at : k ≡ index_of (matches one key) (take (used t) t.table) = e ∙ rw y refl in
        let below = at-used one key t h m in
        record {
          done = a.0;
          count = m;
          left = rw (c.0, lt-ltb k (used t) (omega (arith, below, at))) (rw at (one-cancelled one key t h m));
        }
    by false y = absurd (omega (arith, ltb-true k 8 b, rw y at e))

-- a wait that does not fire as it is registered goes behind the others
pub appended_register : (one : Bool) (w key mask : ℕ) (edge : Bool) (t : Places) → (not edge and meets w mask) ≡ false → used t < 128
    → appended_of (wait_of one key mask) t ≡ (register_of one w key mask edge t).places
unfolding registered_of pick ◌and◌ done wait_of
appended_register one w key mask true t n h = sym (ap (λ (x : Next). x.places) (register_done one w key mask true t h))
appended_register one w key mask false t n h = sym (ap (λ (x : Next). x.places) (register_done one w key mask false t h) ∙ rw n refl)
