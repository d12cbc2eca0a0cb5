-- Laws of the stored entries, of their tally and of its report. Assumes nothing.
use Prim.Native.Nat.{ℕ, ◌+◌, ◌≤◌, ◌<◌}
use mathlib.Core.Bool.{Bool, true, false}
use native.Mathlib.Omega.{arith}
use mathlib.Core.Path.{◌≡◌, refl, sym, ap, subst, ◌∙◌}
use borrow.Author.Tests.{ltb-true, ltb-false}
use lib.Dec.{ltb, eqb}
use Rattle.definition.specs.Status.{pick}
use mathlib.Core.List.{List, ◌++◌}
use lib.ListN.{length, take, get_or, length-take, length-drop}
use lib.Seq.{ext_get_or}
use Rattle.std.proofs.lemmas.Slice.Zip.{length-zip, get_or-zip}
use Rattle.std.specs.List.{AllWithin, HoldsAt, zip}
use Rattle.std.specs.Option.{MatchOption, option_or}
use Rattle.std.specs.Prelude.{min}
use Rattle.text.specs.Put.{Put, Written}
use Rattle.definition_script.specs.Listing.{start_machine, header, run, listing}
use Rattle.std.specs.Prelude.{Option}
use Rattle.std.specs.declared.option.Option.TheVariants.{None, Some}
use Rattle.std.specs.declared.result.Result.TheVariants.{Ok, Err}
use Rattle.report.specs.declared.tally.Miss.{Miss}
use Rattle.report.specs.declared.tally.Miss.TheVariants.{DiffersAt, NoRoom}
use Rattle.report.specs.declared.tally.MissedEntry.{MissedEntry}
use Rattle.report.specs.declared.tally.Tally.{Tally}
use Rattle.report.specs.tally.Count.{Comparison, missed_entry, counted_of}
use Rattle.report.proofs.tally.Counts.{counted_again, counted-first}
use Rattle.report.specs.report.Report.{REPORT, report_text}
use Rattle.replay.specs.declared.entry.Replayed.{Replayed}
use Rattle.replay.specs.Entry.{entry_bytes, FirstDifference, Compares, EntryIn, room_for, Agreed, Agreement}
use Rattle.replay.specs.Replay.{missed_name, first_name, NameWithin, no_tally, Tallied, begun, next, AllAgree, FirstMissed, AgreeTo, ReplayMay, Replays}

pub listing-is : (s : List ℕ) → header ++ run 0 start_machine s ≡ listing s
unfolding listing
listing-is s = refl

-- the text compared is the script's listing, and is the stored one, or first differs from it
pub agreed :
    {room : ℕ} (s : List ℕ) (at script_end end : ℕ) (text : List ℕ) (u : Unit) → room_for room s at script_end ≤ room → text ≡ listing (entry_bytes s at script_end)
    → text ≡ entry_bytes s script_end end → Agreement room s at script_end end (Ok u)
agreed s at script_end end text u k e h = (sym e ∙ h, k)

pub differs :
    {room i : ℕ} (s : List ℕ) (at script_end end : ℕ) (text : List ℕ) → room_for room s at script_end ≤ room → text ≡ listing (entry_bytes s at script_end)
    → FirstDifference text (entry_bytes s script_end end) i → Agreement room s at script_end end (Err (DiffersAt i))
differs {room} {i} s at script_end end text k e h = (subst (λ (x : List ℕ). FirstDifference x (entry_bytes s script_end end) i) e h, k)

-- where two lists that are not equal first differ: the first place where they do as far as both go, or else the length of the shorter
module _ (a b : List ℕ) (unequal : a ≡ b → ⊥) where
  pair : (k : ℕ) → k < length (zip a b) → get_or (zip a b) k (0, 0) ≡ (get_or a k 0, get_or b k 0)
  pair k h = get_or-zip a b k (0, 0) (omega (arith, length-zip a b)) (omega (arith, length-zip a b))

  pub first_place : {r : Option ℕ} (q : Option ℕ)
      → MatchOption q (AllWithin (λ p. p.0 ≡ p.1) (zip a b) 0 (length (zip a b)))
      (λ i. (i < length (zip a b)) × HoldsAt (λ p. p.0 ≡ p.1 → ⊥) (zip a b) i × AllWithin (λ p. p.0 ≡ p.1) (zip a b) 0 i)
      → r ≡ option_or q (Some (min (length a) (length b))) → Compares a b r
  first_place None h e = rw e (record {
    before = λ k g. rw (pair k (omega (arith, length-zip a b))) at (h k (0, 0) (omega arith) (omega (arith, length-zip a b)));
    in_one = omega arith;
    in_other = omega arith;
    differs = λ f g. absurd (let z : ⊥ = omega arith in z);
    one_goes_on = λ f g. unequal (ext_get_or 0 a b (omega arith) (λ k j. rw (pair k (omega (arith, length-zip a b))) at (h k (0, 0) (omega arith) (omega (arith, length-zip a b)))));
  })
  first_place (Some i) h e = rw e (record {
    before = λ k g. rw (pair k (omega (arith, h.0))) at (h.2 k (0, 0) (omega arith) g);
    in_one = omega (arith, h.0, length-zip a b);
    in_other = omega (arith, h.0, length-zip a b);
    differs = λ f g. rw (pair i h.0) at (h.1 (0, 0));
    one_goes_on = λ f g. omega (arith, h.0, length-zip a b);
  })

-- ---- just one comparison is so of an entry

earlier : (a b : List ℕ) (i j : ℕ) → FirstDifference a b i → FirstDifference a b j → i < j → ⊥
earlier a b i j f g h = f.differs (omega (arith, h, g.in_one)) (omega (arith, h, g.in_other)) (g.before i h)

-- two lists have one place where they first differ
same_place : (a b : List ℕ) (i j : ℕ) → FirstDifference a b i → FirstDifference a b j → i ≡ j
same_place a b i j f g = by (ltb i j) (ltb j i) refl refl
  where
    by : (c d : Bool) → ltb i j ≡ c → ltb j i ≡ d → i ≡ j
    by true d e k = absurd (earlier a b i j f g (ltb-true i j e))
    by false true e k = absurd (earlier a b j i g f (ltb-true j i k))
    by false false e k = omega (arith, ltb-false i j e, ltb-false j i k)

-- and none where they are equal
no_place : (a b : List ℕ) (i : ℕ) → a ≡ b → FirstDifference a b i → ⊥
no_place a b i e f = by (ltb i (length a)) refl
  where
    same : length a ≡ length b
    same = ap length e

    by : (c : Bool) → ltb i (length a) ≡ c → ⊥
    by true k =
        let h = ltb-true i (length a) k in
        f.differs h (omega (arith, h, same)) (ap (λ (x : List ℕ). get_or x i 0) e)
    by false k =
        let h = ltb-false i (length a) k in
        f.one_goes_on (omega (arith, h, f.in_one)) (omega (arith, h, f.in_one, same))

pub one-comparison : (room : ℕ) (s : List ℕ) (at script_end end : ℕ) (o o' : Comparison) → Agreement room s at script_end end o
    → Agreement room s at script_end end o' → o ≡ o'
one-comparison room s at script_end end (Ok u) (Ok v) h k = refl
one-comparison room s at script_end end (Ok u) (Err (DiffersAt j)) h k = absurd (no_place _ _ j h.0 k.0)
one-comparison room s at script_end end (Ok u) (Err NoRoom) h k = absurd (let z : ⊥ = omega (arith, h.1, k) in z)
one-comparison room s at script_end end (Err (DiffersAt i)) (Ok v) h k = absurd (no_place _ _ i k.0 h.0)
one-comparison room s at script_end end (Err (DiffersAt i)) (Err (DiffersAt j)) h k = ap (λ (x : ℕ). Err (DiffersAt x)) (same_place _ _ i j h.0 k.0)
one-comparison room s at script_end end (Err (DiffersAt i)) (Err NoRoom) h k = absurd (let z : ⊥ = omega (arith, h.1, k) in z)
one-comparison room s at script_end end (Err NoRoom) (Ok v) h k = absurd (let z : ⊥ = omega (arith, k.1, h) in z)
one-comparison room s at script_end end (Err NoRoom) (Err (DiffersAt j)) h k = absurd (let z : ⊥ = omega (arith, k.1, h) in z)
one-comparison room s at script_end end (Err NoRoom) (Err NoRoom) h k = refl

-- ---- what the loop needs of a tally

pub counted-total : (t : Tally) (from to : ℕ) (o : Comparison) → (counted_of t from to o).total ≡ t.total + 1
unfolding counted_of missed_entry
counted-total t from to (Ok u) = refl
counted-total t from to (Err m) = refl

pub counted-most : (t : Tally) (from to : ℕ) (o : Comparison) → t.agree ≤ t.total → (counted_of t from to o).agree ≤ (counted_of t from to o).total
unfolding counted_of missed_entry
counted-most t from to (Ok u) h = omega arith
counted-most t from to (Err m) h = omega arith

-- where as many agree as were run, the last agrees and as many agreed before it
pub counted-all : (room at script_end end : ℕ) (s : List ℕ) (t : Tally) (from to : ℕ) (o : Comparison) → t.agree ≤ t.total → Agreement room s at script_end end o
    → (counted_of t from to o).agree ≡ (counted_of t from to o).total → (t.agree ≡ t.total) × Agreed s at script_end end
unfolding counted_of missed_entry
counted-all room at script_end end s t from to (Ok u) h a e = (omega arith, a.0)
counted-all room at script_end end s t from to (Err m) h a e = absurd (let z : ⊥ = omega (arith, e, h) in z)

-- ---- the first that does not agree

-- its name lies within the input
pick-within : {from to : ℕ} (s : List ℕ) (t : Tally) (number : ℕ) (m : Miss) (b : Bool) → NameWithin s t → (from ≤ to) × (to ≤ length s)
    → (e : MissedEntry) → pick b t.first (Some (record { number = number; from = from; to = to; miss = m })) ≡ Some e → (e.from ≤ e.to) × (e.to ≤ length s)
unfolding pick
pick-within s t number m true h g e k = h e k
pick-within {from} {to} s t number m false h g e k =
    let p : record { number = number; from = from; to = to; miss = m } ≡ e = cc in
    rw (← p) g

counted-within : (s : List ℕ) (t : Tally) (from to : ℕ) (o : Comparison) → NameWithin s t → (from ≤ to) × (to ≤ length s) → NameWithin s (counted_of t from to o)
unfolding counted_of missed_entry
counted-within s t from to (Ok u) h g = h
counted-within s t from to (Err m) h g = pick-within s t t.total m (ltb t.agree t.total) h g

none_within : (s : List ℕ) → NameWithin s no_tally
unfolding no_tally
none_within s m e = absurd (let z : ⊥ = cc in z)

pub name-within : {s out₀ out : List ℕ} {at : ℕ} {t : Tally} → Tallied s out₀ at t out → NameWithin s t
name-within {s} begun = none_within s
name-within {s} (next {at} {nameEnd} t o k e r) =
    counted-within s t (at + 4) nameEnd o (name-within k) (omega (arith, e.name), omega (arith, e.behind.script, e.behind.stored, e.behind.within))

-- where as many agree as were run, it holds none
none-counted : (t : Tally) (from to : ℕ) (o : Comparison) → t.agree ≤ t.total → (t.agree ≡ t.total → t.first ≡ None)
    → (counted_of t from to o).agree ≡ (counted_of t from to o).total → (counted_of t from to o).first ≡ None
unfolding counted_of missed_entry
none-counted t from to (Ok u) h k e = k (omega (arith, e))
none-counted t from to (Err m) h k e = absurd (let z : ⊥ = omega (arith, e, h) in z)

none_tallied : (no_tally.agree ≤ no_tally.total) × (no_tally.agree ≡ no_tally.total → no_tally.first ≡ None)
unfolding no_tally
none_tallied = (omega arith, λ e. refl)

pub none_missed_lem : {s out₀ out : List ℕ} {at : ℕ} {t : Tally} → Tallied s out₀ at t out → (t.agree ≤ t.total) × (t.agree ≡ t.total → t.first ≡ None)
none_missed_lem begun = none_tallied
none_missed_lem (next {at} {nameEnd} t o k e r) =
    let h = none_missed_lem k in
    (counted-most t (at + 4) nameEnd o h.0, none-counted t (at + 4) nameEnd o h.0 h.1)

-- a tally that holds the same entry
kept : {room : ℕ} {s : List ℕ} (t : Tally) (total agree : ℕ) → FirstMissed room s t
    → FirstMissed room s (record { total = total; agree = agree; first = t.first })
unfolding first_name
kept t total agree m =
    record {
      missed = m.missed;
      held = m.held;
      at = m.at;
      script_end = m.script_end;
      end = m.end;
      before = m.before;
      entry = m.entry;
      name = m.name;
      comparison = m.comparison;
    }

module _ {room at nameEnd script_end end : ℕ} {s : List ℕ} (t : Tally) (most : t.agree ≤ t.total)
    (all : t.agree ≡ t.total → AllAgree s t.total at) (first : t.agree < t.total → FirstMissed room s t)
    (entry : EntryIn s at nameEnd script_end end) where
  -- an entry that does not agree is counted: it is the first, or there was one before it
  first-missed : (m : Miss) → Agreement room s nameEnd script_end end (Err m) → (b : Bool) → ltb t.agree t.total ≡ b
      → FirstMissed room s (counted_of t (at + 4) nameEnd (Err m))
  unfolding first_name missed_name
  first-missed m a true e =
      let g = ltb-true t.agree t.total e in
      subst (λ (x : Tally). FirstMissed room s x) (counted_again t (at + 4) nameEnd m g) (kept t (t.total + 1) t.agree (first g))
  first-missed m a false e =
      let g = ltb-false t.agree t.total e in
      let x : MissedEntry = record { number = t.total; from = at + 4; to = nameEnd; miss = m } in
      let f : FirstMissed room s (record { total = t.total + 1; agree = t.agree; first = Some x }) =
      record { missed = x; held = refl; at = at; script_end = script_end; end = end; before = all (omega arith); entry = entry; name = refl; comparison = a } in
      subst (λ (y : Tally). FirstMissed room s y) (counted-first t (at + 4) nameEnd m g) f

  pub first_counted : (o : Comparison) → Agreement room s nameEnd script_end end o
      → (counted_of t (at + 4) nameEnd o).agree < (counted_of t (at + 4) nameEnd o).total → FirstMissed room s (counted_of t (at + 4) nameEnd o)
  unfolding counted_of
  first_counted (Ok u) a h = kept t (t.total + 1) (t.agree + 1) (first (omega arith))
  first_counted (Err m) a h = first-missed m a (ltb t.agree t.total) refl

-- ---- the report

-- a name is no longer than the input
name-short : (s : List ℕ) (o : Option MissedEntry) → length (missed_name s o) ≤ length s
unfolding missed_name
name-short s None = omega arith
name-short s (Some m) = simp (length-take, length-drop) (omega arith)

module _ {input s out left out' name : List ℕ} {used n : ℕ} {r : Replayed} (may : ReplayMay input used out) (in_use : s ≡ take used input)
    (ran : AgreeTo s out left r) (named : name ≡ first_name s r.tally) (same : length left ≡ length out)
    (written : Written (length name + REPORT) 0 (report_text r.tally name (ltb r.at used) (eqb used (length input))) n left out') where
  -- a name in the bytes in use is no longer than they are, so that the report has room
  pub report-put : Put (length name + REPORT) 0 (report_text r.tally name (ltb r.at used) (eqb used (length input))) n left out'
  unfolding first_name
  report-put =
      let m : length name ≤ used = rw (named, in_use) (omega (arith, name-short (take used input) r.tally.first, length-take used input)) in
      written.fit.put (omega (arith, may.room))

  -- what the runs left, and the report over it
  pub replays : Replays input used out out'
  replays = record { ran = r; left = left; counted = rw in_use at ran; report = rw (named, in_use) at report-put.out }
