-- The queue of an end holds, byte by byte, what stands at the origins of its line, and its lengths are those of the line's groups. From that:
-- the record is sound, its slices are long enough, and the first length is that of the first group. Assumes nothing.
use Prim.Native.Nat.{ℕ, ◌≤◌, ◌<◌}
use mathlib.Core.Path.{◌≡◌, refl, sym, ap, ◌∙◌}
use mathlib.Core.Bool.{Bool, true, false}
use mathlib.Core.List.{List, [], ◌∷◌, map}
use mathlib.Core.Option.{Option, some}
use native.Mathlib.Omega.{arith}
use lib.ListN.{length, get_or, length-append, length-map}
use lib.Dec.{ltb, eqb}
use borrow.Author.Tests.{lt-ltb, le-ltb, le-leb, eq-eqb, ne_eqb}
use Rattle.definition.specs.Status.{pick, ◌and◌, ◌or◌}
use Rattle.definition.specs.Ring.{front}
use Rattle.ring.proofs.copy.Laws.{length_front, front-first}
use Rattle.definition.specs.declared.Queue.{Queue}
use Rattle.definition.specs.Tests.{sound_lengths, sound_queue, short_table, short_slices, has_length, first_length, bad_first, lent_of}
use Rattle.definition.specs.Calls.{Slices}
use Rattle.definition_runs.specs.TwoRuns.{Origin, OriginLine, flat}
use Rattle.definition_runs.proofs.Lists.{Full, full_length, full_more, head_length}

-- the lengths of an end's ring and table
pub record Size : Type 0 where
  pub ring : ℕ
  pub table : ℕ

pub record Holds (f : Origin → Option ℕ) (dg : Bool) (C : ℕ) (z : Size) (q : Queue) (l : Slices) (g : OriginLine) : Type 0 where
  pub start : q.bytes.start < C
  pub first : q.lengths.start < C
  pub room : q.bytes.count ≤ C
  pub ring : length l.ring ≡ z.ring
  pub table : length l.table ≡ z.table
  pub long : C ≤ z.ring
  pub wide : dg ≡ true → C ≤ z.table
  pub bytes : map some (front C q.bytes.start q.bytes.count l.ring) ≡ map f (flat g)
  pub groups : dg ≡ true → q.lengths.count ≡ length g
  pub lengths : dg ≡ true → front C q.lengths.start q.lengths.count l.table ≡ map length g
  pub full : dg ≡ true → Full g

pub absurd_bool : {X : Type 0} → ◌≡◌ {A = Bool} false true → X
absurd_bool e = absurd (let z : ◌≡◌ {A = ℕ} 0 1 = cc in omega arith)

-- ---- what it says

-- the first length
unfoldable pub first_of : Bool → OriginLine → ℕ
first_of dg g = pick dg (head_length g) 0

module _ (f : Origin → Option ℕ) (dg : Bool) (C : ℕ) (z : Size) (q : Queue) (l : Slices) (g : OriginLine) (h : Holds f dg C z q l g) where
  pub count-flat : q.bytes.count ≡ length (flat g)
  count-flat =
      sym (length_front C q.bytes.start q.bytes.count l.ring h.start h.room (omega (arith, h.ring, h.long)))
      ∙ sym (length-map (front C q.bytes.start q.bytes.count l.ring) some)
      ∙ ap length h.bytes
      ∙ length-map (flat g) f

  pub few : dg ≡ true → q.lengths.count ≤ q.bytes.count
  few d = omega (arith, count-flat, h.groups d, full_length (h.full d))

  pub ring_long : C ≤ length l.ring
  ring_long = omega (arith, h.ring, h.long)

  pub table-long : dg ≡ true → C ≤ length l.table
  table-long d = omega (arith, h.table, h.wide d)

-- the length that stands first in the table, by the groups: none, or that of the first
first_in : (C a n : ℕ) (table : List ℕ) (g : OriginLine) → a < C → n ≤ C → C ≤ length table → n ≡ length g → front C a n table ≡ map length g
    → pick (ltb 0 n) (get_or table a 0) 0 ≡ head_length g
unfolding head_length pick
first_in C a n table [] low room wide e k = rw (le-ltb 0 n (omega arith))
first_in C a n table (x ∷ g) low room wide e k =
    rw (lt-ltb 0 n (omega arith))
    (sym (front-first C a n table 0 (omega arith) room low wide) ∙ ap (λ (r : List ℕ). get_or r 0 0) k)

pub first-is : (f : Origin → Option ℕ) (dg : Bool) (C : ℕ) (z : Size) (q : Queue) (l : Slices) (g : OriginLine) → Holds f dg C z q l g
    → first_length dg q l.table ≡ first_of dg g
unfolding first_length has_length first_of pick ◌and◌
first-is f true C z q l g h =
    first_in C q.lengths.start q.lengths.count l.table g h.first (omega (arith, few f true C z q l g h refl, h.room))
    (table-long f true C z q l g h refl) (h.groups refl) (h.lengths refl)
first-is f false C z q l g h = refl

-- what is lent, from the lengths of the slices and the line
pub lent_is : (f : Origin → Option ℕ) (dg : Bool) (C : ℕ) (z : Size) (q : Queue) (l : Slices) (g : OriginLine) → Holds f dg C z q l g
    → lent_of dg q l.ring l.table ≡ record { ring = z.ring; table = z.table; first = first_of dg g }
unfolding lent_of
lent_is f dg C z q l g h = λ i. record { ring = h.ring i; table = h.table i; first = first-is f dg C z q l g h i }

-- the record is sound
sound_lengths_lem : (q : Queue) (g : OriginLine) → q.lengths.count ≤ q.bytes.count → q.lengths.count ≡ length g → q.bytes.count ≡ length (flat g) → sound_lengths q ≡ true
unfolding sound_lengths pick ◌and◌ flat
sound_lengths_lem q [] few e k =
    rw (le-leb q.lengths.count q.bytes.count few, eq-eqb q.lengths.count 0 e, eq-eqb q.bytes.count 0 k)
sound_lengths_lem q (x ∷ g) few e k =
    rw (le-leb q.lengths.count q.bytes.count few, ne_eqb q.lengths.count 0 (λ z. omega arith), ne_eqb q.bytes.count 0 (λ z. omega arith))

pub sound_queue_lem : (f : Origin → Option ℕ) (dg : Bool) (C : ℕ) (z : Size) (q : Queue) (l : Slices) (g : OriginLine) → Holds f dg C z q l g
    → sound_queue dg C q ≡ true
unfolding sound_queue pick ◌and◌
sound_queue_lem f true C z q l g h =
    rw (lt-ltb q.bytes.start C h.start, lt-ltb q.lengths.start C h.first, le-leb q.bytes.count C h.room)
    (sound_lengths_lem q g (few f true C z q l g h refl) (h.groups refl) (count-flat f true C z q l g h))
sound_queue_lem f false C z q l g h =
    rw (lt-ltb q.bytes.start C h.start, lt-ltb q.lengths.start C h.first, le-leb q.bytes.count C h.room)

-- its slices are long enough
pub table-wide : (f : Origin → Option ℕ) (dg : Bool) (C : ℕ) (z : Size) (q : Queue) (l : Slices) (g : OriginLine) → Holds f dg C z q l g
    → short_table dg C z.table ≡ false
unfolding short_table ◌and◌
table-wide f true C z q l g h = le-ltb z.table C (h.wide refl)
table-wide f false C z q l g h = refl

pub slices_long : (f : Origin → Option ℕ) (dg : Bool) (C : ℕ) (z : Size) (q : Queue) (l : Slices) (g : OriginLine) → Holds f dg C z q l g
    → short_slices dg C z.ring z.table ≡ false
unfolding short_slices ◌or◌
slices_long f dg C z q l g h = rw (le-ltb z.ring C h.long) (table-wide f dg C z q l g h)

-- its first length is good
first-within : (q : Queue) (g : OriginLine) → q.lengths.count ≡ length g → q.bytes.count ≡ length (flat g) → Full g
    → (ltb 0 q.lengths.count and (eqb (head_length g) 0 or ltb q.bytes.count (head_length g))) ≡ false
unfolding head_length flat ◌and◌ ◌or◌
first-within q [] e k full = rw (le-ltb 0 q.lengths.count (omega arith))
first-within q (x ∷ g) e k (full_more any fs) =
    rw (
      lt-ltb 0 q.lengths.count (omega arith),
      ne_eqb (length x) 0 (λ z. omega arith),
      le-ltb q.bytes.count (length x) (omega (arith, length-append x (flat g))),
    )

pub first_good : (f : Origin → Option ℕ) (dg : Bool) (C : ℕ) (z : Size) (q : Queue) (l : Slices) (g : OriginLine) → Holds f dg C z q l g
    → bad_first dg q (first_of dg g) ≡ false
unfolding bad_first has_length first_of pick ◌and◌
first_good f true C z q l g h = first-within q g (h.groups refl) (count-flat f true C z q l g h) (h.full refl)
first_good f false C z q l g h = refl
