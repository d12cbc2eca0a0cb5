-- The queue still holds its line where bytes go in, where bytes leave, and where it vanishes. Assumes nothing.
use Prim.Native.Nat.{ℕ, suc, ◌+◌, ◌≤◌, ◌<◌}
use mathlib.Core.Path.{◌≡◌, refl, sym, ap, ◌∙◌}
use mathlib.Core.Bool.{Bool, true, false}
use mathlib.Core.List.{List, [], ◌∷◌, ◌++◌, map, append-nil}
use mathlib.Core.Option.{Option, some}
use native.Mathlib.Omega.{arith}
use lib.ListN.{length, take, drop, length-append, length-set}
use lib.Seq.{drop-append_seam}
use Rattle.definition.specs.Status.{pick}
use Rattle.definition.specs.Ring.{position, front}
use Rattle.ring.proofs.copy.Laws.{place-lt, front-none, front-put, front-set, take-front, drop-front, length-put}
use Rattle.definition.specs.declared.Queue.{Queue}
use Rattle.definition.specs.Pair.{no_queue}
use Rattle.definition.specs.Read.{leaving, drained_queue}
use Rattle.definition.specs.Write.{fed_queue, ring_fed, table_fed}
use Rattle.definition.specs.Calls.{Slices}
use Rattle.definition_runs.specs.TwoRuns.{Origin, OriginLine, flat, shrunk}
use Rattle.definition_runs.proofs.Lists.{map-append, map-drop, map-take, flat-snoc, full_snoc, full_drop, full_none, head_length}
use Rattle.definition_runs.proofs.Holds.{Size, Holds, absurd_bool, first_of, count-flat, few, ring_long, table-long}

-- ---- bytes go in

-- m bytes that stand at the origins of any group, of one write or of many
module _ (f : Origin → Option ℕ) (C : ℕ) (z : Size) (q : Queue) (l : Slices) (g : OriginLine) (group : List Origin) (m : ℕ) (xs : List ℕ)
    (any : 0 < m) (fits : q.bytes.count + m ≤ C) (has : m ≤ length xs) (size : length group ≡ m) (at : map f group ≡ map some (take m xs)) where
  fed-bytes : (dg : Bool) → Holds f dg C z q l g
      → map some (front C q.bytes.start (q.bytes.count + m) (ring_fed C q m xs l.ring)) ≡ map f (flat (g ++ (group ∷ [])))
  unfolding ring_fed
  fed-bytes dg h =
      ap (map some) (front-put C q.bytes.start q.bytes.count m xs l.ring h.start fits (ring_long f dg C z q l g h) has)
      ∙ map-append some (front C q.bytes.start q.bytes.count l.ring) (take m xs)
      ∙ ap (λ (x : List (Option ℕ)). x ++ map some (take m xs)) h.bytes
      ∙ ap (λ (x : List (Option ℕ)). map f (flat g) ++ x) (sym at)
      ∙ sym (ap (map f) (flat-snoc g group) ∙ map-append f (flat g) group)

  fed-ring : (dg : Bool) → Holds f dg C z q l g → length (ring_fed C q m xs l.ring) ≡ z.ring
  unfolding ring_fed
  fed-ring dg h =
      length-put C (position C q.bytes.start q.bytes.count) m xs l.ring (place-lt C q.bytes.start q.bytes.count h.start h.room)
      (omega arith) has (ring_long f dg C z q l g h)
      ∙ h.ring

  pub fed-holds : (dg : Bool) → Holds f dg C z q l g
      → Holds f dg C z (fed_queue dg m q) (record { ring = ring_fed C q m xs l.ring; table = table_fed dg C q m l.table }) (g ++ (group ∷ []))
  unfolding fed_queue table_fed pick
  fed-holds true h =
      let below : q.lengths.count < C = omega (arith, few f true C z q l g h refl) in
      record {
        start = h.start;
        first = h.first;
        room = fits;
        ring = fed-ring true h;
        table = length-set l.table (position C q.lengths.start q.lengths.count) m ∙ h.table;
        long = h.long;
        wide = h.wide;
        bytes = fed-bytes true h;
        groups = λ d. omega (arith, h.groups refl, length-append g (group ∷ []));
        lengths = λ d.
            front-set C q.lengths.start q.lengths.count m l.table h.first below (table-long f true C z q l g h refl)
            ∙ ap (λ (x : List ℕ). x ++ (m ∷ [])) (h.lengths refl)
            ∙ sym (map-append length g (group ∷ []) ∙ ap (λ (n : ℕ). map length g ++ (n ∷ [])) size);
        full = λ d. full_snoc group (h.full refl) (omega (arith, size));
      }
  fed-holds false h =
      record {
        start = h.start;
        first = h.first;
        room = fits;
        ring = fed-ring false h;
        table = h.table;
        long = h.long;
        wide = h.wide;
        bytes = fed-bytes false h;
        groups = λ d. absurd_bool d;
        lengths = λ d. absurd_bool d;
        full = λ d. absurd_bool d;
      }

-- ---- bytes leave

-- what a read that delivers k, more than 0, finds: on datagram pairs bytes are queued, else k of them
pub record Taken (dg : Bool) (count first k : ℕ) : Type 0 where
  pub any : 0 < count
  pub part : dg ≡ true → k ≤ first
  pub stream : dg ≡ false → k ≤ count

flat-cons : (x : List Origin) (g : OriginLine) → length (flat (x ∷ g)) ≡ length x + length (flat g)
unfolding flat
flat-cons x g = length-append x (flat g)

-- a datagram leaves with its group
datagram_leaves : (f : Origin → Option ℕ) (C : ℕ) (z : Size) (q : Queue) (l : Slices) (g : OriginLine) → 0 < q.bytes.count
    → Holds f true C z q l g → Holds f true C z (drained_queue true C (head_length g) q) l (drop 1 g)
unfolding drained_queue head_length pick flat
datagram_leaves f C z q l [] any h = absurd (omega (arith, count-flat f true C z q l [] h))
datagram_leaves f C z q l (x ∷ g) any h =
    let all : q.bytes.count ≡ length x + length (flat g) = count-flat f true C z q l (x ∷ g) h ∙ flat-cons x g in
    let more : q.lengths.count ≡ suc (length g) = h.groups refl in
    let below : q.lengths.count ≤ C = omega (arith, few f true C z q l (x ∷ g) h refl, h.room) in
    record {
      start = place-lt C q.bytes.start (length x) h.start (omega (arith, h.room));
      first = place-lt C q.lengths.start 1 h.first (omega (arith, h.first));
      room = omega (arith, h.room);
      ring = h.ring;
      table = h.table;
      long = h.long;
      wide = h.wide;
      bytes =
          ap (map some) (sym (drop-front C q.bytes.start q.bytes.count (length x) l.ring (omega arith) h.room h.start (ring_long f true C z q l (x ∷ g) h)))
          ∙ sym (map-drop some (length x) (front C q.bytes.start q.bytes.count l.ring))
          ∙ ap (drop (length x)) h.bytes
          ∙ map-drop f (length x) (x ++ flat g)
          ∙ ap (map f) (drop-append_seam x (flat g));
      groups = λ d. omega arith;
      lengths = λ d.
          sym (drop-front C q.lengths.start q.lengths.count 1 l.table (omega arith) below h.first (table-long f true C z q l (x ∷ g) h refl))
          ∙ ap (drop 1) (h.lengths refl);
      full = λ d. full_drop (h.full refl);
    }

-- k bytes leave a stream
stream_leaves : (f : Origin → Option ℕ) (C : ℕ) (z : Size) (q : Queue) (l : Slices) (g : OriginLine) (k : ℕ) → k ≤ q.bytes.count
    → Holds f false C z q l g → Holds f false C z (drained_queue false C k q) l (drop k (flat g) ∷ [])
unfolding drained_queue pick flat
stream_leaves f C z q l g k within h =
    record {
      start = place-lt C q.bytes.start k h.start (omega (arith, h.room));
      first = h.first;
      room = omega (arith, h.room);
      ring = h.ring;
      table = h.table;
      long = h.long;
      wide = h.wide;
      bytes =
          ap (map some) (sym (drop-front C q.bytes.start q.bytes.count k l.ring within h.room h.start (ring_long f false C z q l g h)))
          ∙ sym (map-drop some k (front C q.bytes.start q.bytes.count l.ring))
          ∙ ap (drop k) h.bytes
          ∙ map-drop f k (flat g)
          ∙ ap (map f) (sym (append-nil (drop k (flat g))));
      groups = λ d. absurd_bool d;
      lengths = λ d. absurd_bool d;
      full = λ d. absurd_bool d;
    }

pub drained_holds : (f : Origin → Option ℕ) (dg : Bool) (C : ℕ) (z : Size) (q : Queue) (l : Slices) (g : OriginLine) (k : ℕ)
    → Taken dg q.bytes.count (first_of dg g) k
    → Holds f dg C z q l g → Holds f dg C z (drained_queue dg C (leaving dg (first_of dg g) k) q) l (shrunk dg k g)
unfolding leaving first_of shrunk pick
drained_holds f true C z q l g k t h = datagram_leaves f C z q l g t.any h
drained_holds f false C z q l g k t h = stream_leaves f C z q l g k (t.stream refl) h

-- ---- the queue vanishes

pub no-holds : (f : Origin → Option ℕ) (dg : Bool) (C : ℕ) (z : Size) (l : Slices) → 0 < C → length l.ring ≡ z.ring → length l.table ≡ z.table
    → C ≤ z.ring → (dg ≡ true → C ≤ z.table) → Holds f dg C z no_queue l []
unfolding no_queue flat
no-holds f dg C z l low ring table long wide =
    record {
      start = low;
      first = low;
      room = omega arith;
      ring = ring;
      table = table;
      long = long;
      wide = wide;
      bytes = ap (map some) (front-none C 0 l.ring);
      groups = λ d. refl;
      lengths = λ d. front-none C 0 l.table;
      full = λ d. full_none;
    }

-- ---- what is delivered: the first k of the queue are those of the line

pub front-line : (f : Origin → Option ℕ) (dg : Bool) (C : ℕ) (z : Size) (q : Queue) (l : Slices) (g : OriginLine) (k : ℕ) → k ≤ q.bytes.count
    → Holds f dg C z q l g → map some (front C q.bytes.start k l.ring) ≡ map f (take k (flat g))
front-line f dg C z q l g k within h =
    ap (map some) (sym (take-front C q.bytes.start q.bytes.count k l.ring within h.room h.start (ring_long f dg C z q l g h)))
    ∙ sym (map-take some k (front C q.bytes.start q.bytes.count l.ring))
    ∙ ap (take k) h.bytes
    ∙ map-take f k (flat g)

-- a read delivers no more than is queued
first-within : (f : Origin → Option ℕ) (C : ℕ) (z : Size) (q : Queue) (l : Slices) (g : OriginLine) → Holds f true C z q l g → head_length g ≤ q.bytes.count
unfolding head_length
first-within f C z q l [] h = omega arith
first-within f C z q l (x ∷ g) h = omega (arith, count-flat f true C z q l (x ∷ g) h, flat-cons x g)

pub taken-within : (f : Origin → Option ℕ) (dg : Bool) (C : ℕ) (z : Size) (q : Queue) (l : Slices) (g : OriginLine) (k : ℕ)
    → Taken dg q.bytes.count (first_of dg g) k → Holds f dg C z q l g → k ≤ q.bytes.count
unfolding first_of pick
taken-within f true C z q l g k t h = omega (arith, t.part refl, first-within f C z q l g h)
taken-within f false C z q l g k t h = t.stream refl
