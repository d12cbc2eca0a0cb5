-- The tests that come before a call's own: the record, the slices lent, the handle. 01 "Status and answer word".
use Rattle.std.specs.Prelude.{ℕ, ◌+◌, Bool, not, true, List, ◌≡◌, leb, eqb, ltb, get_or, length}
use Rattle.definition.specs.declared.Queue.{Queue}
use Rattle.definition.specs.declared.Ends.{Ends}
use Rattle.definition.specs.declared.Status.TheVariants.{Internal, InvalidArgs, BadHandle}
use Rattle.definition.specs.Status.{Answer}
use Rattle.definition.specs.declared.Pair.{Pair}
use Rattle.definition.specs.declared.Step.{Step}
use Rattle.definition.specs.Status.{pick, ◌and◌, refuse_unless, ◌or◌, refuse_if, ◌then◌, ok, is_done}
use Rattle.definition.specs.Pair.{is_handle, is_one, own}

-- ---- the record

-- 01 "Status and answer word": on datagram pairs a run leaves no more lengths than bytes, and both are zero or neither is
unfoldable pub sound_lengths : Queue → Bool
sound_lengths q =
    leb q.lengths.count q.bytes.count
    and pick (eqb q.lengths.count 0) (eqb q.bytes.count 0) (not (eqb q.bytes.count 0))

-- 01 "Status and answer word": a run leaves both starts below C and at most C queued bytes
unfoldable pub sound_queue : Bool → ℕ → Queue → Bool
sound_queue datagram C q =
    ltb q.bytes.start C
    and ltb q.lengths.start C
    and leb q.bytes.count C
    and pick datagram (sound_lengths q) true

-- a record that is not INTERNAL: C from 1 to 262144, at most 128 places used, both queues sound
unfoldable pub sound_ends : Ends → Bool
sound_ends e =
    ltb 0 e.capacity
    and leb e.capacity 262144
    and leb (e.packets + e.waits) 128
    and sound_queue e.datagram e.capacity e.one.queue
    and sound_queue e.datagram e.capacity e.two.queue

-- any other record is INTERNAL, whichever the call and the handle
unfoldable pub sound_test : Ends → Answer
sound_test e = refuse_unless (sound_ends e) Internal

-- ---- the slices

-- 01 "Status and answer word": a table that is lent is too short with fewer than C entries; only datagram pairs look at it
unfoldable pub short_table : (datagram : Bool) → (C table : ℕ) → Bool
short_table datagram C table = datagram and ltb table C

-- 01 "Status and answer word": a ring that is lent is too short with fewer than C entries, and so is a table
unfoldable pub short_slices : (datagram : Bool) → (C ring table : ℕ) → Bool
short_slices datagram C ring table = ltb ring C or short_table datagram C table

-- whether a length is queued
unfoldable pub has_length : Bool → Queue → Bool
has_length datagram q = datagram and ltb 0 q.lengths.count

-- 01 "Status and answer word": the first length is the entry at the table's start; 0 where none is queued
unfoldable pub first_length : Bool → Queue → List ℕ → ℕ
first_length datagram q table = pick (has_length datagram q) (get_or table q.lengths.start 0) 0

-- 01 "Status and answer word": a datagram of no bytes, or of more than are queued, is INTERNAL
unfoldable pub bad_first : Bool → Queue → ℕ → Bool
bad_first datagram q first = has_length datagram q and (eqb first 0 or ltb q.bytes.count first)

-- what is known of the slices lent without looking at bytes: how long the ring and the table are, and the first queued length
pub record Lent : Type 0 where
  pub ring : ℕ
  pub table : ℕ
  pub first : ℕ

-- the same, of the ring and the table of a queue
unfoldable pub lent_of : Bool → Queue → (ring table : List ℕ) → Lent
lent_of datagram q ring table = record { ring = length ring; table = length table; first = first_length datagram q table }

-- short slices, then the first length; with a handle other than 1 or 2 neither is tested
unfoldable pub slices_test : (datagram : Bool) → (C h : ℕ) → Queue → Lent → Answer
slices_test datagram C h q z =
    pick (is_handle h)
    (refuse_if (short_slices datagram C z.ring z.table) InvalidArgs then refuse_if (bad_first datagram q z.first) Internal)
    ok

-- the same for a call that uses its table only
unfoldable pub table_test : (datagram : Bool) → (C h : ℕ) → Queue → Lent → Answer
table_test datagram C h q z =
    pick (is_handle h)
    (refuse_if (short_table datagram C z.table) InvalidArgs then refuse_if (bad_first datagram q z.first) Internal)
    ok

-- ---- the handle

-- a handle other than 1 or 2, or of a closed end, is BAD_HANDLE
unfoldable pub is_open : Ends → ℕ → Bool
is_open e h = is_handle h and not (own (is_one h) e).closed

-- the status of such a handle
unfoldable pub handle_test : Ends → ℕ → Answer
handle_test e h = refuse_unless (is_open e h) BadHandle

-- the record, then the handle: what calls that are given a handle and lent no slice test first
unfoldable pub opening_test : Ends → ℕ → Answer
opening_test e h = sound_test e then handle_test e h

-- ---- a call that changes no slice

-- A call that changes no slice: its answer a, and its next pair, which is q where the call is done and p where it is refused.
pub record Steps (p : Pair) (a : Answer) (q : Pair) (r : Step) : Type 0 where
  pub answer : r.answer ≡ a
  pub pair : r.pair ≡ pick (is_done a) q p
