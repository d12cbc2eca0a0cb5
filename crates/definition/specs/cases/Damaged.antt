-- Records that no run leaves: each condition of INTERNAL at its edge and beside it, at either end, open or closed, on stream and datagram pairs, by
-- every call. C = 8 where C is not the condition.
-- 01 "Status and answer word".
use Rattle.std.specs.Prelude.{ℕ, Bool, false, true, List, [], ◌∷◌, ◌++◌, map, ◌≡◌, length, replicate, ℤ, pos, neg_ℤ}
use Rattle.definition.specs.declared.Queue.{Queue}
use Rattle.definition.specs.declared.Endpoint.{Endpoint}
use Rattle.definition.specs.declared.Disposition.TheVariants.{Unchanged, Disable, Enable}
use Rattle.definition.specs.Status.{answer_word}
use Rattle.definition.specs.Pair.{ends_of}
use Rattle.definition.specs.Disposition.{dispose_answer}
use Rattle.definition.specs.Calls.{State, state, set_disposition, plain_disposition, plain_write, write, control}
use Rattle.definition.specs.cases.States.{on_datagram, empty_queue, opened, pair, long, queued, pair_of_eight, closed_with, on_stream, queue, end, lent_slices, first, Row, is, refused_with, row_word}
use Rattle.definition.specs.cases.EveryCall.{every_call, internal}

-- ---- the edges

-- a record on which no call is INTERNAL, and beside it one on which every call is
pub record Edge : Type 0 where
  pub fine : State
  pub damaged : State

abbrev pub edge : (fine damaged : State) → Edge
edge s s' = record { fine = s; damaged = s' }

-- a pair with this C; with so many packets and waits
abbrev pub capacity : (on_datagram : Bool) → ℕ → State
capacity dg C = state (pair dg C 0 0 (opened empty_queue) (opened empty_queue)) long long

abbrev pub places : (on_datagram : Bool) → (packets waits : ℕ) → State
places dg packets waits = state (pair dg 8 packets waits (opened (queued dg)) (opened (queued dg))) long long

-- a queue at end 1, and at end 2, which is open or closed
abbrev pub at_one : (Queue → Endpoint) → (on_datagram : Bool) → Queue → State
at_one made dg q = state (pair_of_eight dg (made q) (opened (queued dg))) long long

abbrev pub at_two : (Queue → Endpoint) → (on_datagram : Bool) → Queue → State
at_two made dg q = state (pair_of_eight dg (opened (queued dg)) (made q)) long long

-- at either end, open and closed; on either kind of pair
abbrev pub either : (on_datagram : Bool) → (fine damaged : Queue) → List Edge
either dg q q' =
    edge (at_one opened dg q) (at_one opened dg q')
    ∷ edge (at_two opened dg q) (at_two opened dg q')
    ∷ edge (at_one closed_with dg q) (at_one closed_with dg q')
    ∷ edge (at_two closed_with dg q) (at_two closed_with dg q')
    ∷ []

abbrev pub both : (fine damaged : Queue) → List Edge
both q q' = either on_stream q q' ++ either on_datagram q q'

unfoldable pub edges : List Edge
edges =
    -- C
    edge (capacity on_stream 1) (capacity on_stream 0)
    ∷ edge (capacity on_datagram 1) (capacity on_datagram 0)
    ∷ edge (capacity on_stream 262144) (capacity on_stream 262145)
    ∷ edge (capacity on_datagram 262144) (capacity on_datagram 262145)
    -- places: packets, waits, both
    ∷ edge (places on_stream 128 0) (places on_stream 129 0)
    ∷ edge (places on_datagram 128 0) (places on_datagram 129 0)
    ∷ edge (places on_stream 0 128) (places on_stream 0 129)
    ∷ edge (places on_datagram 0 128) (places on_datagram 0 129)
    ∷ edge (places on_stream 60 68) (places on_stream 60 69)
    ∷ edge (places on_datagram 60 68) (places on_datagram 60 69)
    -- the ring's start, the table's start, on stream pairs too
    ∷ both (queue 7 3 7 1) (queue 8 3 7 1)
    ++ both (queue 7 3 7 1) (queue 7 3 8 1)
    -- queued bytes
    ++ both (queue 7 8 7 1) (queue 7 9 7 1)
    -- lengths, on datagram pairs: more than the bytes, none with bytes, some without bytes
    ++ either on_datagram (queue 7 3 7 3) (queue 7 3 7 4)
    ++ either on_datagram (queue 7 3 7 1) (queue 7 3 7 0)
    ++ either on_datagram (queue 7 0 7 0) (queue 7 0 7 1)

-- an end whose rights and thresholds no run leaves
abbrev odd : Queue → Endpoint
odd q = record { closed = false; read_disabled = false; rights = 8; signals = 2; thresholds = record { read = 9; write = 9 }; queue = q }

-- damage that 01 does not list, on which no call is INTERNAL
unfoldable pub unlisted : List State
unlisted =
    -- stream pairs have no lengths
    at_one opened on_stream (queue 7 3 0 4)
    ∷ at_two opened on_stream (queue 7 3 0 4)
    ∷ at_one opened on_stream (queue 7 3 0 0)
    ∷ at_two opened on_stream (queue 7 3 0 0)
    ∷ at_one opened on_stream (queue 7 0 0 1)
    ∷ at_two opened on_stream (queue 7 0 0 1)
    -- rights above 7 and thresholds above C
    ∷ at_one odd on_stream (queued on_stream)
    ∷ at_two odd on_datagram (queued on_datagram)
    ∷ []

-- ---- own enable

-- End 2, open or closed, has a byte to read and PEER_WRITE_DISABLED, as no closed end has in a run: own enable looks at an open peer only.
abbrev backlog : (closed : Bool) → State
backlog closed = state (pair_of_eight on_stream (opened empty_queue) (end closed 16 (queue 0 1 0 0))) (lent_slices 8 []) (lent_slices 8 [])

-- the same by a caller that is closed: the handle comes before the checks
abbrev backlog_of_closed : State
backlog_of_closed = state (pair_of_eight on_stream (closed_with empty_queue) (end false 16 (queue 0 1 0 0))) (lent_slices 8 []) (lent_slices 8 [])

unfoldable pub backlog_rows : List Row
backlog_rows =
    refused_with (backlog false) (control (plain_disposition 1 2 0)) 20
    ∷ is (backlog true) (control (plain_disposition 1 2 0)) 0
    ∷ refused_with backlog_of_closed (control (plain_disposition 1 2 0)) 11
    ∷ refused_with backlog_of_closed (control (set_disposition 1 2 0)) 11
    ∷ []

-- the answer to a disposition by the values of the enum
unfoldable pub by_cases : List ℤ
unfolding row_word dispose_answer
by_cases =
    map answer_word
    (dispose_answer (ends_of (backlog false).pair) 1 Enable Unchanged
    ∷ dispose_answer (ends_of (backlog true).pair) 1 Enable Unchanged
    ∷ dispose_answer (ends_of backlog_of_closed.pair) 1 Enable Unchanged
    ∷ dispose_answer (ends_of (backlog false).pair) 3 Disable Enable
    ∷ [])

-- ---- write

-- a closed end whose queue is full, as no run leaves one: a closed peer comes before a full queue
abbrev closed_full : (on_datagram : Bool) → Queue → State
closed_full dg q = state (pair_of_eight dg (opened empty_queue) (closed_with q)) (lent_slices 8 (first 8)) (lent_slices 8 (first 8))

unfoldable pub closed_rows : List Row
closed_rows =
    refused_with (closed_full on_stream (queue 7 8 7 0)) (plain_write 1) 24
    ∷ refused_with (closed_full on_datagram (queue 7 8 7 1)) (plain_write 1) 24
    ∷ refused_with (closed_full on_stream (queue 7 8 7 0)) (write 1 0 4096 3 0) 24
    ∷ []

-- ---- the claim

pub record DamagedRecords : Type 0 where
  pub fine : map (λ (e : Edge). internal e.fine) edges ≡ map (λ (e : Edge). replicate (length every_call) false) edges
  pub damaged : map (λ (e : Edge). internal e.damaged) edges ≡ map (λ (e : Edge). replicate (length every_call) true) edges
  pub others : map internal unlisted ≡ map (λ (s : State). replicate (length every_call) false) unlisted
  pub backlogs : map row_word backlog_rows ≡ map (λ (r : Row). r.word) backlog_rows
  pub cases : by_cases ≡ neg_ℤ (pos 20) ∷ pos 0 ∷ neg_ℤ (pos 11) ∷ neg_ℤ (pos 11) ∷ []
  pub closed_peers : map row_word closed_rows ≡ map (λ (r : Row). r.word) closed_rows
