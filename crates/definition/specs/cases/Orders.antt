-- Cases beside P1 to P14, each for a sentence of 01 that is easily read past: orders of tests, rights, thresholds, info, memory at exit.
-- 01 "Status and answer word", "Delivered bytes", "Info record", "Calls over user memory".
use Rattle.std.specs.Prelude.{ℕ, [], List, ◌∷◌, ◌++◌, map, ◌≡◌, pos, replicate}
use Rattle.std.proofs.Math.Option.{some}
use Rattle.definition.specs.declared.Record.TheVariants.{Limits, Info}
use Rattle.std.specs.declared.option.Option.TheVariants.{Some, None}
use Rattle.definition.specs.Calls.{write, read, set_disposition, shutdown, plain_disposition, set_read_threshold, set_write_threshold, get_thresholds, get_info, close, Outcome, outcomes, state_created}
use Rattle.definition.specs.cases.Lines.{ShownLine, lines_of}
use Rattle.definition.specs.cases.Scripts.{line, stream_kind, datagram_kind, on, c, w, r, wp, rp, yes, no, got, yes1, no1, Script, script_of, create, new_slices, letters, Show}

-- done with two thresholds; with the six numbers of info
abbrev limits : (reading writing u v : ℕ) → ShownLine
limits reading writing u v = line (pos 0) (Some u) (Some v) [] (some (Limits (record { read = reading; write = writing })))

abbrev info : (options C queued available peerC peerQueued u v : ℕ) → ShownLine
info options C queued available peerC peerQueued u v =
    line (pos 0) (Some u) (Some v) []
    (some
    (Info
    (record { options = options; rx_buf_max = C; rx_buf_size = queued; rx_buf_available = available; tx_buf_max = peerC; tx_buf_size = peerQueued })))

unfoldable pub order_scripts : List Script
order_scripts =
    -- a write over memory: arguments, handle, right, size, then the ranges; a count range is 8 bytes
    script_of stream_kind 7 (on (write 1 0 4096 1 1) ∷ c (set_disposition 1 1 0) ∷ on (write 1 0 4096 1 1) ∷ []) (no 10 0x2 0x2 ∷ yes 0 0x20 0x12 ∷ no 20 0x20 0x12 ∷ [])
    ∷ script_of stream_kind 7 (on (write 1 0 4096 1 4104) ∷ on (write 1 0 4096 1 4105) ∷ []) (yes 1 0x2 0x3 ∷ no 10 0x2 0x3 ∷ [])
    -- arguments come before the lookup, with any handle
    ∷ script_of stream_kind 7 (on (write 3 1 4096 1 0) ∷ on (write 3 0 0 1 0) ∷ on (write 3 0 4096 1 0) ∷ []) (no 10 0x2 0x2 ∷ no 10 0x2 0x2 ∷ no 11 0x2 0x2 ∷ [])
    ∷ script_of stream_kind 7 (on (read 3 1 4096 1 0) ∷ on (read 3 0 4096 1 0) ∷ c (set_disposition 3 3 0) ∷ c (set_disposition 3 1 0) ∷ [])
    (no 10 0x2 0x2 ∷ no 11 0x2 0x2 ∷ no 10 0x2 0x2 ∷ no 11 0x2 0x2 ∷ [])
    -- a read tests the range of the full count, a write that of what it takes
    ∷ script_of stream_kind 7 (w 1 4096 1 ∷ r 2 16 ∷ w 1 4096 1 ∷ r 2 17 ∷ []) (yes 1 0x2 0x3 ∷ got 1 0x2 0x2 (97 ∷ []) ∷ yes 1 0x2 0x3 ∷ no 10 0x2 0x3 ∷ [])
    -- 4294967296 bytes are refused before a disabled writer is
    ∷ script_of stream_kind 7 (w 1 4096 4294967296 ∷ c (set_disposition 1 1 0) ∷ w 1 4096 4294967296 ∷ c (set_disposition 1 2 0) ∷ w 1 4096 4294967295 ∷ [])
    (no 10 0x2 0x2 ∷ yes 0 0x20 0x12 ∷ no 10 0x20 0x12 ∷ yes 0 0x2 0x2 ∷ yes 8 0x0 0x3 ∷ [])
    -- rights one by one; the plain calls and those without bytes need none
    ∷ script_of stream_kind 1 (w 1 4096 1 ∷ c (shutdown 1 1) ∷ c (set_disposition 1 0 0) ∷ r 1 1 ∷ []) (no 30 0x2 0x2 ∷ no 30 0x2 0x2 ∷ no 30 0x2 0x2 ∷ no 22 0x2 0x2 ∷ [])
    ∷ script_of stream_kind 2 (r 1 1 ∷ c (set_disposition 1 0 0) ∷ w 1 4096 1 ∷ c (shutdown 1 1) ∷ []) (no 30 0x2 0x2 ∷ no 30 0x2 0x2 ∷ yes 1 0x2 0x3 ∷ yes 0 0x20 0x13 ∷ [])
    ∷ script_of stream_kind 4 (w 1 4096 1 ∷ c (shutdown 1 1) ∷ r 1 1 ∷ c (set_disposition 1 1 0) ∷ []) (no 30 0x2 0x2 ∷ no 30 0x2 0x2 ∷ no 30 0x2 0x2 ∷ yes 0 0x20 0x12 ∷ [])
    ∷ script_of stream_kind 0 (wp 1 (97 ∷ []) ∷ rp 2 1 ∷ c (set_read_threshold 1 1) ∷ on (close 2) ∷ w 2 4096 1 ∷ [])
    (yes 1 0x2 0x3 ∷ got 1 0x2 0x2 (97 ∷ []) ∷ yes 0 0x2 0x2 ∷ yes1 0 0x4 ∷ no1 11 0x4 ∷ [])
    -- the plain disposition by its numbers: the handle, then a number above 2 for either end, then the checks; no right is asked
    ∷ script_of stream_kind 0
    (wp 1 (97 ∷ [])
    ∷ c (plain_disposition 1 1 0)
    ∷ c (plain_disposition 3 3 3)
    ∷ c (plain_disposition 1 3 0)
    ∷ c (plain_disposition 1 0 3)
    ∷ c (plain_disposition 1 2 3)
    ∷ c (plain_disposition 1 2 0)
    ∷ on (close 2)
    ∷ c (plain_disposition 2 3 0)
    ∷ [])
    (yes 1 0x2 0x3
    ∷ yes 0 0x20 0x13
    ∷ no 11 0x20 0x13
    ∷ no 10 0x20 0x13
    ∷ no 10 0x20 0x13
    ∷ no 10 0x20 0x13
    ∷ no 20 0x20 0x13
    ∷ yes1 0 0x24
    ∷ no1 11 0x24
    ∷ [])
    -- thresholds: both are asked for, zero clears the bit; a write and a read move the bits of both ends
    ∷ script_of stream_kind 7 (c (set_read_threshold 1 3) ∷ c (set_write_threshold 1 5) ∷ c (get_thresholds 1) ∷ c (set_write_threshold 1 0) ∷ c (set_read_threshold 1 9) ∷ c (get_thresholds 3) ∷ [])
    (yes 0 0x2 0x2 ∷ yes 0 0x802 0x2 ∷ limits 3 5 0x802 0x2 ∷ yes 0 0x2 0x2 ∷ no 10 0x2 0x2 ∷ no 11 0x2 0x2 ∷ [])
    ∷ script_of stream_kind 7 (c (set_write_threshold 1 6) ∷ c (set_read_threshold 2 3) ∷ w 1 4096 2 ∷ w 1 4096 1 ∷ r 2 1 ∷ [])
    (yes 0 0x802 0x2 ∷ yes 0 0x802 0x2 ∷ yes 2 0x802 0x3 ∷ yes 1 0x2 0x403 ∷ got 1 0x802 0x3 (97 ∷ []) ∷ [])
    -- a threshold that is set with bytes queued: a write threshold is held against the space at the peer, a read threshold against the bytes here
    ∷ script_of stream_kind 7
    (w 1 4096 3 ∷ c (set_write_threshold 1 6) ∷ c (set_write_threshold 1 5) ∷ c (set_write_threshold 2 8) ∷ c (set_read_threshold 1 3) ∷ c (set_read_threshold 2 3) ∷ [])
    (yes 3 0x2 0x3 ∷ yes 0 0x2 0x3 ∷ yes 0 0x802 0x3 ∷ yes 0 0x802 0x803 ∷ yes 0 0x802 0x803 ∷ yes 0 0x802 0xc03 ∷ [])
    -- info: the first datagram on datagram pairs, all on a stream; nothing of a closed peer
    ∷ script_of datagram_kind 7 (w 1 4096 3 ∷ w 1 4096 2 ∷ c (get_info 2) ∷ c (get_info 1) ∷ []) (yes 3 0x2 0x3 ∷ yes 2 0x2 0x3 ∷ info 1 8 5 3 8 0 0x2 0x3 ∷ info 1 8 0 0 8 5 0x2 0x3 ∷ [])
    ∷ script_of stream_kind 7 (w 1 4096 5 ∷ c (get_info 2) ∷ []) (yes 5 0x2 0x3 ∷ info 0 8 5 5 8 0 0x2 0x3 ∷ [])
    ∷ script_of stream_kind 7 (w 1 4096 5 ∷ on (close 2) ∷ c (get_info 1) ∷ c (get_info 2) ∷ [])
    (yes 5 0x2 0x3
    ∷ yes1 0 0x4
    ∷ line (pos 0) (Some 0x4) None [] (some (Info (record { options = 0; rx_buf_max = 8; rx_buf_size = 0; rx_buf_available = 0; tx_buf_max = 0; tx_buf_size = 0 })))
    ∷ no1 11 0x4
    ∷ [])
    -- peer enable looks at this end, also with a closed peer; own enable is done with bytes queued at the peer, where PEER_WRITE_DISABLED is not set
    ∷ script_of stream_kind 7 (w 2 4096 1 ∷ c (set_disposition 2 2 0) ∷ c (set_disposition 1 0 1) ∷ c (set_disposition 1 0 2) ∷ on (close 2) ∷ c (set_disposition 1 0 2) ∷ [])
    (yes 1 0x3 0x2 ∷ yes 0 0x3 0x2 ∷ yes 0 0x13 0x20 ∷ no 20 0x13 0x20 ∷ yes1 0 0x15 ∷ no1 20 0x15 ∷ [])
    -- the writer becomes WRITABLE where the queue had been full, not otherwise; the tail of a datagram leaves with it
    ∷ script_of stream_kind 7 (w 1 4096 2 ∷ c (set_disposition 1 1 0) ∷ r 2 1 ∷ []) (yes 2 0x2 0x3 ∷ yes 0 0x20 0x13 ∷ got 1 0x20 0x13 (97 ∷ []) ∷ [])
    ∷ script_of datagram_kind 7 (w 1 4096 8 ∷ r 2 2 ∷ r 2 2 ∷ []) (yes 8 0x0 0x3 ∷ got 2 0x2 0x2 (97 ∷ 98 ∷ []) ∷ no 22 0x2 0x2 ∷ [])
    -- the lookup of a write comes before its size: an unknown handle with too many bytes, no right with a full queue
    ∷ script_of stream_kind 7 (w 3 4096 4294967296 ∷ []) (no 11 0x2 0x2 ∷ [])
    ∷ script_of stream_kind 1 (wp 1 letters ∷ w 1 4096 1 ∷ []) (yes 8 0x0 0x3 ∷ no 30 0x0 0x3 ∷ [])
    -- a closed handle comes before the size of a plain write and of a plain read: an empty datagram, an empty queue
    ∷ script_of datagram_kind 7 (on (close 2) ∷ wp 2 [] ∷ rp 2 1 ∷ []) (yes1 0 0x4 ∷ no1 11 0x4 ∷ no1 11 0x4 ∷ [])
    -- the ranges of a read come after its lookup and before the queue, which is empty here
    ∷ script_of stream_kind 6 (r 1 17 ∷ []) (no 30 0x2 0x2 ∷ [])
    ∷ script_of stream_kind 7 (on (read 3 0 4096 17 0) ∷ r 2 17 ∷ on (read 2 0 4096 1 4105) ∷ r 2 1 ∷ [])
    (no 11 0x2 0x2 ∷ no 10 0x2 0x2 ∷ no 10 0x2 0x2 ∷ no 22 0x2 0x2 ∷ [])
    -- either number of a disposition comes before the lookup
    ∷ script_of stream_kind 3 (c (set_disposition 1 3 0) ∷ c (set_disposition 1 0 3) ∷ c (set_disposition 1 0 0) ∷ []) (no 10 0x2 0x2 ∷ no 10 0x2 0x2 ∷ no 30 0x2 0x2 ∷ [])
    -- a disabled writer comes before a closed peer
    ∷ script_of stream_kind 7 (c (set_disposition 1 1 0) ∷ on (close 2) ∷ w 1 4096 1 ∷ wp 1 letters ∷ []) (yes 0 0x20 0x12 ∷ yes1 0 0x24 ∷ no1 20 0x24 ∷ no1 20 0x24 ∷ [])
    -- a full queue comes before an empty datagram
    ∷ script_of datagram_kind 7 (w 1 4096 8 ∷ w 1 4096 0 ∷ wp 1 [] ∷ []) (yes 8 0x0 0x3 ∷ no 22 0x0 0x3 ∷ no 22 0x0 0x3 ∷ [])
    -- bytes that run past the ring's end continue at its start
    ∷ script_of stream_kind 7 (w 1 4096 6 ∷ r 2 4 ∷ w 1 4096 5 ∷ r 2 8 ∷ [])
    (yes 6 0x2 0x3 ∷ got 4 0x2 0x3 (97 ∷ 98 ∷ 99 ∷ 100 ∷ []) ∷ yes 5 0x2 0x3 ∷ got 7 0x2 0x2 (101 ∷ 102 ∷ 97 ∷ 98 ∷ 99 ∷ 100 ∷ 101 ∷ []) ∷ [])
    -- and so do lengths in the table: the length of `ab` stands at its end, that of `cde` at its start
    ∷ script_of datagram_kind 7
    (replicate 7 (w 1 4096 1) ++ (replicate 7 (r 2 1) ++ (w 1 4096 2 ∷ w 1 4098 3 ∷ c (get_info 2) ∷ r 2 8 ∷ r 2 8 ∷ [])))
    (replicate 7 (yes 1 0x2 0x3)
    ++ (replicate 6 (got 1 0x2 0x3 (97 ∷ []))
    ++ (got 1 0x2 0x2 (97 ∷ []) ∷ yes 2 0x2 0x3 ∷ yes 3 0x2 0x3 ∷ info 1 8 5 2 8 0 0x2 0x3 ∷ got 2 0x2 0x3 (97 ∷ 98 ∷ []) ∷ got 3 0x2 0x2 (99 ∷ 100 ∷ 101 ∷ []) ∷ [])))
    -- delivered bytes are those before the count, which lands over them
    ∷ script_of stream_kind 7 (w 1 4096 8 ∷ on (read 2 8 4096 4 4098) ∷ on (read 2 0 4096 4 4098) ∷ [])
    (yes 8 0x0 0x3 ∷ got 4 0x0 0x3 (97 ∷ 98 ∷ 99 ∷ 100 ∷ []) ∷ got 4 0x2 0x3 (97 ∷ 98 ∷ 99 ∷ 100 ∷ []) ∷ [])
    ∷ []

-- memory at exit: a write's count, a read's bytes and over them its count; of a refused call what it found; a plain read's buffer; and no count
-- where its address is 0
unfoldable pub memories : List (List ℕ)
unfolding lines_of
memories =
    map (λ (o : Outcome). o.memory)
    (outcomes (state_created (create stream_kind 7) new_slices new_slices)
    (on (write 1 0 4096 3 4104) ∷ on (read 2 0 4106 3 4104) ∷ on (read 2 0 4106 3 4104) ∷ wp 1 (1 ∷ 2 ∷ []) ∷ rp 2 4
    ∷ w 1 4098 3 ∷ r 2 2 ∷ []))

abbrev counted3 : List ℕ
counted3 = 97 ∷ 98 ∷ 99 ∷ 100 ∷ 101 ∷ 102 ∷ 103 ∷ 104 ∷ 3 ∷ 0 ∷ 0 ∷ 0 ∷ 0 ∷ 0 ∷ 0 ∷ 0 ∷ []

-- `cd` landed at the start
abbrev landed2 : List ℕ
landed2 = 99 ∷ 100 ∷ 99 ∷ 100 ∷ 101 ∷ 102 ∷ 103 ∷ 104 ∷ 105 ∷ 106 ∷ 107 ∷ 108 ∷ 109 ∷ 110 ∷ 111 ∷ 112 ∷ []

pub record Orders : Type 0 where
  pub lines : Show order_scripts
  pub memory : memories ≡ counted3 ∷ counted3 ∷ letters ∷ (1 ∷ 2 ∷ []) ∷ (1 ∷ 2 ∷ 0 ∷ 0 ∷ []) ∷ letters ∷ landed2 ∷ []
