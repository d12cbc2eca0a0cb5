-- P1 to P14 as one table. Each case is a new pair with C = 8 and all rights, calls, and what a line of the listing shows of each.
-- 01 "At the edges".
use Rattle.std.specs.Prelude.{ℕ, List, [], ◌∷◌, true, false}
use Rattle.definition.specs.Calls.{Input, set_disposition, shutdown, plain_disposition, plain_shutdown, set_write_threshold, wait, take_packet, close}
use Rattle.definition.specs.cases.Lines.{ShownLine}
use Rattle.definition.specs.cases.Scripts.{Script, script_of, stream_kind, datagram_kind, on, c, w, r, wp, rp, yes, no, got, packet_line, yes1, no1, Show}

abbrev case : (kind : ℕ) → List Input → List ShownLine → Script
case kind is ls = script_of kind 7 is ls

abbrev nine : List ℕ
nine = 1 ∷ 2 ∷ 3 ∷ 4 ∷ 5 ∷ 6 ∷ 7 ∷ 8 ∷ 9 ∷ []

unfoldable pub table : List Script
table =
    -- P1: a stream write of 0
    case stream_kind (w 1 4096 0 ∷ []) (yes 0 0x2 0x2 ∷ [])
    ∷ case stream_kind (wp 1 [] ∷ []) (yes 0 0x2 0x2 ∷ [])
    -- P2, P3: a write of 10, then of 0
    ∷ case stream_kind (w 1 4096 10 ∷ w 1 4096 0 ∷ []) (yes 8 0x0 0x3 ∷ no 22 0x0 0x3 ∷ [])
    ∷ case stream_kind (wp 1 (10 ∷ nine) ∷ wp 1 [] ∷ []) (yes 8 0x0 0x3 ∷ no 22 0x0 0x3 ∷ [])
    -- P4: an empty datagram
    ∷ case datagram_kind (w 1 4096 0 ∷ []) (no 10 0x2 0x2 ∷ [])
    ∷ case datagram_kind (wp 1 [] ∷ []) (no 10 0x2 0x2 ∷ [])
    -- P5: a datagram of 9, with space and on a full queue
    ∷ case datagram_kind (w 1 4096 9 ∷ []) (no 14 0x2 0x2 ∷ [])
    ∷ case datagram_kind (wp 1 nine ∷ []) (no 14 0x2 0x2 ∷ [])
    ∷ case datagram_kind (w 1 4096 8 ∷ w 1 4096 9 ∷ wp 1 nine ∷ []) (yes 8 0x0 0x3 ∷ no 22 0x0 0x3 ∷ no 22 0x0 0x3 ∷ [])
    -- P6: `abc` and `de`, read into 2 bytes
    ∷ case datagram_kind (w 1 4096 3 ∷ w 1 4099 2 ∷ r 2 2 ∷ r 2 2 ∷ [])
    (yes 3 0x2 0x3 ∷ yes 2 0x2 0x3 ∷ got 2 0x2 0x3 (97 ∷ 98 ∷ []) ∷ got 2 0x2 0x2 (100 ∷ 101 ∷ []) ∷ [])
    ∷ case datagram_kind (wp 1 (97 ∷ 98 ∷ 99 ∷ []) ∷ wp 1 (100 ∷ 101 ∷ []) ∷ rp 2 2 ∷ rp 2 2 ∷ [])
    (yes 3 0x2 0x3 ∷ yes 2 0x2 0x3 ∷ got 2 0x2 0x3 (97 ∷ 98 ∷ []) ∷ got 2 0x2 0x2 (100 ∷ 101 ∷ []) ∷ [])
    -- P7: a datagram read into 0 bytes is still queued
    ∷ case datagram_kind (w 1 4096 1 ∷ r 2 0 ∷ rp 2 0 ∷ r 2 1 ∷ []) (yes 1 0x2 0x3 ∷ yes 0 0x2 0x3 ∷ yes 0 0x2 0x3 ∷ got 1 0x2 0x2 (97 ∷ []) ∷ [])
    -- P8: an empty queue whose reading is disabled, then with the peer closed; by each call that disables it
    ∷ case stream_kind (c (set_disposition 1 0 1) ∷ r 1 1 ∷ on (close 2) ∷ r 1 1 ∷ []) (yes 0 0x12 0x20 ∷ no 20 0x12 0x20 ∷ yes1 0 0x14 ∷ no1 24 0x14 ∷ [])
    ∷ case stream_kind (c (set_disposition 2 1 0) ∷ r 1 1 ∷ on (close 2) ∷ r 1 1 ∷ []) (yes 0 0x12 0x20 ∷ no 20 0x12 0x20 ∷ yes1 0 0x14 ∷ no1 24 0x14 ∷ [])
    ∷ case stream_kind (c (shutdown 1 2) ∷ r 1 1 ∷ on (close 2) ∷ r 1 1 ∷ []) (yes 0 0x12 0x20 ∷ no 20 0x12 0x20 ∷ yes1 0 0x14 ∷ no1 24 0x14 ∷ [])
    ∷ case stream_kind (c (shutdown 2 1) ∷ r 1 1 ∷ on (close 2) ∷ r 1 1 ∷ []) (yes 0 0x12 0x20 ∷ no 20 0x12 0x20 ∷ yes1 0 0x14 ∷ no1 24 0x14 ∷ [])
    ∷ case stream_kind (on (close 2) ∷ c (set_disposition 1 0 1) ∷ r 1 1 ∷ []) (yes1 0 0x4 ∷ yes1 0 0x4 ∷ no1 24 0x4 ∷ [])
    ∷ case datagram_kind (c (plain_disposition 1 0 1) ∷ rp 1 1 ∷ on (close 2) ∷ rp 1 1 ∷ [])
    (yes 0 0x12 0x20 ∷ no 20 0x12 0x20 ∷ yes1 0 0x14 ∷ no1 24 0x14 ∷ [])
    -- P9: a write threshold of 9, then with the peer closed
    ∷ case stream_kind (c (set_write_threshold 1 9) ∷ on (close 2) ∷ c (set_write_threshold 1 9) ∷ []) (no 10 0x2 0x2 ∷ yes1 0 0x4 ∷ no1 24 0x4 ∷ [])
    -- P10: shutdown 3 and shutdown 0 at end 1
    ∷ case stream_kind (c (shutdown 1 3) ∷ []) (yes 0 0x30 0x2 ∷ [])
    ∷ case stream_kind (c (shutdown 1 0) ∷ []) (yes 0 0x2 0x30 ∷ [])
    ∷ case stream_kind (c (plain_shutdown 1 true true) ∷ []) (yes 0 0x30 0x2 ∷ [])
    ∷ case stream_kind (c (plain_shutdown 1 false false) ∷ []) (yes 0 0x2 0x30 ∷ [])
    -- P11: a byte queued at the peer, own disable, then own enable
    ∷ case stream_kind (w 1 4096 1 ∷ c (set_disposition 1 1 0) ∷ c (set_disposition 1 2 0) ∷ []) (yes 1 0x2 0x3 ∷ yes 0 0x20 0x13 ∷ no 20 0x20 0x13 ∷ [])
    ∷ case stream_kind (w 1 4096 1 ∷ c (plain_disposition 1 1 0) ∷ c (plain_disposition 1 2 0) ∷ [])
    (yes 1 0x2 0x3 ∷ yes 0 0x20 0x13 ∷ no 20 0x20 0x13 ∷ [])
    -- P12: waits of keys 1 and 2 on READABLE, then a byte
    ∷ case stream_kind (c (wait 2 1 1 0) ∷ c (wait 2 2 1 0) ∷ w 1 4096 1 ∷ c take_packet ∷ c take_packet ∷ c take_packet ∷ [])
    (yes 0 0x2 0x2 ∷ yes 0 0x2 0x2 ∷ yes 1 0x2 0x3 ∷ packet_line 2 1 3 0x2 0x3 ∷ packet_line 1 1 3 0x2 0x3 ∷ no 22 0x2 0x3 ∷ [])
    -- P13: full, the writer disabled, a byte read
    ∷ case stream_kind (w 1 4096 8 ∷ c (set_disposition 1 1 0) ∷ r 2 1 ∷ []) (yes 8 0x0 0x3 ∷ yes 0 0x20 0x13 ∷ got 1 0x22 0x13 (97 ∷ []) ∷ [])
    -- P14: a stream write of 100 from 4104 and from 4105
    ∷ case stream_kind (w 1 4104 100 ∷ []) (yes 8 0x0 0x3 ∷ [])
    ∷ case stream_kind (w 1 4105 100 ∷ []) (no 10 0x2 0x2 ∷ [])
    ∷ []

abbrev pub AtTheEdges : Type 0
AtTheEdges = Show table
