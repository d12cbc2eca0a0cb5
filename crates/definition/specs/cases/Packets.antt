-- Cases of waits and packets: the order of tests, of changes and of packets, and the 128 places. 01 "Signal word and packets".
use Rattle.std.specs.Prelude.{ℕ, [], List, ◌∷◌, ◌++◌, pos, replicate}
use Rattle.std.proofs.Math.Option.{some}
use Rattle.definition.specs.declared.Record.TheVariants.{Packet}
use Rattle.std.specs.declared.option.Option.TheVariants.{None, Some}
use Rattle.definition.specs.cases.Lines.{ShownLine}
use Rattle.definition.specs.cases.Scripts.{line, stream_kind, on, c, w, yes, no, yes1, no1, packet_line, Script, script_of, Show}
use Rattle.definition.specs.Calls.{set_disposition, set_read_threshold, wait, take_packet, close}

-- a packet taken with end 2 closed
abbrev took1 : (key trigger observed u : ℕ) → ShownLine
took1 key trigger observed u =
    line (pos 0) (Some u) None [] (some (Packet (record { key = key; trigger = trigger; observed = observed; count = 1; timestamp = 0 })))

unfoldable pub packet_scripts : List Script
packet_scripts =
    -- the handle, the edge byte, then the places, of which there are 128
    script_of stream_kind 7 (c (wait 3 1 4 2) ∷ (replicate 128 (c (wait 1 1 4 0)) ++ (c (wait 1 1 4 0) ∷ c (wait 1 1 4 2) ∷ c (wait 3 1 4 0) ∷ [])))
    (no 11 0x2 0x2 ∷ (replicate 128 (yes 0 0x2 0x2) ++ (no 3 0x2 0x2 ∷ no 10 0x2 0x2 ∷ no 11 0x2 0x2 ∷ [])))
    -- a packet uses its place until it is taken
    ∷ script_of stream_kind 7 (replicate 128 (c (wait 1 1 2 0)) ++ (c (wait 1 1 4 0) ∷ c take_packet ∷ c (wait 1 1 4 0) ∷ c (wait 1 1 4 0) ∷ []))
    (replicate 128 (yes 0 0x2 0x2) ++ (no 3 0x2 0x2 ∷ packet_line 1 2 2 0x2 0x2 ∷ yes 0 0x2 0x2 ∷ no 3 0x2 0x2 ∷ []))
    -- a closing end's waits free their places
    ∷ script_of stream_kind 7 (replicate 128 (c (wait 2 1 4 0)) ++ (c (wait 1 1 4 1) ∷ on (close 2) ∷ c (wait 1 1 8 1) ∷ []))
    (replicate 128 (yes 0 0x2 0x2) ++ (no 3 0x2 0x2 ∷ yes1 0 0x4 ∷ yes1 0 0x4 ∷ []))
    -- a wait is tested at once unless its edge byte is 1; then it fires at the next change of the word, whichever bit changed
    ∷ script_of stream_kind 7 (c (wait 2 8 2 0) ∷ c (wait 2 9 2 1) ∷ c take_packet ∷ c take_packet ∷ w 1 4096 1 ∷ c take_packet ∷ [])
    (yes 0 0x2 0x2 ∷ yes 0 0x2 0x2 ∷ packet_line 8 2 2 0x2 0x2 ∷ no 22 0x2 0x2 ∷ yes 1 0x2 0x3 ∷ packet_line 9 2 3 0x2 0x3 ∷ [])
    -- where the word stays the same nothing fires
    ∷ script_of stream_kind 7 (c (wait 1 1 2 1) ∷ c (set_read_threshold 1 0) ∷ c take_packet ∷ []) (yes 0 0x2 0x2 ∷ yes 0 0x2 0x2 ∷ no 22 0x2 0x2 ∷ [])
    -- a disposition of both targets makes four changes: caller, peer, peer, caller
    ∷ script_of stream_kind 7
    (c (wait 1 1 0x20 0) ∷ c (wait 2 2 0x10 0) ∷ c (wait 2 3 0x20 0) ∷ c (wait 1 4 0x10 0) ∷ c (set_disposition 1 1 1)
    ∷ c take_packet ∷ c take_packet ∷ c take_packet ∷ c take_packet ∷ [])
    (yes 0 0x2 0x2 ∷ yes 0 0x2 0x2 ∷ yes 0 0x2 0x2 ∷ yes 0 0x2 0x2 ∷ yes 0 0x30 0x30
    ∷ packet_line 1 0x20 0x20 0x30 0x30 ∷ packet_line 2 0x10 0x12 0x30 0x30 ∷ packet_line 3 0x20 0x30 0x30 0x30 ∷ packet_line 4 0x10 0x30 0x30 0x30 ∷ [])
    -- a close removes the end's waits and keeps its packets; waits of the other end fire
    ∷ script_of stream_kind 7 (c (wait 2 1 2 0) ∷ c (wait 2 2 4 0) ∷ c (wait 1 3 4 0) ∷ on (close 2) ∷ c take_packet ∷ c take_packet ∷ c take_packet ∷ [])
    (yes 0 0x2 0x2 ∷ yes 0 0x2 0x2 ∷ yes 0 0x2 0x2 ∷ yes1 0 0x4 ∷ took1 1 2 2 0x4 ∷ took1 3 4 4 0x4 ∷ no1 22 0x4 ∷ [])
    ∷ []

abbrev pub Packets : Type 0
Packets = Show packet_scripts
