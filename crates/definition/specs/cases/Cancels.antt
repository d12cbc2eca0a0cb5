-- Cases of cancel: the order of its tests, end and key, waits and packets, what is left and its order, the places that it frees, and that the rest of
-- the pair stays. 02 (i).
use Rattle.std.specs.Prelude.{ℕ, true, false, List, [], ◌∷◌, ◌++◌, ◌≡◌, pos, replicate}
use Rattle.std.proofs.Math.Option.{some}
use Rattle.definition.specs.declared.Place.{Place}
use Rattle.definition.specs.declared.Places.{Places}
use Rattle.definition.specs.declared.Pair.{Pair}
use Rattle.definition.specs.declared.Record.TheVariants.{Packet}
use Rattle.std.specs.declared.option.Option.TheVariants.{None, Some}
use Rattle.definition.specs.Port.{free, table_of, matching, cancelled_of, cancelled}
use Rattle.definition.specs.Calls.{wait, take_packet, cancel, close}
use Rattle.definition.specs.cases.Lines.{lines_of}
use Rattle.definition.specs.cases.Scripts.{line, stream_kind, datagram_kind, on, c, w, yes, no, yes1, no1, packet_line, Script, script_of, Show}
use Rattle.definition.specs.cases.States.{queue}

unfoldable pub cancel_scripts : List Script
cancel_scripts =
    -- the handle, then whether anything matches; no right is needed
    script_of stream_kind 0 (c (cancel 3 1) ∷ c (cancel 1 1) ∷ c (wait 1 1 4 0) ∷ c (cancel 3 1) ∷ c (cancel 1 1) ∷ c (cancel 1 1) ∷ [])
    (no 11 0x2 0x2 ∷ no 25 0x2 0x2 ∷ yes 0 0x2 0x2 ∷ no 11 0x2 0x2 ∷ yes 1 0x2 0x2 ∷ no 25 0x2 0x2 ∷ [])
    -- the packets of a closed end cannot be cancelled, and can be taken
    ∷ script_of stream_kind 7 (c (wait 2 1 2 0) ∷ on (close 2) ∷ c (cancel 2 1) ∷ c (cancel 1 1) ∷ c take_packet ∷ [])
    (yes 0 0x2 0x2 ∷ yes1 0 0x4 ∷ no1 11 0x4 ∷ no1 25 0x4
    ∷ line (pos 0) (Some 0x4) None [] (some (Packet (record { key = 1; trigger = 2; observed = 2; count = 1; timestamp = 0 })))
    ∷ [])
    -- a closed end is −11 also where nothing matches; with a closed peer a wait can be cancelled, and then nothing matches
    ∷ script_of stream_kind 7 (c (wait 1 1 1 0) ∷ on (close 2) ∷ c (cancel 2 1) ∷ c (cancel 1 1) ∷ c (cancel 1 1) ∷ [])
    (yes 0 0x2 0x2 ∷ yes1 0 0x4 ∷ no1 11 0x4 ∷ yes1 1 0x4 ∷ no1 25 0x4 ∷ [])
    -- on a datagram pair; the key 0 is one key and not every key: it does not find the packet with the key 5, and does find the wait with the key 0
    ∷ script_of datagram_kind 7 (c (wait 2 5 2 0) ∷ c (cancel 2 0) ∷ c (wait 2 0 1 0) ∷ c (cancel 2 0) ∷ c (cancel 2 5) ∷ [])
    (yes 0 0x2 0x2 ∷ no 25 0x2 0x2 ∷ yes 0 0x2 0x2 ∷ yes 1 0x2 0x2 ∷ yes 1 0x2 0x2 ∷ [])
    -- the end counts, and all 64 bits of the key
    ∷ script_of stream_kind 7 (c (wait 1 7 4 0) ∷ c (wait 2 7 4 0) ∷ c (cancel 1 7) ∷ c (cancel 1 7) ∷ c (cancel 2 7) ∷ [])
    (yes 0 0x2 0x2 ∷ yes 0 0x2 0x2 ∷ yes 1 0x2 0x2 ∷ no 25 0x2 0x2 ∷ yes 1 0x2 0x2 ∷ [])
    ∷ script_of stream_kind 7 (c (wait 1 1 4 0) ∷ c (wait 1 4294967297 4 0) ∷ c (cancel 1 1) ∷ c (cancel 1 1) ∷ c (cancel 1 4294967297) ∷ [])
    (yes 0 0x2 0x2 ∷ yes 0 0x2 0x2 ∷ yes 1 0x2 0x2 ∷ no 25 0x2 0x2 ∷ yes 1 0x2 0x2 ∷ [])
    -- waits and packets go, all of them, and are counted; others stay, and no wait fires, not one with the edge flag that meets the word
    ∷ script_of stream_kind 7
    (c (wait 1 3 2 0) ∷ c (wait 1 3 4 0) ∷ c (wait 1 3 2 1) ∷ c (wait 1 3 2 0) ∷ c (wait 1 4 2 0) ∷ c (wait 1 5 2 1)
    ∷ c (cancel 1 3) ∷ c (cancel 1 3) ∷ c take_packet ∷ c take_packet ∷ [])
    (yes 0 0x2 0x2 ∷ yes 0 0x2 0x2 ∷ yes 0 0x2 0x2 ∷ yes 0 0x2 0x2 ∷ yes 0 0x2 0x2 ∷ yes 0 0x2 0x2
    ∷ yes 4 0x2 0x2 ∷ no 25 0x2 0x2 ∷ packet_line 4 2 2 0x2 0x2 ∷ no 22 0x2 0x2 ∷ [])
    -- what is left keeps its order, waits and packets alike
    ∷ script_of stream_kind 7
    (c (wait 2 1 1 0) ∷ c (wait 2 2 1 0) ∷ c (wait 2 3 1 0) ∷ c (wait 2 4 1 0) ∷ c (cancel 2 2) ∷ w 1 4096 1 ∷ c (cancel 2 3)
    ∷ c take_packet ∷ c take_packet ∷ c take_packet ∷ [])
    (yes 0 0x2 0x2 ∷ yes 0 0x2 0x2 ∷ yes 0 0x2 0x2 ∷ yes 0 0x2 0x2 ∷ yes 1 0x2 0x2 ∷ yes 1 0x2 0x3 ∷ yes 1 0x2 0x3
    ∷ packet_line 4 1 3 0x2 0x3 ∷ packet_line 1 1 3 0x2 0x3 ∷ no 22 0x2 0x3 ∷ [])
    -- a wait that comes later is newer than those that were left
    ∷ script_of stream_kind 7
    (c (wait 2 1 1 0) ∷ c (wait 2 2 1 0) ∷ c (wait 2 3 1 0) ∷ c (cancel 2 1) ∷ c (wait 2 4 1 0) ∷ w 1 4096 1
    ∷ c take_packet ∷ c take_packet ∷ c take_packet ∷ c take_packet ∷ [])
    (yes 0 0x2 0x2 ∷ yes 0 0x2 0x2 ∷ yes 0 0x2 0x2 ∷ yes 1 0x2 0x2 ∷ yes 0 0x2 0x2 ∷ yes 1 0x2 0x3
    ∷ packet_line 4 1 3 0x2 0x3 ∷ packet_line 3 1 3 0x2 0x3 ∷ packet_line 2 1 3 0x2 0x3 ∷ no 22 0x2 0x3 ∷ [])
    -- the place of a packet serves a new wait, and so does that of a wait
    ∷ script_of stream_kind 7
    (replicate 127 (c (wait 1 1 4 0)) ++ (c (wait 1 2 2 0) ∷ c (wait 1 3 4 0) ∷ c (cancel 1 2) ∷ c (wait 1 3 4 0) ∷ []))
    (replicate 127 (yes 0 0x2 0x2) ++ (yes 0 0x2 0x2 ∷ no 3 0x2 0x2 ∷ yes 1 0x2 0x2 ∷ yes 0 0x2 0x2 ∷ []))
    ∷ script_of stream_kind 7
    (replicate 127 (c (wait 1 1 4 0)) ++ (c (wait 1 2 4 0) ∷ c (wait 1 3 4 0) ∷ c (cancel 1 2) ∷ c (wait 1 3 4 0) ∷ c (wait 1 3 4 0) ∷ c (cancel 1 1) ∷ []))
    (replicate 127 (yes 0 0x2 0x2) ++ (yes 0 0x2 0x2 ∷ no 3 0x2 0x2 ∷ yes 1 0x2 0x2 ∷ yes 0 0x2 0x2 ∷ no 3 0x2 0x2 ∷ yes 127 0x2 0x2 ∷ []))
    ∷ []

-- ---- a table that no run leaves, of 14 places: five packets, seven waits, of which one is of no end, and two unused places that are not zero

abbrev pub place : (key mask observed number : ℕ) → Place
place key mask observed number = record { key = key; mask = mask; observed = observed; end = number }

abbrev pub unused_places : List Place
unused_places = place 5 9 9 1 ∷ place 8 8 8 8 ∷ []

abbrev pub before : Places
unfolding lines_of
before =
    table_of
    (place 5 1 1 1 ∷ place 6 2 2 1 ∷ place 5 3 3 2 ∷ place 5 4 4 1 ∷ place 4294967301 5 5 1 ∷ [])
    (place 5 6 0 1 ∷ place 5 7 0 2 ∷ place 4294967301 8 0 1 ∷ place 5 9 0 3 ∷ place 5 10 0 1 ∷ place 6 11 0 1 ∷ place 7 12 0 1 ∷ [])
    unused_places

-- without what is of end 1 and has the key 5: four places are freed, and stand zeroed before the unused ones
abbrev pub after1 : Places
unfolding lines_of
after1 =
    table_of
    (place 6 2 2 1 ∷ place 5 3 3 2 ∷ place 4294967301 5 5 1 ∷ [])
    (place 5 7 0 2 ∷ place 4294967301 8 0 1 ∷ place 5 9 0 3 ∷ place 6 11 0 1 ∷ place 7 12 0 1 ∷ [])
    (free ∷ free ∷ free ∷ free ∷ unused_places)

-- without what is of end 2 and has the key 5
abbrev pub after2 : Places
unfolding lines_of
after2 =
    table_of
    (place 5 1 1 1 ∷ place 6 2 2 1 ∷ place 5 4 4 1 ∷ place 4294967301 5 5 1 ∷ [])
    (place 5 6 0 1 ∷ place 4294967301 8 0 1 ∷ place 5 9 0 3 ∷ place 5 10 0 1 ∷ place 6 11 0 1 ∷ place 7 12 0 1 ∷ [])
    (free ∷ free ∷ unused_places)

-- a datagram pair with this table; each end has rights, a word, thresholds and a queue of its own and reading disabled, and end 2 is closed
abbrev pub pair_with : Places → Pair
pair_with t =
    record {
      datagram = true;
      spare1 = 1;
      spare2 = 2;
      capacity = 8;
      one = record { closed = false; read_disabled = true; rights = 5; signals = 0x411; thresholds = record { read = 2; write = 3 }; queue = queue 7 3 6 2 };
      two = record { closed = true; read_disabled = true; rights = 3; signals = 0x824; thresholds = record { read = 4; write = 1 }; queue = queue 5 4 3 1 };
      places = t;
    }

pub record CancelCases : Type 0 where
  pub lines : Show cancel_scripts
  pub first : cancelled_of true 5 before ≡ after1
  pub second : cancelled_of false 5 before ≡ after2
  pub count : matching true 5 before ≡ 4
  -- nothing matches, and the table stays as it is
  pub no_count : matching true 9 before ≡ 0
  pub same : cancelled_of true 9 before ≡ before
  -- the rest of the pair stays as it is
  pub rest : cancelled true 5 (pair_with before) ≡ pair_with after1
