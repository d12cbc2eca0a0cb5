-- Info. 01 "Info record".
use Rattle.std.specs.Prelude.{ℕ, Bool, List, []}
use Rattle.definition.specs.declared.SocketInfo.{SocketInfo}
use Rattle.definition.specs.declared.Endpoint.{Endpoint}
use Rattle.definition.specs.declared.Record.TheVariants.{Info}
use Rattle.definition.specs.Status.{Answer}
use Rattle.std.specs.declared.result.Result.TheVariants.{Ok}
use Rattle.definition.specs.declared.Ends.{Ends}
use Rattle.definition.specs.Status.{pick, ◌then◌}
use Rattle.definition.specs.Signal.{bit_if}
use Rattle.definition.specs.Read.{available_in}
use Rattle.definition.specs.Pair.{is_one, own, peer, ends_of}
use Rattle.definition.specs.Tests.{sound_test, Lent, table_test, handle_test, Steps, lent_of}
use Rattle.definition.specs.declared.Pair.{Pair}
use Rattle.definition.specs.declared.Step.{Step}

-- a number of the peer's
unfoldable pub unless_closed : Bool → ℕ → ℕ
unless_closed closed n = pick closed 0 n

-- options, C, queued, available (the first datagram's length, on a stream all that is queued), then the peer's C and queued bytes, both 0
-- if it is closed. `first` is the first queued length, 0 where none is queued (`first_length` of Tests)
unfoldable pub info_of : (datagram : Bool) → (C : ℕ) → (own peer : Endpoint) → (first : ℕ) → SocketInfo
info_of datagram C own peer first =
    record {
      options = bit_if datagram 1;
      rx_buf_max = C;
      rx_buf_size = own.queue.bytes.count;
      rx_buf_available = available_in datagram own first;
      tx_buf_max = unless_closed peer.closed C;
      tx_buf_size = unless_closed peer.closed peer.queue.bytes.count;
    }

-- the answer; info is lent its own table on datagram pairs
unfoldable pub info_answer : Ends → Lent → (h : ℕ) → Answer
info_answer e z h =
    sound_test e
    then table_test e.datagram e.capacity h (own (is_one h) e).queue z
    then handle_test e h
    then Ok (Info (info_of e.datagram e.capacity (own (is_one h) e) (peer (is_one h) e) z.first))

-- ---- the call

-- info is lent its own table, and no ring
abbrev pub AsksInfo : Pair → (h : ℕ) → (table : List ℕ) → Step → Type 0
AsksInfo p h table = Steps p (info_answer (ends_of p) (lent_of p.datagram (own (is_one h) (ends_of p)).queue [] table) h) p
