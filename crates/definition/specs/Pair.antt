-- The pair and its two ends, by the caller's handle. 01 "Status and answer word", "Delivered bytes".
-- An end is named by a Bool throughout: true is end 1, false is end 2. `own t e` is that end, `peer t e` the other.
use Rattle.std.specs.Prelude.{ℕ, Bool, true, false, eqb}
use Rattle.definition.specs.declared.Queue.{Queue}
use Rattle.definition.specs.declared.Thresholds.{Thresholds}
use Rattle.definition.specs.declared.Endpoint.{Endpoint}
use Rattle.definition.specs.declared.Ends.{Ends}
use Rattle.definition.specs.declared.Pair.{Pair}
use Rattle.definition.specs.declared.Places.{Places}
use Rattle.definition.specs.Signal.{SignalWord}
use Rattle.std.specs.declared.option.Option.TheVariants.{None, Some}
use Rattle.definition.specs.Status.{◌or◌, pick}

-- ---- an end, with one part replaced

-- 01 "Delivered bytes": a new queue is empty and starts at 0, and so does that of a closed end
unfoldable pub no_queue : Queue
no_queue = record { bytes = record { start = 0; count = 0 }; lengths = record { start = 0; count = 0 } }

-- 01 "Delivered bytes", thresholds: both are 0 at first
abbrev pub no_thresholds : Thresholds
no_thresholds = record { read = 0; write = 0 }

-- with another queue
unfoldable pub with_queue : Queue → Endpoint → Endpoint
with_queue q e =
    record { closed = e.closed; read_disabled = e.read_disabled; rights = e.rights; signals = e.signals; thresholds = e.thresholds; queue = q }

-- with another signal word
unfoldable pub with_signals : ℕ → Endpoint → Endpoint
with_signals w e =
    record { closed = e.closed; read_disabled = e.read_disabled; rights = e.rights; signals = w; thresholds = e.thresholds; queue = e.queue }

-- 01 "Delivered bytes", disposition: with another reading flag
unfoldable pub with_read_disabled : Bool → Endpoint → Endpoint
with_read_disabled off e =
    record { closed = e.closed; read_disabled = off; rights = e.rights; signals = e.signals; thresholds = e.thresholds; queue = e.queue }

-- with other thresholds
unfoldable pub with_thresholds : Thresholds → Endpoint → Endpoint
with_thresholds t e =
    record { closed = e.closed; read_disabled = e.read_disabled; rights = e.rights; signals = e.signals; thresholds = t; queue = e.queue }

-- ---- the two ends

-- handle 1 is end 1
abbrev pub is_one : ℕ → Bool
is_one h = eqb h 1

-- 01 "Status and answer word": other handles name no end
unfoldable pub is_handle : ℕ → Bool
is_handle h = eqb h 1 or eqb h 2

-- the caller's end, and its peer; an end is named by a Bool, true for end 1
abbrev pub own : Bool → Ends → Endpoint
own true e = e.one
own false e = e.two

-- the other end
abbrev pub peer : Bool → Ends → Endpoint
peer true e = e.two
peer false e = e.one

-- the pair without its table of places, of which every answer but those of take and cancel is made
abbrev pub ends_of : Pair → Ends
ends_of p =
    record {
      datagram = p.datagram;
      capacity = p.capacity;
      packets = p.places.packets;
      waits = p.places.waits;
      one = p.one;
      two = p.two;
    }

-- the pair with one end replaced
unfoldable pub with_end : Bool → Endpoint → Pair → Pair
with_end true e p = record { datagram = p.datagram; spare1 = p.spare1; spare2 = p.spare2; capacity = p.capacity; one = e; two = p.two; places = p.places }
with_end false e p = record { datagram = p.datagram; spare1 = p.spare1; spare2 = p.spare2; capacity = p.capacity; one = p.one; two = e; places = p.places }

-- the pair with its places replaced
unfoldable pub with_places : Places → Pair → Pair
with_places ts p = record { datagram = p.datagram; spare1 = p.spare1; spare2 = p.spare2; capacity = p.capacity; one = p.one; two = p.two; places = ts }

-- ---- what an end shows

-- 01 "Script program": the word that an end shows, none if it is closed or was never made
unfoldable pub shown : Endpoint → SignalWord
shown e = pick e.closed None (Some e.signals)

-- 01 "Script program": the word that the end of a handle shows; none for another handle. This shows the record and answers no status.
unfoldable pub shown_by : Pair → ℕ → SignalWord
shown_by p h = pick (is_handle h) (shown (own (is_one h) (ends_of p))) None
