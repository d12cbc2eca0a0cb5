-- Create. 01 "Status and answer word", create.
use Rattle.std.specs.Prelude.{ℕ, false, true, Bool, ltb, eqb, List, length}
use Rattle.definition.specs.declared.Status.TheVariants.{InvalidArgs}
use Rattle.definition.specs.Status.{Answer}
use Rattle.definition.specs.declared.Endpoint.{Endpoint}
use Rattle.definition.specs.declared.Pair.{Pair}
use Rattle.definition.specs.Status.{refuse_if, ◌then◌}
use Rattle.definition.specs.Tests.{short_slices, Steps}
use Rattle.definition.specs.Signal.{WRITABLE}
use Rattle.definition.specs.Pair.{no_queue, no_thresholds}
use Rattle.definition.specs.Port.{new_places}
use Rattle.definition.specs.declared.Step.{Step}

-- ---- the answer

-- kind 0 is a stream, 1 a datagram pair; C is from 1 to 262144, a rights word from 0 to 7
unfoldable pub numbers_answer : (kind C rights1 rights2 : ℕ) → Answer
numbers_answer kind C rights1 rights2 =
    refuse_if (ltb 1 kind) InvalidArgs
    then refuse_if (eqb C 0) InvalidArgs
    then refuse_if (ltb 262144 C) InvalidArgs
    then refuse_if (ltb 7 rights1) InvalidArgs
    then refuse_if (ltb 7 rights2) InvalidArgs

-- each ring, and on datagram pairs each table, has C entries at least
unfoldable pub create_answer : (kind C rights1 rights2 ring1 table1 ring2 table2 : ℕ) → Answer
create_answer kind C rights1 rights2 ring1 table1 ring2 table2 =
    numbers_answer kind C rights1 rights2
    then refuse_if (short_slices (eqb kind 1) C ring1 table1) InvalidArgs
    then refuse_if (short_slices (eqb kind 1) C ring2 table2) InvalidArgs

-- ---- the pair

-- 01 "Signal word and packets": an end starts with WRITABLE; 01 "Delivered bytes": its queue is empty
unfoldable pub new_end : (rights : ℕ) → Endpoint
new_end rights =
    record { closed = false; read_disabled = false; rights = rights; signals = WRITABLE; thresholds = no_thresholds; queue = no_queue }

-- 01 "Script program": an end that was never made shows no word, like a closed one
unfoldable pub no_end : Endpoint
no_end = record { closed = true; read_disabled = false; rights = 0; signals = 0; thresholds = no_thresholds; queue = no_queue }

-- 01 "Status and answer word", create: a new pair
unfoldable pub new_pair : Bool → (C rights1 rights2 : ℕ) → Pair
new_pair datagram C rights1 rights2 =
    record { datagram = datagram; spare1 = 0; spare2 = 0; capacity = C; one = new_end rights1; two = new_end rights2; places = new_places }

-- what a refused create hands back: a record of capacity 0, on which every call answers −1
unfoldable pub no_pair : Pair
no_pair = record { datagram = false; spare1 = 0; spare2 = 0; capacity = 0; one = no_end; two = no_end; places = new_places }

-- ---- the call

-- a create on the record `before`, which a refused one leaves; the slices are those of end 1, then of end 2
abbrev pub Creates : (before : Pair) → (kind C rights1 rights2 : ℕ) → (ring1 table1 ring2 table2 : List ℕ) → Step → Type 0
Creates before kind C rights1 rights2 ring1 table1 ring2 table2 =
    Steps before (create_answer kind C rights1 rights2 (length ring1) (length table1) (length ring2) (length table2))
    (new_pair (eqb kind 1) C rights1 rights2)
