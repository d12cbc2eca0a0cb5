-- How the code goes: a read over user memory by what it changes. What it does is in crates/definition/specs/Read.
-- 01 "Calls over user memory", read.
use Rattle.std.specs.Prelude.{ℕ, ◌≡◌, List, [], length}
use Rattle.definition.specs.declared.Ends.{Ends}
use Rattle.definition.specs.declared.Pair.{Pair}
use Rattle.definition.specs.Memory.{count_landed}
use Rattle.definition.specs.Pair.{own, is_one}
use Rattle.definition.specs.Read.{is_peek, user_read_answer, bytes_landed}
use Rattle.definition.specs.Status.{pick, is_done, count_of}
use Rattle.definition.specs.Tests.{lent_of}
use Rattle.transfer.specs.declared.change.Transfer.{Transfer}
use Rattle.transfer.specs.read.ReadChange.{ReadChanges}

-- a pair of these ends
abbrev pub pair_of : Ends → Pair
pair_of e =
    record {
      datagram = e.datagram;
      spare1 = 0;
      spare2 = 0;
      capacity = e.capacity;
      one = e.one;
      two = e.two;
      places = record { packets = e.packets; waits = e.waits; table = [] };
    }

-- A read or a peek over user memory by the end of handle h, but for its count; ring and table are its own and stay as they are.
pub record UserBytesRead (e : Ends) (h base options address n countAt : ℕ) (ring table memory memory' : List ℕ) (t : Transfer) : Type 0 where
  pub answer : t.answer ≡ user_read_answer e (lent_of e.datagram (own (is_one h) e).queue ring table) h base (length memory) options address n countAt
  pub changes : ReadChanges e h (is_peek options) table t
  pub user : memory' ≡ bytes_landed (pair_of e) h base address (count_of t.answer) ring memory

-- The same with its count, which lands over the bytes.
pub record UserRead (e : Ends) (h base options address n countAt : ℕ) (ring table memory memory' : List ℕ) (t : Transfer) : Type 0 where
  pub answer : t.answer ≡ user_read_answer e (lent_of e.datagram (own (is_one h) e).queue ring table) h base (length memory) options address n countAt
  pub changes : ReadChanges e h (is_peek options) table t
  pub user :
      memory'
      ≡ pick (is_done t.answer)
      (count_landed base countAt (count_of t.answer) (bytes_landed (pair_of e) h base address (count_of t.answer) ring memory))
      memory
