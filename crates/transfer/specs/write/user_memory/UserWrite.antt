-- How the code goes: a write over user memory by what it changes. What it does is in crates/definition/specs/Write.
-- 01 "Calls over user memory", write.
use Rattle.std.specs.Prelude.{ℕ, ◌-◌, ◌≡◌, List, length, drop}
use Rattle.definition.specs.declared.Ends.{Ends}
use Rattle.definition.specs.Memory.{count_landed}
use Rattle.definition.specs.Pair.{peer, is_one}
use Rattle.definition.specs.Status.{pick, is_done, count_of}
use Rattle.definition.specs.Tests.{lent_of}
use Rattle.definition.specs.Write.{ring_written, table_written, user_write_answer}
use Rattle.transfer.specs.declared.change.Transfer.{Transfer}
use Rattle.transfer.specs.write.WriteChange.{WriteChanges}

-- A write over user memory by the end of handle h; ring and table are the peer's. The bytes are taken before the count lands.
pub record UserWrote (e : Ends) (h base options address n countAt : ℕ) (memory memory' ring ring' table table' : List ℕ) (t : Transfer) : Type 0 where
  pub answer : t.answer ≡ user_write_answer e (lent_of e.datagram (peer (is_one h) e).queue ring table) h base (length memory) options address n countAt
  pub changes : WriteChanges e h t
  pub bytes : ring' ≡ ring_written e h (count_of t.answer) (drop (address - base) memory) ring
  pub lengths : table' ≡ table_written e h (count_of t.answer) table
  pub user : memory' ≡ pick (is_done t.answer) (count_landed base countAt (count_of t.answer) memory) memory
