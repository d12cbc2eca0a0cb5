-- A read over user memory, put together from its parts. Assumes nothing.
use Prim.Native.Nat.{ℕ}
use mathlib.Core.Path.{◌≡◌}
use mathlib.Core.List.{List}
use Rattle.definition.specs.declared.Pair.{Pair}
use Rattle.definition.specs.declared.Step.{Step}
use Rattle.definition.specs.Memory.{count_put}
use Rattle.definition.specs.Read.{BytesRead, UserReads}
use Rattle.definition.specs.Status.{pick, count_of, is_done}
use Rattle.transfer.proofs.read.user_memory.Landed.{count_lands}

-- a read but for its count, with the count after it, is the whole read
pub count-after : (p : Pair) (h base options address n countAt : ℕ) (ring table memory memory' memory'' : List ℕ) (r : Step)
    → BytesRead p h base options address n countAt ring table memory memory' r
    → memory'' ≡ pick (is_done r.answer) (count_put base countAt (count_of r.answer) memory') memory'
    → UserReads p h base options address n countAt ring table memory memory'' r
count-after p h base options address n countAt ring table memory memory' memory'' r b u =
    record {
      answer = b.answer;
      pair = b.pair;
      user = count_lands p h base options address n countAt ring table memory r.answer b.answer memory' memory'' b.user u;
    }
