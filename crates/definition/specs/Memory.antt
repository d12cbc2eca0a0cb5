-- User memory, one lent slice at a 64-bit base: its ranges and the count that lands there; the lookup of a handle with a right.
-- 01 "Calls over user memory".
use Rattle.std.specs.Prelude.{ℕ, ◌+◌, ◌-◌, zero, suc, ◌/◌, ◌%◌, Bool, not, List, [], ◌∷◌, leb, eqb, length}
use Rattle.std.proofs.Math.Seq.{paste}
use Rattle.std.specs.Int.Bits.{bit_and}
use Rattle.definition.specs.declared.Status.TheVariants.{AccessDenied}
use Rattle.definition.specs.Status.{Answer}
use Rattle.definition.specs.declared.Ends.{Ends}
use Rattle.definition.specs.Status.{◌and◌, ◌or◌, pick, refuse_if, ◌then◌}
use Rattle.definition.specs.Pair.{is_one, own}
use Rattle.definition.specs.Tests.{handle_test}

-- 01 "Calls over user memory", ranges: n bytes at an address lie in memory of that size, or n is 0. Numbers are exact, so no address wraps.
unfoldable pub fits : (base size address n : ℕ) → Bool
fits base size address n = eqb n 0 or (leb base address and leb (address - base + n) size)

-- 01 "Calls over user memory", write: the count's range is 8 bytes, unless its address is 0
unfoldable pub count_fits : (base size countAt : ℕ) → Bool
count_fits base size countAt = eqb countAt 0 or fits base size countAt 8

-- 01 "Calls over user memory", write and read: address 0 with a count above 0
unfoldable pub is_null : (address n : ℕ) → Bool
is_null address n = eqb address 0 and not (eqb n 0)

-- 01 "Calls over user memory", write: little-endian, the k low bytes of n with the lowest first
unfoldable pub little_endian : (k n : ℕ) → List ℕ
little_endian zero n = []
little_endian (suc k) n = n % 256 ∷ little_endian k (n / 256)

-- 01 "Calls over user memory", write: memory once the count has landed in its 8 bytes; address 0 asks for no count
unfoldable pub count_landed : (base countAt n : ℕ) → (memory : List ℕ) → List ℕ
count_landed base countAt n memory = pick (eqb countAt 0) memory (paste memory (countAt - base) (little_endian 8 n) 8)

-- 01 "Calls over user memory", write: the same for any count address. Where the count's range does not fit, memory stays as it is. The law
-- `count_put_lem` of crates/user_answers/proofs/memory/Landed: where it fits, this is `count_landed`.
unfoldable pub count_put : (base countAt n : ℕ) → (memory : List ℕ) → List ℕ
count_put base countAt n memory = pick (count_fits base (length memory) countAt) (count_landed base countAt n memory) memory

-- ---- rights

-- 01 "Status and answer word", create: the right to read
abbrev pub RIGHT_READ : ℕ
RIGHT_READ = 1

-- 01 "Status and answer word", create: the right to write
abbrev pub RIGHT_WRITE : ℕ
RIGHT_WRITE = 2

-- 01 "Status and answer word", create: the right to manage
abbrev pub RIGHT_MANAGE : ℕ
RIGHT_MANAGE = 4

-- 01 "Calls over user memory", lookup: the handle, then whether its end has the right
unfoldable pub lookup : Ends → (h right : ℕ) → Answer
lookup e h right = handle_test e h then refuse_if (eqb (bit_and (own (is_one h) e).rights right) 0) AccessDenied
