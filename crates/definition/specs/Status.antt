-- Statuses and answers: their numbers and words, and the tests with their statuses that every answer is written with. 01 "Status and answer word", 02 (i).
use Rattle.std.specs.Prelude.{ℕ, Bool, true, false, ℤ, pos, neg_ℤ}
use Rattle.definition.specs.declared.Status.{Status}
use Rattle.definition.specs.declared.Status.TheVariants.{Internal, NoResources, InvalidArgs, BadHandle, OutOfRange, BadState, ShouldWait, PeerClosed, NotFound, AccessDenied}
use Rattle.definition.specs.declared.Record.{Record}
use Rattle.definition.specs.declared.Record.TheVariants.{Empty, Count, Info, Limits, Packet}
use Rattle.std.specs.declared.result.Result.{Result}
use Rattle.std.specs.declared.result.Result.TheVariants.{Ok, Err}

-- ---- choices

-- the first value if the test holds, else the second
unfoldable pub pick {ℓ} : {X : Type ℓ} → Bool → X → X → X
pick true x y = x
pick false x y = y

infixr 35 ◌and◌
infixr 30 ◌or◌
-- both tests
unfoldable pub ◌and◌ : Bool → Bool → Bool
◌and◌ true b = b
◌and◌ false b = false

-- one of two tests
unfoldable pub ◌or◌ : Bool → Bool → Bool
◌or◌ true b = true
◌or◌ false b = b

-- ---- statuses and answers

-- what a call answers: the record of a done call, or why it is refused
abbrev pub Answer : Type 0
Answer = Result Record Status

-- a status is a negative number; this is the number without its sign.
unfoldable pub status_number : Status → ℕ
status_number Internal = 1
status_number NoResources = 3
status_number InvalidArgs = 10
status_number BadHandle = 11
status_number OutOfRange = 14
status_number BadState = 20
status_number ShouldWait = 22
status_number PeerClosed = 24
status_number NotFound = 25
status_number AccessDenied = 30

-- the number that a done call answers: its count, 0 for a record without one
unfoldable pub record_count : Record → ℕ
record_count Empty = 0
record_count (Count n) = n
record_count (Info i) = 0
record_count (Limits t) = 0
record_count (Packet k) = 0

-- 01 "Status and answer word": an answer as one signed number
unfoldable pub answer_word : Answer → ℤ
answer_word (Ok d) = pos (record_count d)
answer_word (Err s) = neg_ℤ (pos (status_number s))

-- the count of an answer, 0 for a refusal
unfoldable pub count_of : Answer → ℕ
count_of (Ok d) = record_count d
count_of (Err s) = 0

-- whether the call was done
unfoldable pub is_done : Answer → Bool
is_done (Ok d) = true
is_done (Err s) = false

-- done, with no record
abbrev pub ok : Answer
ok = Ok Empty

-- a test that refuses if it holds
unfoldable pub refuse_if : Bool → Status → Answer
refuse_if true s = Err s
refuse_if false s = ok

-- a test that refuses unless it holds
unfoldable pub refuse_unless : Bool → Status → Answer
refuse_unless true s = ok
refuse_unless false s = Err s

-- tests in their order: the first refusal is the answer, else what stands last
infixr 20 ◌then◌
unfoldable pub ◌then◌ : Answer → Answer → Answer
◌then◌ (Ok d) a = a
◌then◌ (Err s) a = Err s
