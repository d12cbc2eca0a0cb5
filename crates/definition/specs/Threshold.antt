-- The thresholds: set and asked. 01 "Delivered bytes", thresholds.
use Rattle.std.specs.Prelude.{ℕ, ◌-◌, Bool, [], ◌∷◌, ltb}
use Rattle.definition.specs.declared.Status.TheVariants.{InvalidArgs, PeerClosed}
use Rattle.definition.specs.Status.{Answer}
use Rattle.definition.specs.declared.Endpoint.{Endpoint}
use Rattle.definition.specs.declared.Ends.{Ends}
use Rattle.definition.specs.declared.Record.TheVariants.{Limits}
use Rattle.std.specs.declared.result.Result.TheVariants.{Ok}
use Rattle.definition.specs.declared.Pair.{Pair}
use Rattle.definition.specs.Status.{refuse_if, ◌then◌}
use Rattle.definition.specs.Tests.{opening_test, Steps}
use Rattle.definition.specs.Pair.{is_one, peer, own, with_thresholds, ends_of}
use Rattle.definition.specs.Signal.{READ_THRESHOLD, reached, WRITE_THRESHOLD}
use Rattle.definition.specs.Effect.{own_bit, Effect, keeping_waits, applied}
use Rattle.definition.specs.declared.Step.{Step}

-- ---- the answers

-- a read threshold above C is refused
unfoldable pub read_threshold_answer : Ends → (h n : ℕ) → Answer
read_threshold_answer e h n = opening_test e h then refuse_if (ltb e.capacity n) InvalidArgs

-- a write threshold is refused if the peer is closed, then if it is above C
unfoldable pub write_threshold_answer : Ends → (h n : ℕ) → Answer
write_threshold_answer e h n =
    opening_test e h
    then refuse_if (peer (is_one h) e).closed PeerClosed
    then refuse_if (ltb e.capacity n) InvalidArgs

-- both are asked for by one call
unfoldable pub thresholds_answer : Ends → (h : ℕ) → Answer
thresholds_answer e h = opening_test e h then Ok (Limits (own (is_one h) e).thresholds)

-- ---- the effects and the next pairs

-- 01 "Delivered bytes", thresholds: the bit is set if the threshold is above 0 and the queued bytes reach it, else cleared
unfoldable pub read_threshold_effect : (own peer : Endpoint) → (n : ℕ) → Effect
read_threshold_effect own peer n =
    keeping_waits (with_thresholds (record { read = n; write = own.thresholds.write }) own) peer
    (own_bit (reached n own.queue.bytes.count) READ_THRESHOLD ∷ [])

-- 01 "Delivered bytes", thresholds: the bit is set if the threshold is above 0 and fits the space of the peer's queue, else cleared
unfoldable pub write_threshold_effect : (C : ℕ) → (own peer : Endpoint) → (n : ℕ) → Effect
write_threshold_effect C own peer n =
    keeping_waits (with_thresholds (record { read = own.thresholds.read; write = n }) own) peer
    (own_bit (reached n (C - peer.queue.bytes.count)) WRITE_THRESHOLD ∷ [])

-- the pair with another read threshold of end t
unfoldable pub read_threshold_set : Bool → (n : ℕ) → Pair → Pair
read_threshold_set t n p = applied t (read_threshold_effect (own t (ends_of p)) (peer t (ends_of p)) n) p

-- the pair with another write threshold of end t
unfoldable pub write_threshold_set : Bool → (n : ℕ) → Pair → Pair
write_threshold_set t n p = applied t (write_threshold_effect p.capacity (own t (ends_of p)) (peer t (ends_of p)) n) p

-- ---- the calls

abbrev pub SetsReadThreshold : Pair → (h n : ℕ) → Step → Type 0
SetsReadThreshold p h n = Steps p (read_threshold_answer (ends_of p) h n) (read_threshold_set (is_one h) n p)

abbrev pub SetsWriteThreshold : Pair → (h n : ℕ) → Step → Type 0
SetsWriteThreshold p h n = Steps p (write_threshold_answer (ends_of p) h n) (write_threshold_set (is_one h) n p)

abbrev pub AsksThresholds : Pair → (h : ℕ) → Step → Type 0
AsksThresholds p h = Steps p (thresholds_answer (ends_of p) h) p
