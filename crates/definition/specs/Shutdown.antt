-- Shutdown. 01 "Delivered bytes", shutdown; 01 "Calls over user memory", shutdown.
use Rattle.std.specs.Prelude.{ℕ, Bool, true, not, [], ◌∷◌}
use Rattle.std.specs.Int.Bits.{bit_or}
use Rattle.definition.specs.Status.{Answer}
use Rattle.definition.specs.declared.Endpoint.{Endpoint}
use Rattle.definition.specs.declared.Pair.{Pair}
use Rattle.definition.specs.declared.Ends.{Ends}
use Rattle.definition.specs.Tests.{opening_test, sound_test, Steps}
use Rattle.definition.specs.Pair.{ends_of, peer, is_one, own, with_read_disabled}
use Rattle.definition.specs.Status.{pick, ◌then◌}
use Rattle.definition.specs.Signal.{WRITABLE, WRITE_DISABLED, PEER_WRITE_DISABLED, bit_if, meets}
use Rattle.definition.specs.Effect.{WordChange, own_word, peer_word, if_open, Effect, keeping_waits, applied}
use Rattle.definition.specs.Memory.{RIGHT_WRITE, lookup}
use Rattle.definition.specs.declared.Step.{Step}

-- a shutdown is refused for its record or its handle alone
unfoldable pub shutdown_answer : Pair → (h : ℕ) → Answer
shutdown_answer p h = opening_test (ends_of p) h

-- with the flag read an end gains PEER_WRITE_DISABLED, with the flag write it loses WRITABLE and gains WRITE_DISABLED; one change
unfoldable pub shutting : (ofEnd : (clear set : ℕ) → WordChange) → (read write : Bool) → WordChange
shutting ofEnd read write = ofEnd (bit_if write WRITABLE) (bit_or (bit_if read PEER_WRITE_DISABLED) (bit_if write WRITE_DISABLED))

-- with the flag read its reading is disabled
unfoldable pub shut_reading : (read : Bool) → Endpoint → Endpoint
shut_reading read e = pick read (with_read_disabled true e) e

-- 01 "Delivered bytes", shutdown: the caller's end by the flags, then an open peer by both flags negated
unfoldable pub shut_effect : (own peer : Endpoint) → (read write : Bool) → Effect
shut_effect own peer read write =
    keeping_waits (shut_reading read own) (pick peer.closed peer (shut_reading (not read) peer))
    (shutting own_word read write ∷ if_open peer (shutting peer_word (not read) (not write)) ∷ [])

-- the pair after a shutdown by end t
unfoldable pub shut : Bool → (read write : Bool) → Pair → Pair
shut t read write p = applied t (shut_effect (own t (ends_of p)) (peer t (ends_of p)) read write) p

-- ---- over user memory

-- 01 "Calls over user memory", shutdown: bit 0x1 of the options is write; bits other than 0x1 and 0x2 are ignored
abbrev pub shuts_write : (options : ℕ) → Bool
shuts_write options = meets options 0x1

-- 01 "Calls over user memory", shutdown: bit 0x2 of the options is read
abbrev pub shuts_read : (options : ℕ) → Bool
shuts_read options = meets options 0x2

-- 01 "Calls over user memory", shutdown: the lookup with write; any options are taken
unfoldable pub user_shutdown_answer : Ends → (h : ℕ) → Answer
user_shutdown_answer e h = sound_test e then lookup e h RIGHT_WRITE

-- ---- the calls

abbrev pub Shuts : Pair → (h : ℕ) → (read write : Bool) → Step → Type 0
Shuts p h read write = Steps p (shutdown_answer p h) (shut (is_one h) read write p)

-- by options, with the lookup of write
abbrev pub UserShuts : Pair → (h options : ℕ) → Step → Type 0
UserShuts p h options = Steps p (user_shutdown_answer (ends_of p) h) (shut (is_one h) (shuts_read options) (shuts_write options) p)
