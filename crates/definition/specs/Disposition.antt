-- Disposition. 01 "Delivered bytes", disposition; 01 "Calls over user memory", disposition.
use Rattle.std.specs.Prelude.{ℕ, Bool, true, false, [], ◌∷◌, ltb, eqb}
use Rattle.definition.specs.declared.Disposition.{Disposition}
use Rattle.definition.specs.declared.Disposition.TheVariants.{Unchanged, Disable, Enable}
use Rattle.definition.specs.declared.Endpoint.{Endpoint}
use Rattle.definition.specs.declared.Status.TheVariants.{BadState, InvalidArgs}
use Rattle.definition.specs.declared.Status.{Status}
use Rattle.std.specs.declared.result.Result.{Result}
use Rattle.std.specs.declared.result.Result.TheVariants.{Ok, Err}
use Rattle.definition.specs.Status.{Answer}
use Rattle.definition.specs.declared.Ends.{Ends}
use Rattle.definition.specs.declared.Pair.{Pair}
use Rattle.definition.specs.Status.{◌and◌, pick, refuse_if, ◌then◌}
use Rattle.definition.specs.Signal.{PEER_WRITE_DISABLED, meets, WRITABLE, WRITE_DISABLED}
use Rattle.definition.specs.Pair.{is_one, own, peer, ends_of, with_read_disabled}
use Rattle.definition.specs.Tests.{opening_test, sound_test, Steps}
use Rattle.definition.specs.Effect.{WordChange, no_change, own_word, peer_word, if_open, Effect, keeping_waits, applied}
use Rattle.definition.specs.Memory.{RIGHT_MANAGE, lookup}
use Rattle.definition.specs.declared.Step.{Step}

-- ---- the checks

-- whether a disposition lets an end write
unfoldable pub enables : Disposition → Bool
enables Unchanged = false
enables Disable = false
enables Enable = true

-- an end whose peer may not write and that has bytes to read
unfoldable pub has_backlog : Endpoint → Bool
has_backlog e = meets e.signals PEER_WRITE_DISABLED and ltb 0 e.queue.bytes.count

-- the same, of an end that must be open
unfoldable pub has_open_backlog : Endpoint → Bool
has_open_backlog e = pick e.closed false (has_backlog e)

-- writing enabled while there is a backlog
unfoldable pub enables_over : Disposition → Bool → Bool
enables_over d backlog = enables d and backlog

-- both checks, before any change: own enable looks at an open peer, peer enable at this end
unfoldable pub dispose_checks : (own peer : Endpoint) → (disposition peerDisposition : Disposition) → Answer
dispose_checks own peer a b =
    refuse_if (enables_over a (has_open_backlog peer)) BadState
    then refuse_if (enables_over b (has_backlog own)) BadState

-- ---- the answer

-- both checks come before any change
unfoldable pub dispose_answer : Ends → (h : ℕ) → (disposition peerDisposition : Disposition) → Answer
dispose_answer e h a b = opening_test e h then dispose_checks (own (is_one h) e) (peer (is_one h) e) a b

-- ---- the effect and the next pair

-- the writing of an end: disabled, it loses WRITABLE and gains WRITE_DISABLED; enabled, the reverse
unfoldable pub writing : (ofEnd : (clear set : ℕ) → WordChange) → Disposition → WordChange
writing ofEnd Unchanged = no_change
writing ofEnd Disable = ofEnd WRITABLE WRITE_DISABLED
writing ofEnd Enable = ofEnd WRITE_DISABLED WRITABLE

-- PEER_WRITE_DISABLED of the other end is set or cleared
unfoldable pub peer_writing : (ofEnd : (clear set : ℕ) → WordChange) → Disposition → WordChange
peer_writing ofEnd Unchanged = no_change
peer_writing ofEnd Disable = ofEnd 0 PEER_WRITE_DISABLED
peer_writing ofEnd Enable = ofEnd PEER_WRITE_DISABLED 0

-- and its reading flag follows
unfoldable pub reading : Disposition → Endpoint → Endpoint
reading Unchanged e = e
reading Disable e = with_read_disabled true e
reading Enable e = with_read_disabled false e

-- 01 "Delivered bytes", disposition, a for own, then b for peer. Own: this end's writing; an open peer's reading flag follows, and its
-- PEER_WRITE_DISABLED. Peer: this end's reading flag follows, also with a closed peer; only with an open one the peer's writing changes, then this
-- end's PEER_WRITE_DISABLED.
unfoldable pub dispose_effect : (own peer : Endpoint) → (disposition peerDisposition : Disposition) → Effect
dispose_effect own peer a b =
    keeping_waits (reading b own) (pick peer.closed peer (reading a peer))
    (writing own_word a
    ∷ if_open peer (peer_writing peer_word a)
    ∷ if_open peer (writing peer_word b)
    ∷ if_open peer (peer_writing own_word b)
    ∷ [])

-- the pair after a disposition by end t
unfoldable pub disposed : Bool → (disposition peerDisposition : Disposition) → Pair → Pair
disposed t a b p = applied t (dispose_effect (own t (ends_of p)) (peer t (ends_of p)) a b) p

-- ---- by numbers

-- 01 "Delivered bytes", disposition: 0 leaves an end's writing unchanged, 1 disables it, 2 enables it. Every call by numbers refuses those above 2.
unfoldable pub disposition_of : ℕ → Disposition
disposition_of n = pick (eqb n 1) Disable (pick (eqb n 2) Enable Unchanged)

-- the same with its refusal
unfoldable pub numbered_disposition : ℕ → Result Disposition Status
numbered_disposition n = pick (ltb 2 n) (Err InvalidArgs) (Ok (disposition_of n))

-- 01 "Delivered bytes", disposition: the number of each case
unfoldable pub disposition_number : Disposition → ℕ
disposition_number Unchanged = 0
disposition_number Disable = 1
disposition_number Enable = 2

-- 01 "Delivered bytes", disposition, by its numbers and without user memory: the record and the handle, then both numbers, then the checks. No right
-- is asked; −11 comes before its other statuses (01 "Calls over user memory").
unfoldable pub plain_dispose_answer : Ends → (h disposition peerDisposition : ℕ) → Answer
plain_dispose_answer e h a b =
    opening_test e h
    then refuse_if (ltb 2 a) InvalidArgs
    then refuse_if (ltb 2 b) InvalidArgs
    then dispose_checks (own (is_one h) e) (peer (is_one h) e) (disposition_of a) (disposition_of b)

-- 01 "Calls over user memory", disposition: both numbers, then the lookup with manage, then the checks of a disposition
unfoldable pub user_dispose_answer : Ends → (h disposition peerDisposition : ℕ) → Answer
user_dispose_answer e h a b =
    sound_test e
    then refuse_if (ltb 2 a) InvalidArgs
    then refuse_if (ltb 2 b) InvalidArgs
    then lookup e h RIGHT_MANAGE
    then dispose_checks (own (is_one h) e) (peer (is_one h) e) (disposition_of a) (disposition_of b)

-- ---- the calls

-- by the values of the enum
abbrev pub Disposes : Pair → (h : ℕ) → (disposition peerDisposition : Disposition) → Step → Type 0
Disposes p h a b = Steps p (dispose_answer (ends_of p) h a b) (disposed (is_one h) a b p)

-- by numbers
abbrev pub PlainDisposes : Pair → (h disposition peerDisposition : ℕ) → Step → Type 0
PlainDisposes p h a b = Steps p (plain_dispose_answer (ends_of p) h a b) (disposed (is_one h) (disposition_of a) (disposition_of b) p)

-- with the lookup of manage
abbrev pub UserDisposes : Pair → (h disposition peerDisposition : ℕ) → Step → Type 0
UserDisposes p h a b = Steps p (user_dispose_answer (ends_of p) h a b) (disposed (is_one h) (disposition_of a) (disposition_of b) p)
