-- Close. 01 "Delivered bytes", close.
use Rattle.std.specs.Prelude.{ℕ, true, Bool, [], ◌∷◌}
use Rattle.definition.specs.declared.Endpoint.{Endpoint}
use Rattle.definition.specs.Status.{Answer}
use Rattle.definition.specs.declared.Pair.{Pair}
use Rattle.definition.specs.Pair.{no_queue, ends_of, own, peer, is_one}
use Rattle.definition.specs.Tests.{opening_test, Steps}
use Rattle.definition.specs.Signal.{WRITABLE, PEER_CLOSED}
use Rattle.definition.specs.Effect.{peer_word, if_open, Effect, applied}
use Rattle.definition.specs.declared.Step.{Step}

-- 01 "Delivered bytes", close: the end is closed, its queue is emptied and both starts of it are 0; the rest of the end, its word too, stays
unfoldable pub closed_end : Endpoint → Endpoint
closed_end e =
    record { closed = true; read_disabled = e.read_disabled; rights = e.rights; signals = e.signals; thresholds = e.thresholds; queue = no_queue }

-- 01 "Delivered bytes", close: refused for its record or its handle alone
unfoldable pub close_answer : Pair → (h : ℕ) → Answer
close_answer p h = opening_test (ends_of p) h

-- 01 "Delivered bytes", close: queue and waits of the end vanish, its packets stay; an open peer loses WRITABLE and gains PEER_CLOSED
unfoldable pub close_effect : (own peer : Endpoint) → Effect
close_effect own peer = record { own = closed_end own; peer = peer; drops = true; changes = if_open peer (peer_word WRITABLE PEER_CLOSED) ∷ [] }

-- the pair after the close of end t
unfoldable pub closed : Bool → Pair → Pair
closed t p = applied t (close_effect (own t (ends_of p)) (peer t (ends_of p))) p

-- ---- the call

abbrev pub Closes : Pair → (h : ℕ) → Step → Type 0
Closes p h = Steps p (close_answer p h) (closed (is_one h) p)
