-- What calls do to a pair beside its queues: kind, capacity and queues stay, and a sound table of places stays sound. Assumes nothing.
use Prim.Native.Nat.{ℕ, ◌<◌}
use mathlib.Core.Path.{◌≡◌, refl, ◌∙◌}
use mathlib.Core.Bool.{Bool, true, false, not}
use mathlib.Core.List.{List, [], ◌∷◌}
use lib.Dec.{eqb}
use Rattle.definition.specs.Status.{pick}
use Rattle.definition.specs.declared.Places.{Places}
use Rattle.port.proofs.cancel.Kept.{sound-cancelled}
use Rattle.definition.specs.Port.{used, sound, done, dropped_of, waited, took, cancelled}
use Rattle.port.proofs.packets.Operations.{take_done}
use Rattle.port.proofs.waits.Operations.{register_done, drop-done}
use Rattle.port.proofs.waits.Sound.{sound_register, sound_change, sound-take, sound-drop}
use Rattle.definition.specs.declared.Endpoint.{Endpoint}
use Rattle.definition.specs.declared.Disposition.{Disposition}
use Rattle.definition.specs.declared.Disposition.TheVariants.{Unchanged, Disable, Enable}
use Rattle.definition.specs.Pair.{with_queue, with_signals, with_read_disabled, with_thresholds, own, peer, with_end, with_places, ends_of}
use Rattle.definition.specs.Close.{closed_end, close_effect, closed}
use Rattle.definition.specs.Read.{drained_queue, read_effect, consumed}
use Rattle.definition.specs.Write.{fed_queue, write_effect, wrote}
use Rattle.definition.specs.declared.Pair.{Pair}
use Rattle.definition.specs.Effect.{WordChange, no_change, own_word, peer_word, Effect, keeping_waits, with_change, signal_change, changed, changed_by_all, prepared, applied}
use Rattle.definition.specs.Threshold.{read_threshold_effect, write_threshold_effect, read_threshold_set, write_threshold_set}
use Rattle.definition.specs.Disposition.{reading, dispose_effect, disposed}
use Rattle.definition.specs.Shutdown.{shut_reading, shut_effect, shut}

pub record Kept (p p' : Pair) : Type 0 where
  pub datagram : p'.datagram ≡ p.datagram
  pub capacity : p'.capacity ≡ p.capacity
  pub one : p'.one.queue ≡ p.one.queue
  pub two : p'.two.queue ≡ p.two.queue
  pub places : sound p.places ≡ true → sound p'.places ≡ true

pub kept : (p : Pair) → Kept p p
kept p = record { datagram = refl; capacity = refl; one = refl; two = refl; places = λ e. e }

pub kept_then : {p q r : Pair} → Kept p q → Kept q r → Kept p r
kept_then a b =
    record {
      datagram = b.datagram ∙ a.datagram;
      capacity = b.capacity ∙ a.capacity;
      one = b.one ∙ a.one;
      two = b.two ∙ a.two;
      places = λ e. b.places (a.places e);
    }

-- ---- any effect

signal_kept : (t : Bool) (clear set : ℕ) (p : Pair) → Kept p (signal_change t clear set p)
unfolding signal_change with_change with_places with_end with_signals
signal_kept true clear set p =
    record { datagram = refl; capacity = refl; one = refl; two = refl; places = λ e. sound_change p.places e true p.one.signals clear set }
signal_kept false clear set p =
    record { datagram = refl; capacity = refl; one = refl; two = refl; places = λ e. sound_change p.places e false p.two.signals clear set }

change_kept : (t : Bool) (c : WordChange) (p : Pair) → Kept p (changed t c p)
unfolding changed
change_kept t no_change p = kept p
change_kept t (own_word clear set) p = signal_kept t clear set p
change_kept t (peer_word clear set) p = signal_kept (not t) clear set p

changes-kept : (t : Bool) (cs : List WordChange) (p : Pair) → Kept p (changed_by_all t cs p)
unfolding changed_by_all
changes-kept t [] p = kept p
changes-kept t (c ∷ cs) p = kept_then (change_kept t c p) (changes-kept t cs (changed t c p))

-- the ends of an effect, which drops no wait
ends_kept : (t : Bool) (e : Effect) (p : Pair) → e.own.queue ≡ (own t (ends_of p)).queue → e.peer.queue ≡ (peer t (ends_of p)).queue → e.drops ≡ false
    → Kept p (prepared t e p)
unfolding prepared with_end with_places pick
ends_kept true e p a b d = record { datagram = refl; capacity = refl; one = a; two = b; places = λ s. rw d s }
ends_kept false e p a b d = record { datagram = refl; capacity = refl; one = b; two = a; places = λ s. rw d s }

effect_kept : (t : Bool) (e : Effect) (p : Pair) → e.own.queue ≡ (own t (ends_of p)).queue → e.peer.queue ≡ (peer t (ends_of p)).queue → e.drops ≡ false
    → Kept p (applied t e p)
unfolding applied
effect_kept t e p a b d = kept_then (ends_kept t e p a b d) (changes-kept t e.changes (prepared t e p))

-- ---- thresholds

pub read_threshold_kept : (t : Bool) (n : ℕ) (p : Pair) → Kept p (read_threshold_set t n p)
unfolding read_threshold_set read_threshold_effect keeping_waits with_thresholds
read_threshold_kept t n p = effect_kept t _ p refl refl refl

pub write_threshold_kept : (t : Bool) (n : ℕ) (p : Pair) → Kept p (write_threshold_set t n p)
unfolding write_threshold_set write_threshold_effect keeping_waits with_thresholds
write_threshold_kept t n p = effect_kept t _ p refl refl refl

-- ---- disposition and shutdown

reading-queue : (d : Disposition) (e : Endpoint) → (reading d e).queue ≡ e.queue
unfolding reading with_read_disabled
reading-queue Unchanged e = refl
reading-queue Disable e = refl
reading-queue Enable e = refl

shut-queue : (b : Bool) (e : Endpoint) → (shut_reading b e).queue ≡ e.queue
unfolding shut_reading with_read_disabled pick
shut-queue true e = refl
shut-queue false e = refl

-- whichever of two ends is chosen
either-queue : (c : Bool) (e f : Endpoint) → f.queue ≡ e.queue → (pick c e f).queue ≡ e.queue
unfolding pick
either-queue true e f k = refl
either-queue false e f k = k

pub disposed-kept : (t : Bool) (a b : Disposition) (p : Pair) → Kept p (disposed t a b p)
unfolding disposed dispose_effect keeping_waits
disposed-kept t a b p =
    let q = peer t (ends_of p) in
    effect_kept t (dispose_effect (own t (ends_of p)) q a b) p (reading-queue b (own t (ends_of p))) (either-queue q.closed q (reading a q) (reading-queue a q)) refl

pub shut-kept : (t reading writing : Bool) (p : Pair) → Kept p (shut t reading writing p)
unfolding shut shut_effect keeping_waits
shut-kept t reading writing p =
    let q = peer t (ends_of p) in
    effect_kept t (shut_effect (own t (ends_of p)) q reading writing) p (shut-queue reading (own t (ends_of p)))
    (either-queue q.closed q (shut_reading (not reading) q) (shut-queue (not reading) q)) refl

-- ---- waits

places-kept : (ts : Places) (p : Pair) → (sound p.places ≡ true → sound ts ≡ true) → Kept p (with_places ts p)
unfolding with_places
places-kept ts p k = record { datagram = refl; capacity = refl; one = refl; two = refl; places = k }

pub waited-kept : (t : Bool) (key mask edge : ℕ) (p : Pair) → used p.places < 128 → Kept p (waited t key mask edge p)
unfolding waited done
waited-kept t key mask edge p below =
    places-kept _ p (λ s. rw (register_done t (own t (ends_of p)).signals key mask (eqb edge 1) p.places below) at (sound_register p.places s t (own t (ends_of p)).signals key mask (eqb edge 1)))

pub took-kept : (p : Pair) → 0 < p.places.packets → Kept p (took p)
unfolding took
took-kept p any = places-kept _ p (λ s. rw (take_done p.places s any) at (sound-take p.places s))

pub cancelled-kept : (t : Bool) (key : ℕ) (p : Pair) → Kept p (cancelled t key p)
unfolding cancelled
cancelled-kept t key p = places-kept _ p (sound-cancelled t key p.places)

-- ---- what follows where bytes go in, where they leave, and where an end closes

pub wrote_kept : (t : Bool) (m : ℕ) (p : Pair) → Kept (with_end (not t) (with_queue (fed_queue p.datagram m (peer t (ends_of p)).queue) (peer t (ends_of p))) p) (wrote t m p)
unfolding wrote write_effect keeping_waits applied prepared with_end with_places pick
wrote_kept true m p = changes-kept true _ _
wrote_kept false m p = changes-kept false _ _

pub consumed-kept : (t : Bool) (n : ℕ) (p : Pair)
    → Kept (with_end t (with_queue (drained_queue p.datagram p.capacity n (own t (ends_of p)).queue) (own t (ends_of p))) p) (consumed t n p)
unfolding consumed read_effect keeping_waits applied prepared with_end with_places pick
consumed-kept true n p = changes-kept true _ _
consumed-kept false n p = changes-kept false _ _

dropped_kept : (t : Bool) (ts : Places) (p : Pair) → p.places ≡ ts → Kept p (with_places (dropped_of t ts) p)
unfolding done
dropped_kept t ts p e = places-kept _ p (λ s. let k : sound ts ≡ true = rw (← e) s in rw (drop-done t ts k) at (sound-drop ts k t))

pub closed-kept : (t : Bool) (p : Pair) → Kept (with_end t (closed_end (own t (ends_of p))) p) (closed t p)
unfolding closed close_effect applied prepared with_end with_places pick
closed-kept true p = kept_then (dropped_kept true p.places (with_end true (closed_end p.one) p) refl) (changes-kept true _ _)
closed-kept false p = kept_then (dropped_kept false p.places (with_end false (closed_end p.two) p) refl) (changes-kept false _ _)
