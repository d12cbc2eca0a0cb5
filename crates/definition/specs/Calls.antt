-- The calls of a run as data: what each finds, what it answers and what it leaves, computed. 01 "Two runs".
use Rattle.std.specs.Prelude.{ℕ, ◌-◌, Bool, true, false, List, [], ◌∷◌, length, drop, take, eqb}
use Rattle.std.proofs.Math.Seq.{paste}
use Rattle.definition.specs.declared.Pair.{Pair}
use Rattle.definition.specs.Status.{Answer}
use Rattle.definition.specs.Signal.{SignalWord}
use Rattle.definition.specs.declared.Step.{Step}
use Rattle.definition.specs.Pair.{shown, is_one, ends_of}
use Rattle.definition.specs.Tests.{Lent, lent_of}
use Rattle.definition.specs.Threshold.{read_threshold_answer, write_threshold_answer, thresholds_answer, read_threshold_set, write_threshold_set}
use Rattle.definition.specs.Shutdown.{shutdown_answer, user_shutdown_answer, shut, shuts_read, shuts_write}
use Rattle.definition.specs.Info.{info_answer}
use Rattle.definition.specs.Port.{wait_answer, take_answer, cancel_answer, waited, took, cancelled}
use Rattle.definition.specs.Disposition.{plain_dispose_answer, user_dispose_answer, disposed, disposition_of}
use Rattle.definition.specs.Write.{write_answer, user_write_answer, pair_written, ring_written, table_written}
use Rattle.definition.specs.Read.{read_answer, user_read_answer, pair_read, is_peek, buffer_read, bytes_landed}
use Rattle.definition.specs.Close.{close_answer, closed}
use Rattle.definition.specs.Status.{pick, count_of, is_done}
use Rattle.definition.specs.Memory.{count_landed}
use Rattle.definition.specs.Create.{create_answer, new_pair, no_pair, Creates}

-- ---- the calls and what each finds

-- the arguments of create, but for its slices. 01 "Status and answer word", create.
pub record Create : Type 0 where
  pub kind : ℕ
  pub capacity : ℕ
  pub rights1 : ℕ
  pub rights2 : ℕ

-- The calls that move no byte. Disposition and shutdown are there twice: with a lookup of the right, and plain. Both dispositions are by 01's numbers, so
-- that one above 2 is a call of a run too, refused with −10; the plain one by value takes an enum, whose cases are 0, 1 and 2.
-- 01 "Signal word and packets", "Delivered bytes", "Info record", "Calls over user memory"; cancel is 02 (i).
pub data Control : Type 0 where
  set_disposition : (handle disposition peerDisposition : ℕ) → Control
  shutdown : (handle options : ℕ) → Control
  plain_disposition : (handle disposition peerDisposition : ℕ) → Control
  plain_shutdown : (handle : ℕ) → (reading writing : Bool) → Control
  set_read_threshold : (handle threshold : ℕ) → Control
  set_write_threshold : (handle threshold : ℕ) → Control
  get_thresholds : (handle : ℕ) → Control
  get_info : (handle : ℕ) → Control
  wait : (handle key mask edge : ℕ) → Control
  take_packet : Control
  cancel : (handle key : ℕ) → Control

-- Every call on a pair. A call named plain is the one without user memory; its bytes are a slice. Options 8 of a read make it a peek;
-- `countAt` is the address of the count. 01 "Delivered bytes", "Calls over user memory".
pub data Call : Type 0 where
  write : (handle options address count countAt : ℕ) → Call
  read : (handle options address count countAt : ℕ) → Call
  plain_write : (handle : ℕ) → Call
  plain_read : (handle : ℕ) → (peek : Bool) → Call
  close : (handle : ℕ) → Call
  control : Control → Call

-- A call with what it finds: user memory at its base, or a plain call's byte slice. A plain write writes its whole slice, a plain read fills
-- it from its start. Other calls look at neither. 01 "Two runs": a plain slice counts as user memory.
pub record Input : Type 0 where
  pub call : Call
  pub base : ℕ
  pub memory : List ℕ

abbrev pub input : Call → (base : ℕ) → (memory : List ℕ) → Input
input c base memory = record { call = c; base = base; memory = memory }

-- all of an input but the bytes
pub record Public : Type 0 where
  pub call : Call
  pub base : ℕ
  pub size : ℕ

abbrev pub public : Input → Public
public i = record { call = i.call; base = i.base; size = length i.memory }

-- how far into its memory a call's bytes begin: at its address, or at its plain slice's start. 01 "Two runs".
abbrev pub offset_of : (base : ℕ) → Call → ℕ
offset_of base (write h o a n at) = a - base
offset_of base (read h o a n at) = a - base
offset_of base (plain_write h) = 0
offset_of base (plain_read h peek) = 0
offset_of base (close h) = 0
offset_of base (control c) = 0

-- the bytes that a call finds there
abbrev pub bytes_of : Input → List ℕ
bytes_of i = drop (offset_of i.base i.call) i.memory

-- ---- what stands between the calls, and what a call gives

-- the ring and the table of one end
pub record Slices : Type 0 where
  pub ring : List ℕ
  pub table : List ℕ

-- the pair, and each end's slices
pub record State : Type 0 where
  pub pair : Pair
  pub one : Slices
  pub two : Slices

abbrev pub state : Pair → (one two : Slices) → State
state p one two = record { pair = p; one = one; two = two }

-- the slices of an end, and of the other
abbrev pub own_slices : Bool → State → Slices
own_slices true s = s.one
own_slices false s = s.two

abbrev pub peer_slices : Bool → State → Slices
peer_slices true s = s.two
peer_slices false s = s.one

-- the state with the next pair
abbrev pub with_pair : Pair → State → State
with_pair p s = record { pair = p; one = s.one; two = s.two }

-- the same, with the slices of the other end replaced
abbrev pub with_peer_slices : Bool → Pair → Slices → State → State
with_peer_slices true p l s = record { pair = p; one = s.one; two = l }
with_peer_slices false p l s = record { pair = p; one = l; two = s.two }

-- what can be seen of a call: its answer with its record, both signal words (none of a closed end), and the whole next pair
pub record Seen : Type 0 where
  pub answer : Answer
  pub word1 : SignalWord
  pub word2 : SignalWord
  pub pair : Pair

abbrev pub seen_of : Answer → Pair → Seen
seen_of a p = record { answer = a; word1 = shown p.one; word2 = shown p.two; pair = p }

-- and the bytes: those delivered, as they stand before the count lands, the memory at exit, and each end's slices after the call
pub record Outcome : Type 0 where
  pub seen : Seen
  pub delivered : List ℕ
  pub memory : List ℕ
  pub one : Slices
  pub two : Slices

-- the slices after the call are those of the state
abbrev pub gives : Step → State → (delivered memory : List ℕ) → Outcome
gives r s delivered memory =
    record { seen = seen_of r.answer r.pair; delivered = delivered; memory = memory; one = s.one; two = s.two }

-- the state that a call left, from its outcome
abbrev pub left_by : Outcome → State
left_by o = state o.seen.pair o.one o.two

-- the pair, and what is known of each end's slices without looking at bytes
pub record View : Type 0 where
  pub pair : Pair
  pub one : Lent
  pub two : Lent

abbrev pub view : State → View
view s =
    record {
      pair = s.pair;
      one = lent_of s.pair.datagram s.pair.one.queue s.one.ring s.one.table;
      two = lent_of s.pair.datagram s.pair.two.queue s.two.ring s.two.table;
    }

abbrev pub own_lent : Bool → View → Lent
own_lent true v = v.one
own_lent false v = v.two

abbrev pub peer_lent : Bool → View → Lent
peer_lent true v = v.two
peer_lent false v = v.one

-- info is lent no ring
abbrev pub table_only : Lent → Lent
table_only z = record { ring = 0; table = z.table; first = z.first }

unfoldable pub control_answer : View → Control → Answer
control_answer v (set_disposition h a b) = user_dispose_answer (ends_of v.pair) h a b
control_answer v (shutdown h o) = user_shutdown_answer (ends_of v.pair) h
control_answer v (plain_disposition h a b) = plain_dispose_answer (ends_of v.pair) h a b
control_answer v (plain_shutdown h r w) = shutdown_answer v.pair h
control_answer v (set_read_threshold h n) = read_threshold_answer (ends_of v.pair) h n
control_answer v (set_write_threshold h n) = write_threshold_answer (ends_of v.pair) h n
control_answer v (get_thresholds h) = thresholds_answer (ends_of v.pair) h
control_answer v (get_info h) = info_answer (ends_of v.pair) (table_only (own_lent (is_one h) v)) h
control_answer v (wait h k m e) = wait_answer (ends_of v.pair) h e
control_answer v take_packet = take_answer v.pair
control_answer v (cancel h k) = cancel_answer v.pair h k

-- base and size are those of user memory; size is the length of a plain call's slice
unfoldable pub answer_to : View → (base size : ℕ) → Call → Answer
answer_to v base size (write h o a n at) = user_write_answer (ends_of v.pair) (peer_lent (is_one h) v) h base size o a n at
answer_to v base size (read h o a n at) = user_read_answer (ends_of v.pair) (own_lent (is_one h) v) h base size o a n at
answer_to v base size (plain_write h) = write_answer (ends_of v.pair) (peer_lent (is_one h) v) h size
answer_to v base size (plain_read h peek) = read_answer (ends_of v.pair) (own_lent (is_one h) v) h size
answer_to v base size (close h) = close_answer v.pair h
answer_to v base size (control c) = control_answer v c

-- where the call is done
unfoldable pub controlled : Control → Pair → Pair
controlled (set_disposition h a b) p = disposed (is_one h) (disposition_of a) (disposition_of b) p
controlled (shutdown h o) p = shut (is_one h) (shuts_read o) (shuts_write o) p
controlled (plain_disposition h a b) p = disposed (is_one h) (disposition_of a) (disposition_of b) p
controlled (plain_shutdown h a b) p = shut (is_one h) a b p
controlled (set_read_threshold h n) p = read_threshold_set (is_one h) n p
controlled (set_write_threshold h n) p = write_threshold_set (is_one h) n p
controlled (get_thresholds h) p = p
controlled (get_info h) p = p
controlled (wait h k m e) p = waited (is_one h) k m e p
controlled take_packet p = took p
controlled (cancel h k) p = cancelled (is_one h) k p

unfoldable pub pair_after : View → Call → Answer → Pair
pair_after v (write h o a n at) r = pair_written v.pair h (count_of r)
pair_after v (read h o a n at) r = pair_read v.pair h (is_peek o) (own_lent (is_one h) v).first (count_of r)
pair_after v (plain_write h) r = pair_written v.pair h (count_of r)
pair_after v (plain_read h peek) r = pair_read v.pair h peek (own_lent (is_one h) v).first (count_of r)
pair_after v (close h) r = pick (is_done r) (closed (is_one h) v.pair) v.pair
pair_after v (control c) r = pick (is_done r) (controlled c v.pair) v.pair

-- The bytes delivered land at the call's address, or at the start of a plain read's slice. Then the count of a done write or read over user
-- memory lands over them. Every other call leaves memory as it is. 01 "Calls over user memory", write and read.
unfoldable pub memory_after : (base : ℕ) → (memory : List ℕ) → Call → Answer → (delivered : List ℕ) → List ℕ
memory_after base memory (write h o a n at) r bytes = pick (is_done r) (count_landed base at (count_of r) memory) memory
memory_after base memory (read h o a n at) r bytes =
    pick (is_done r) (count_landed base at (count_of r) (paste memory (a - base) bytes (length bytes))) memory
memory_after base memory (plain_write h) r bytes = memory
memory_after base memory (plain_read h peek) r bytes = paste memory 0 bytes (length bytes)
memory_after base memory (close h) r bytes = memory
memory_after base memory (control c) r bytes = memory

-- the same of each call of a list. 01 "Two runs".
unfoldable pub memories_after : List Input → List Answer → (delivered : List (List ℕ)) → List (List ℕ)
memories_after [] rs ds = []
memories_after (i ∷ is) [] ds = []
memories_after (i ∷ is) (r ∷ rs) [] = []
memories_after (i ∷ is) (r ∷ rs) (bytes ∷ ds) = memory_after i.base i.memory i.call r bytes ∷ memories_after is rs ds

-- create's answer, from its arguments and the lengths of its slices. 01 "Status and answer word", create.
abbrev pub created_by : Create → (one two : Slices) → Answer
created_by c one two =
    create_answer c.kind c.capacity c.rights1 c.rights2 (length one.ring) (length one.table) (length two.ring) (length two.table)

-- a write changes its peer's slices; src is what it finds
unfoldable pub written : State → (h m : ℕ) → (src : List ℕ) → State
written s h m src =
    with_peer_slices (is_one h) (pair_written s.pair h m)
    (record {
      ring = ring_written (ends_of s.pair) h m src (peer_slices (is_one h) s).ring;
      table = table_written (ends_of s.pair) h m (peer_slices (is_one h) s).table;
    })
    s

-- no other call changes a slice; p is the next pair
unfoldable pub state_after : State → Input → Call → Answer → Pair → State
state_after s i (write h o a n at) r p = written s h (count_of r) (drop (a - i.base) i.memory)
state_after s i (read h o a n at) r p = with_pair p s
state_after s i (plain_write h) r p = written s h (count_of r) i.memory
state_after s i (plain_read h peek) r p = with_pair p s
state_after s i (close h) r p = with_pair p s
state_after s i (control c) r p = with_pair p s

-- user memory once a read's bytes have landed, before its count does
unfoldable pub landed : State → (base : ℕ) → (memory : List ℕ) → Call → Answer → List ℕ
landed s base memory (write h o a n at) r = memory
landed s base memory (read h o a n at) r = bytes_landed s.pair h base a (count_of r) (own_slices (is_one h) s).ring memory
landed s base memory (plain_write h) r = memory
landed s base memory (plain_read h peek) r = buffer_read (ends_of s.pair) h (count_of r) (own_slices (is_one h) s).ring memory
landed s base memory (close h) r = memory
landed s base memory (control c) r = memory

-- the bytes that a read or peek delivers, in the memory where they have landed
unfoldable pub delivered_in : (base : ℕ) → (memory : List ℕ) → Call → Answer → List ℕ
delivered_in base memory (write h o a n at) r = []
delivered_in base memory (read h o a n at) r = take (count_of r) (drop (a - base) memory)
delivered_in base memory (plain_write h) r = []
delivered_in base memory (plain_read h peek) r = take (count_of r) memory
delivered_in base memory (close h) r = []
delivered_in base memory (control c) r = []

abbrev pub answer_of : State → Input → Answer
answer_of s i = answer_to (view s) i.base (length i.memory) i.call

-- the state after a call that was answered r
abbrev pub after_by : State → Input → Answer → State
after_by s i r = state_after s i i.call r (pair_after (view s) i.call r)

-- the bytes that it delivered
abbrev pub delivered_by : State → Input → Answer → List ℕ
delivered_by s i r = delivered_in i.base (landed s i.base i.memory i.call r) i.call r

-- and all that it gave
abbrev pub outcome_by : State → Input → Answer → Outcome
outcome_by s i r =
    record {
      seen = seen_of r (pair_after (view s) i.call r);
      delivered = delivered_by s i r;
      memory = memory_after i.base i.memory i.call r (delivered_by s i r);
      one = (after_by s i r).one;
      two = (after_by s i r).two;
    }

unfoldable pub after : State → Input → State
after s i = after_by s i (answer_of s i)

unfoldable pub outcome : State → Input → Outcome
outcome s i = outcome_by s i (answer_of s i)

unfoldable pub outcomes : State → List Input → List Outcome
outcomes s [] = []
outcomes s (i ∷ is) = outcome s i ∷ outcomes (after s i) is

-- the state after a list of calls
unfoldable pub after_all : State → List Input → State
after_all s [] = s
after_all s (i ∷ is) = after_all (after s i) is

-- the pair that create hands back
unfoldable pub pair_created : Create → Answer → Pair
pair_created c r = pick (is_done r) (new_pair (eqb c.kind 1) c.capacity c.rights1 c.rights2) no_pair

abbrev pub state_created : Create → (one two : Slices) → State
state_created c one two = state (pair_created c (created_by c one two)) one two

-- create with the arguments and slices of a run
abbrev pub CreatesBy : (before : Pair) → Create → (one two : Slices) → Step → Type 0
CreatesBy before c one two =
    Creates before c.kind c.capacity c.rights1 c.rights2 one.ring one.table two.ring two.table
