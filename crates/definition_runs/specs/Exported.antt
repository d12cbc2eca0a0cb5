-- The exported calls: what each ensures, runs of them, and what is claimed of these. 01 "Status and answer word", "Two runs".
use Rattle.std.specs.Prelude.{ℕ, ◌-◌, ◌≡◌, List, [], ◌∷◌, map, Bool, true, false, ℤ, pos, negsuc, eqb, take, drop}
use Rattle.std.proofs.Math.Option.{some}
use Rattle.definition.specs.Status.{Answer}
use Rattle.definition.specs.declared.Pair.{Pair}
use Rattle.definition.specs.declared.Step.{Step}
use Rattle.definition.specs.declared.Record.{Record}
use Rattle.definition.specs.declared.Record.TheVariants.{Empty, Count, Info, Limits, Packet}
use Rattle.std.specs.declared.result.Result.TheVariants.{Ok, Err}
use Rattle.definition.specs.Status.{answer_word, pick, is_done}
use Rattle.definition.specs.Tests.{opening_test}
use Rattle.definition.specs.Pair.{is_one, own, ends_of}
use Rattle.definition.specs.Calls.{Create, Slices, created_by, Input, input, Call, Control, set_disposition, shutdown, plain_disposition, plain_shutdown, set_read_threshold, set_write_threshold, get_thresholds, get_info, wait, take_packet, cancel, write, read, plain_write, plain_read, close, control, State, own_slices, peer_slices, with_pair, with_peer_slices, state, Outcome, seen_of, memories_after, public, CreatesBy}
use Rattle.definition.specs.Write.{Writes, UserWrites}
use Rattle.definition.specs.Read.{Reads, UserReads, bytes_landed}
use Rattle.definition.specs.Disposition.{PlainDisposes, UserDisposes}
use Rattle.definition.specs.Shutdown.{Shuts, UserShuts}
use Rattle.definition.specs.Threshold.{SetsReadThreshold, SetsWriteThreshold, AsksThresholds}
use Rattle.definition.specs.Port.{Waits, Takes, Cancels}
use Rattle.definition.specs.Close.{Closes}
use Rattle.definition.specs.Info.{AsksInfo}
use Rattle.definition_runs.specs.Run.{Chain, Run, Does}
use Rattle.definition_runs.specs.TwoRuns.{answers, deliveries, calls, SameLengths, sources, found}

-- ---- a call on a pair that the host keeps behind a reference

-- The call leaves the pair p' and returns the word w: w is the word of an answer, and this answer and p' are what the by-value call
-- promises. Each promise fixes its answer, so that nothing is left to choose.
pub record Answered (promise : Step → Type 0) (p' : Pair) (w : ℤ) : Type 0 where
  pub answer : Answer
  pub word : w ≡ answer_word answer
  pub kept : promise (record { pair = p'; answer = answer })

-- ---- the records that a call leaves in a lent array

-- 01 "Info record": options, C, queued, available, peer C, peer queued
unfoldable pub info_numbers : Record → List ℕ → List ℕ
info_numbers (Info i) out =
    i.options ∷ i.rx_buf_max ∷ i.rx_buf_size ∷ i.rx_buf_available ∷ i.tx_buf_max ∷ i.tx_buf_size ∷ []
info_numbers Empty out = out
info_numbers (Count n) out = out
info_numbers (Limits t) out = out
info_numbers (Packet k) out = out

-- 01 "Delivered bytes", thresholds: the read threshold, then the write threshold
unfoldable pub threshold_numbers : Record → List ℕ → List ℕ
threshold_numbers (Limits t) out = t.read ∷ t.write ∷ []
threshold_numbers Empty out = out
threshold_numbers (Count n) out = out
threshold_numbers (Info i) out = out
threshold_numbers (Packet k) out = out

-- 01 "Signal word and packets": key, trigger, observed, count, timestamp
unfoldable pub packet_numbers : Record → List ℕ → List ℕ
packet_numbers (Packet k) out = k.key ∷ k.trigger ∷ k.observed ∷ k.count ∷ k.timestamp ∷ []
packet_numbers Empty out = out
packet_numbers (Count n) out = out
packet_numbers (Info i) out = out
packet_numbers (Limits t) out = out

-- the array after a call: the numbers of its record, of the kind that the array is for; after a refusal as it was
unfoldable pub array_of : (Record → List ℕ → List ℕ) → Answer → List ℕ → List ℕ
array_of numbers (Ok d) out = numbers d out
array_of numbers (Err s) out = out

-- A call whose record goes to a lent array: its promise, and the array.
pub record Recorded (numbers : Record → List ℕ → List ℕ) (promise : Step → Type 0) (out out' : List ℕ) (r : Step) : Type 0 where
  pub step : promise r
  pub array : out' ≡ array_of numbers r.answer out

-- ---- the signal word

-- the record and the handle are tested as by every call (−1, then −11 for a handle that is none or closed); then the word of the handle's end
unfoldable pub signal_number : Pair → (h : ℕ) → ℤ
signal_number p h = pick (is_done (opening_test (ends_of p) h)) (pos (own (is_one h) (ends_of p)).signals) (answer_word (opening_test (ends_of p) h))

-- the signal word of an end. It is no call of a run: the pair stays as it is.
abbrev pub Signals : Pair → (h : ℕ) → Pair → ℤ → Type 0
Signals p h p' w = (w ≡ signal_number p h) × (p' ≡ p)

-- ---- what a call is passed and what it leaves

-- The call with its arguments, base and memory: user memory, or the slice of a plain write or read, at base 0. A call that is lent no bytes has
-- base 0 and no memory. The array is that of thresholds, info or take; another call has none.
pub record Passed : Type 0 where
  pub input : Input
  pub array : List ℕ

abbrev pub passed : Call → (base : ℕ) → (memory array : List ℕ) → Passed
passed c base memory array = record { input = input c base memory; array = array }

-- the word returned; the pair, the memory and the array at exit; and the bytes delivered
pub record Returned : Type 0 where
  pub word : ℤ
  pub pair : Pair
  pub delivered : List ℕ
  pub memory : List ℕ
  pub array : List ℕ

abbrev pub returned : ℤ → Pair → (deliveries memory array : List ℕ) → Returned
returned w p deliveries memory array = record { word = w; pair = p; delivered = deliveries; memory = memory; array = array }

-- 01 "Status and answer word": a word of zero or more is that of a done call, and its count
unfoldable pub is_count : ℤ → Bool
is_count (pos n) = true
is_count (negsuc n) = false

unfoldable pub count_in : ℤ → ℕ
count_in (pos n) = n
count_in (negsuc n) = 0

-- the array after a call: the numbers of the answer's record; after a refusal as it was
unfoldable pub record_in : Control → Answer → List ℕ → List ℕ
record_in (set_disposition h a b) r out = out
record_in (shutdown h o) r out = out
record_in (plain_disposition h a b) r out = out
record_in (plain_shutdown h reading writing) r out = out
record_in (set_read_threshold h n) r out = out
record_in (set_write_threshold h n) r out = out
record_in (get_thresholds h) r out = array_of threshold_numbers r out
record_in (get_info h) r out = array_of info_numbers r out
record_in (wait h key mask edge) r out = out
record_in take_packet r out = array_of packet_numbers r out
record_in (cancel h key) r out = out

unfoldable pub array_after : Call → Answer → List ℕ → List ℕ
array_after (write h o a n at) r out = out
array_after (read h o a n at) r out = out
array_after (plain_write h) r out = out
array_after (plain_read h peek) r out = out
array_after (close h) r out = out
array_after (control c) r out = record_in c r out

-- ---- one call as a step from state to state

abbrev pub slices_of : (ring table : List ℕ) → Slices
slices_of ring table = record { ring = ring; table = table }

-- Each case has what one exported call ensures. A write is lent the peer's slices, a read its own, an info its own table. The bytes that a plain
-- read delivers stand in its buffer. Those of a read over user memory are read at its address, in memory as it is once the bytes have landed
-- and before the count does; by `UserReads` a done read leaves memory as this, with the count landed over it.
pub data Exported (s : State) : Passed → State → Returned → Type 0 where
  murgwethan_write : {h : ℕ} {bytes ring' table' : List ℕ} {p : Pair} {w : ℤ}
      → Answered (Writes s.pair h bytes (peer_slices (is_one h) s).ring ring' (peer_slices (is_one h) s).table table') p w
      → Exported s (passed (plain_write h) 0 bytes []) (with_peer_slices (is_one h) p (slices_of ring' table') s) (returned w p [] bytes [])
  murgwethan_read : {h : ℕ} {peek : Bool} {buffer buffer' : List ℕ} {p : Pair} {w : ℤ}
      → Answered (Reads s.pair h peek (own_slices (is_one h) s).ring (own_slices (is_one h) s).table buffer buffer') p w
      → Exported s (passed (plain_read h peek) 0 buffer []) (with_pair p s) (returned w p (take (count_in w) buffer') buffer' [])
  murgwethan_set_disposition : {h a b : ℕ} {p : Pair} {w : ℤ}
      → Answered (PlainDisposes s.pair h a b) p w
      → Exported s (passed (control (plain_disposition h a b)) 0 [] []) (with_pair p s) (returned w p [] [] [])
  murgwethan_shutdown : {h : ℕ} {reading writing : Bool} {p : Pair} {w : ℤ}
      → Answered (Shuts s.pair h reading writing) p w
      → Exported s (passed (control (plain_shutdown h reading writing)) 0 [] []) (with_pair p s) (returned w p [] [] [])
  murgwethan_set_read_threshold : {h n : ℕ} {p : Pair} {w : ℤ}
      → Answered (SetsReadThreshold s.pair h n) p w
      → Exported s (passed (control (set_read_threshold h n)) 0 [] []) (with_pair p s) (returned w p [] [] [])
  murgwethan_set_write_threshold : {h n : ℕ} {p : Pair} {w : ℤ}
      → Answered (SetsWriteThreshold s.pair h n) p w
      → Exported s (passed (control (set_write_threshold h n)) 0 [] []) (with_pair p s) (returned w p [] [] [])
  murgwethan_thresholds : {h : ℕ} {out out' : List ℕ} {p : Pair} {w : ℤ}
      → Answered (Recorded threshold_numbers (AsksThresholds s.pair h) out out') p w
      → Exported s (passed (control (get_thresholds h)) 0 [] out) (with_pair p s) (returned w p [] [] out')
  murgwethan_info : {h : ℕ} {out out' : List ℕ} {p : Pair} {w : ℤ}
      → Answered (Recorded info_numbers (AsksInfo s.pair h (own_slices (is_one h) s).table) out out') p w
      → Exported s (passed (control (get_info h)) 0 [] out) (with_pair p s) (returned w p [] [] out')
  murgwethan_wait : {h key mask edge : ℕ} {p : Pair} {w : ℤ}
      → Answered (Waits s.pair h key mask edge) p w
      → Exported s (passed (control (wait h key mask edge)) 0 [] []) (with_pair p s) (returned w p [] [] [])
  murgwethan_take : {out out' : List ℕ} {p : Pair} {w : ℤ}
      → Answered (Recorded packet_numbers (Takes s.pair) out out') p w
      → Exported s (passed (control take_packet) 0 [] out) (with_pair p s) (returned w p [] [] out')
  murgwethan_cancel : {h key : ℕ} {p : Pair} {w : ℤ}
      → Answered (Cancels s.pair h key) p w
      → Exported s (passed (control (cancel h key)) 0 [] []) (with_pair p s) (returned w p [] [] [])
  murgwethan_close : {h : ℕ} {p : Pair} {w : ℤ}
      → Answered (Closes s.pair h) p w
      → Exported s (passed (close h) 0 [] []) (with_pair p s) (returned w p [] [] [])
  murgwethan_user_write : {h o base a n at : ℕ} {memory memory' ring' table' : List ℕ} {p : Pair} {w : ℤ}
      → Answered (UserWrites s.pair h base o a n at memory memory' (peer_slices (is_one h) s).ring ring' (peer_slices (is_one h) s).table table') p w
      → Exported s (passed (write h o a n at) base memory []) (with_peer_slices (is_one h) p (slices_of ring' table') s) (returned w p [] memory' [])
  murgwethan_user_read : {h o base a n at : ℕ} {memory memory' : List ℕ} {p : Pair} {w : ℤ}
      → Answered (UserReads s.pair h base o a n at (own_slices (is_one h) s).ring (own_slices (is_one h) s).table memory memory') p w
      → Exported s (passed (read h o a n at) base memory []) (with_pair p s)
      (returned w p (take (count_in w) (drop (a - base) (bytes_landed s.pair h base a (count_in w) (own_slices (is_one h) s).ring memory))) memory' [])
  murgwethan_user_set_disposition : {h a b : ℕ} {p : Pair} {w : ℤ}
      → Answered (UserDisposes s.pair h a b) p w
      → Exported s (passed (control (set_disposition h a b)) 0 [] []) (with_pair p s) (returned w p [] [] [])
  murgwethan_user_shutdown : {h o : ℕ} {p : Pair} {w : ℤ}
      → Answered (UserShuts s.pair h o) p w
      → Exported s (passed (control (shutdown h o)) 0 [] []) (with_pair p s) (returned w p [] [] [])

-- ---- a run of exported calls

-- a run: a done create on any record, then a chain of exported calls. p is the pair that create leaves, s the last state. 01 "Two runs".
pub data ExportedRun (c : Create) (one two : Slices) (xs : List Passed) : Pair → List Returned → State → Type 0 where
  run : {before p : Pair} {w : ℤ} {ys : List Returned} {s : State}
      → Answered (CreatesBy before c one two) p w → is_count w ≡ true → Chain Exported (state p one two) xs ys s → ExportedRun c one two xs p ys s

abbrev pub inputs : List Passed → List Input
inputs xs = map (λ (x : Passed). x.input) xs

abbrev pub arrays_in : List Passed → List (List ℕ)
arrays_in xs = map (λ (x : Passed). x.array) xs

abbrev pub words_of : List Returned → List ℤ
words_of ys = map (λ (y : Returned). y.word) ys

abbrev pub pairs_of : List Returned → List Pair
pairs_of ys = map (λ (y : Returned). y.pair) ys

abbrev pub deliveries_of : List Returned → List (List ℕ)
deliveries_of ys = map (λ (y : Returned). y.delivered) ys

abbrev pub memories_of : List Returned → List (List ℕ)
memories_of ys = map (λ (y : Returned). y.memory) ys

abbrev pub arrays_of : List Returned → List (List ℕ)
arrays_of ys = map (λ (y : Returned). y.array) ys

-- the arrays after each call of a list, from the calls, their answers and what the arrays held
unfoldable pub arrays_after : List Call → List Answer → List (List ℕ) → List (List ℕ)
arrays_after [] rs outs = []
arrays_after (c ∷ cs) [] outs = []
arrays_after (c ∷ cs) (r ∷ rs) [] = []
arrays_after (c ∷ cs) (r ∷ rs) (out ∷ outs) = array_after c r out ∷ arrays_after cs rs outs

-- what the calls give, from the outcomes of a run by value
pub record Gives (xs : List Passed) (ys : List Returned) (os : List Outcome) : Type 0 where
  pub words : words_of ys ≡ map answer_word (answers os)
  pub pairs : pairs_of ys ≡ map (λ (o : Outcome). o.seen.pair) os
  pub bytes : deliveries_of ys ≡ deliveries os
  pub memories : memories_of ys ≡ map (λ (o : Outcome). o.memory) os
  pub arrays : arrays_of ys ≡ arrays_after (calls (inputs xs)) (answers os) (arrays_in xs)

-- a `Run` with the same last state; its outcomes have each end's slices after each call
pub record RunOf (c : Create) (one two : Slices) (xs : List Passed) (p : Pair) (ys : List Returned) (s : State) : Type 0 where
  pub outcomes : List Outcome
  pub run : Run c one two (inputs xs) (seen_of (created_by c one two) p) outcomes s
  pub gives : Gives xs ys outcomes

abbrev pub RunsAreRuns : Type 0
RunsAreRuns =
    (c : Create) (one two : Slices) (xs : List Passed) (p : Pair) (ys : List Returned) (s : State)
    → ExportedRun c one two xs p ys s → RunOf c one two xs p ys s

-- ---- what is claimed of runs of exported calls

-- ---- each exported call is a step of a run, and a done create starts one

-- An exported call is a step of `Does`, with an outcome whose answer has the word returned. The pair, the bytes and the memory are those of the
-- outcome, and the array has the numbers of the answer's record.
pub record IsStep (s : State) (x : Passed) (s' : State) (y : Returned) : Type 0 where
  pub outcome : Outcome
  pub step : Does s x.input s' outcome
  pub word : y.word ≡ answer_word outcome.seen.answer
  pub pair : y.pair ≡ outcome.seen.pair
  pub delivered : y.delivered ≡ outcome.delivered
  pub memory : y.memory ≡ outcome.memory
  pub array : y.array ≡ array_after x.input.call outcome.seen.answer x.array

abbrev pub CallsAreSteps : Type 0
CallsAreSteps = (s : State) (x : Passed) (s' : State) (y : Returned) → Exported s x s' y → IsStep s x s' y

-- 01 "Status and answer word": a refused call changes nothing
pub record ExportedUnchanged (s : State) (x : Passed) (s' : State) (y : Returned) : Type 0 where
  pub state : s' ≡ s
  pub memory : y.memory ≡ x.input.memory
  pub array : y.array ≡ x.array

abbrev pub ExportedRefusedChangesNothing : Type 0
ExportedRefusedChangesNothing = (s : State) (x : Passed) (s' : State) (y : Returned) → Exported s x s' y → is_count y.word ≡ false → ExportedUnchanged s x s' y

-- A done create starts a `Run` with the pair at exit. A refused one leaves the record as it was, while a `Run` has the record of
-- capacity 0 there, on which every call is −1; so a run of exported calls starts with a done create.
pub record Created (p : Pair) (c : Create) (one two : Slices) (p' : Pair) (w : ℤ) : Type 0 where
  pub word : w ≡ answer_word (created_by c one two)
  pub starts : is_count w ≡ true
      → (is : List Input) (os : List Outcome) (s : State)
      → Chain Does (state p' one two) is os s → Run c one two is (seen_of (created_by c one two) p') os s
  pub refused : is_count w ≡ false → p' ≡ p

abbrev pub CreateStarts : Type 0
CreateStarts = (p : Pair) (c : Create) (one two : Slices) (p' : Pair) (w : ℤ) → Answered (CreatesBy p c one two) p' w → Created p c one two p' w

-- ---- every list of exported calls has a run

-- what can be passed: the arguments of one exported call
pub data Passable : Passed → Type 0 where
  to_write : (h : ℕ) (bytes : List ℕ) → Passable (passed (plain_write h) 0 bytes [])
  to_read : (h : ℕ) (peek : Bool) (buffer : List ℕ) → Passable (passed (plain_read h peek) 0 buffer [])
  to_set_disposition : (h a b : ℕ) → Passable (passed (control (plain_disposition h a b)) 0 [] [])
  to_shutdown : (h : ℕ) (reading writing : Bool) → Passable (passed (control (plain_shutdown h reading writing)) 0 [] [])
  to_set_read_threshold : (h n : ℕ) → Passable (passed (control (set_read_threshold h n)) 0 [] [])
  to_set_write_threshold : (h n : ℕ) → Passable (passed (control (set_write_threshold h n)) 0 [] [])
  to_thresholds : (h : ℕ) (out : List ℕ) → Passable (passed (control (get_thresholds h)) 0 [] out)
  to_info : (h : ℕ) (out : List ℕ) → Passable (passed (control (get_info h)) 0 [] out)
  to_wait : (h key mask edge : ℕ) → Passable (passed (control (wait h key mask edge)) 0 [] [])
  to_take : (out : List ℕ) → Passable (passed (control take_packet) 0 [] out)
  to_cancel : (h key : ℕ) → Passable (passed (control (cancel h key)) 0 [] [])
  to_close : (h : ℕ) → Passable (passed (close h) 0 [] [])
  to_user_write : (h o base a n at : ℕ) (memory : List ℕ) → Passable (passed (write h o a n at) base memory [])
  to_user_read : (h o base a n at : ℕ) (memory : List ℕ) → Passable (passed (read h o a n at) base memory [])
  to_user_set_disposition : (h a b : ℕ) → Passable (passed (control (set_disposition h a b)) 0 [] [])
  to_user_shutdown : (h o : ℕ) → Passable (passed (control (shutdown h o)) 0 [] [])

pub data AllPassable : List Passed → Type 0 where
  none : AllPassable []
  next : {x : Passed} {xs : List Passed} → Passable x → AllPassable xs → AllPassable (x ∷ xs)

-- a run of these calls
pub record SomeRun (c : Create) (one two : Slices) (xs : List Passed) : Type 0 where
  pub pair : Pair
  pub gives : List Returned
  pub last : State
  pub run : ExportedRun c one two xs pair gives last

abbrev pub ExportedRunsExist : Type 0
ExportedRunsExist =
    (c : Create) (one two : Slices) → is_done (created_by c one two) ≡ true → (xs : List Passed) → AllPassable xs → SomeRun c one two xs

-- ---- two runs

-- creates with the same arguments and lengths return the same word, whatever the records and slices hold
abbrev pub CreatesAlike : Type 0
CreatesAlike =
    (c : Create) (one two one' two' : Slices) → SameLengths one one' → SameLengths two two'
    → (before before' p p' : Pair) (w w' : ℤ) → Answered (CreatesBy before c one two) p w → Answered (CreatesBy before' c one' two') p' w'
    → w ≡ w'

abbrev pub signals_of : (h : ℕ) → List Returned → List ℤ
signals_of h ys = map (λ (p : Pair). signal_number p h) (pairs_of ys)

-- What is claimed of two runs that were passed xs and xs', whose create left p and p' and whose calls gave ys and ys':
pub record ExportedAlike (datagram : Bool) (xs xs' : List Passed) (p p' : Pair) (ys ys' : List Returned) : Type 0 where
  -- create leaves the same pair,
  pub create : p ≡ p'
  -- after every call the word returned and the pair, which has both signal words, are the same,
  pub words : words_of ys ≡ words_of ys'
  pub pairs : pairs_of ys ≡ pairs_of ys'
  -- and so is the word that `murgwethan_signal` returns of an end between the calls;
  pub signals : (h : ℕ) → signals_of h ys ≡ signals_of h ys'
  -- the words are those of one list of answers, whose records both runs put into the arrays, over what each array held,
  pub answers : List Answer
  pub answered : words_of ys ≡ map answer_word answers
  pub arrays : arrays_of ys ≡ arrays_after (calls (inputs xs)) answers (arrays_in xs)
  pub arrays' : arrays_of ys' ≡ arrays_after (calls (inputs xs)) answers (arrays_in xs')
  -- the bytes delivered in each run are those found at the sources, one list of sources for both,
  pub first : map (map some) (deliveries_of ys) ≡ map (map (found (inputs xs))) (sources datagram (calls (inputs xs)) answers)
  pub second : map (map some) (deliveries_of ys') ≡ map (map (found (inputs xs'))) (sources datagram (calls (inputs xs)) answers)
  -- and memory at exit of each call is told by what it held at entry, the call, its answer and the bytes delivered, in each run
  pub memory : memories_of ys ≡ memories_after (inputs xs) answers (deliveries_of ys)
  pub memory' : memories_of ys' ≡ memories_after (inputs xs') answers (deliveries_of ys')

-- Any list of exported calls, run twice. Create's arguments and the slices' lengths are the same in both runs, and so are the calls, their
-- arguments, bases and memory lengths. Rings, tables and the record hold anything before create, memory and arrays anything at each call, in
-- each run.
abbrev pub ExportedTwoRuns : Type 0
ExportedTwoRuns =
    (c : Create) (one two one' two' : Slices) → SameLengths one one' → SameLengths two two'
    → (xs xs' : List Passed) → map public (inputs xs) ≡ map public (inputs xs')
    → (p p' : Pair) (ys ys' : List Returned) (s s' : State) → ExportedRun c one two xs p ys s → ExportedRun c one' two' xs' p' ys' s'
    → ExportedAlike (eqb c.kind 1) xs xs' p p' ys ys'

-- ---- all of it

pub record ExportedClaims : Type 0 where
  -- each exported call is a step of a run, and a refused one changes nothing
  pub calls : CallsAreSteps
  pub refused : ExportedRefusedChangesNothing
  -- a done create starts a run, and a refused one changes nothing
  pub create : CreateStarts
  -- a run of exported calls is a `Run`
  pub runs : RunsAreRuns
  -- every list of exported calls has a run
  pub exist : ExportedRunsExist
  -- 01 "Two runs": any list of exported calls, run twice
  pub creates : CreatesAlike
  pub two_runs : ExportedTwoRuns
