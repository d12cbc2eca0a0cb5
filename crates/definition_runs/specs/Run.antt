-- A run of the code: each call takes the pair and the slices as create or the last call left them, and gives what its function ensures.
-- 01 "Two runs".
use Rattle.std.specs.Prelude.{ℕ, ◌-◌, List, [], ◌∷◌, Bool, ◌≡◌, take, drop}
use Rattle.definition.specs.declared.Step.{Step}
use Rattle.definition.specs.Status.{count_of}
use Rattle.definition.specs.Pair.{is_one}
use Rattle.definition.specs.Write.{Writes, UserWrites}
use Rattle.definition.specs.Read.{Reads, BytesRead, UserReads}
use Rattle.definition.specs.Threshold.{AsksThresholds, SetsReadThreshold, SetsWriteThreshold}
use Rattle.definition.specs.Disposition.{PlainDisposes, UserDisposes}
use Rattle.definition.specs.Shutdown.{Shuts, UserShuts}
use Rattle.definition.specs.Info.{AsksInfo}
use Rattle.definition.specs.Port.{Takes, Cancels, Waits}
use Rattle.definition.specs.Close.{Closes}
use Rattle.definition.specs.Calls.{set_disposition, shutdown, plain_disposition, plain_shutdown, set_read_threshold, set_write_threshold, get_thresholds, get_info, wait, take_packet, cancel, write, read, plain_write, plain_read, close, control, Input, input, State, own_slices, peer_slices, with_pair, with_peer_slices, Outcome, gives, Create, Slices, state, Seen, seen_of, created_by, left_by, after, outcome, outcomes, after_all, pair_created, state_created, CreatesBy}
use Rattle.definition.specs.Create.{no_pair}
use Rattle.definition.specs.cases.Lines.{shown_lines, lines_of}

-- Each call takes the state that the last one left. A chain has its first state, what each call was passed, what each gave, and the last state. What
-- one call does is a parameter: calls of the code, exported calls, and calls on more than one pair make chains alike. 01 "Two runs".
pub data Chain {S I O : Type 0} (Does : S → I → S → O → Type 0) : S → List I → List O → S → Type 0 where
  none : {s : S} → Chain Does s [] [] s
  next : {s s' s'' : S} {i : I} {o : O} {is : List I} {os : List O}
      → Does s i s' o → Chain Does s' is os s'' → Chain Does s (i ∷ is) (o ∷ os) s''

-- One call on a state gives a state and an outcome. Each case has what one function ensures; a read over user memory has two,
-- `read_bytes` for its bytes and `read` for the whole. A write is lent the peer's slices, a read its
-- own. A read over user memory lands its bytes and then its count: `landed` is its memory between the two, and the bytes that it delivers are
-- read there, from its address on; those of a plain read in its buffer.
pub data Does (s : State) : Input → State → Outcome → Type 0 where
  did_write : {h o a n at base : ℕ} {memory memory' ring' table' : List ℕ} {r : Step}
      → UserWrites s.pair h base o a n at memory memory' (peer_slices (is_one h) s).ring ring' (peer_slices (is_one h) s).table table' r
      → Does s (input (write h o a n at) base memory) (with_peer_slices (is_one h) r.pair (record { ring = ring'; table = table' }) s)
      (gives r (with_peer_slices (is_one h) r.pair (record { ring = ring'; table = table' }) s) [] memory')
  did_read : {h o a n at base : ℕ} {memory landed memory' : List ℕ} {r : Step}
      → BytesRead s.pair h base o a n at (own_slices (is_one h) s).ring (own_slices (is_one h) s).table memory landed r
      → UserReads s.pair h base o a n at (own_slices (is_one h) s).ring (own_slices (is_one h) s).table memory memory' r
      → Does s (input (read h o a n at) base memory) (with_pair r.pair s) (gives r s (take (count_of r.answer) (drop (a - base) landed)) memory')
  did_dispose : {h a b base : ℕ} {memory : List ℕ} {r : Step}
      → UserDisposes s.pair h a b r
      → Does s (input (control (set_disposition h a b)) base memory) (with_pair r.pair s) (gives r s [] memory)
  did_shutdown : {h o base : ℕ} {memory : List ℕ} {r : Step}
      → UserShuts s.pair h o r
      → Does s (input (control (shutdown h o)) base memory) (with_pair r.pair s) (gives r s [] memory)
  did_plain_write : {h base : ℕ} {src ring' table' : List ℕ} {r : Step}
      → Writes s.pair h src (peer_slices (is_one h) s).ring ring' (peer_slices (is_one h) s).table table' r
      → Does s (input (plain_write h) base src) (with_peer_slices (is_one h) r.pair (record { ring = ring'; table = table' }) s)
      (gives r (with_peer_slices (is_one h) r.pair (record { ring = ring'; table = table' }) s) [] src)
  did_plain_read : {h base : ℕ} {peek : Bool} {buffer buffer' : List ℕ} {r : Step}
      → Reads s.pair h peek (own_slices (is_one h) s).ring (own_slices (is_one h) s).table buffer buffer' r
      → Does s (input (plain_read h peek) base buffer) (with_pair r.pair s) (gives r s (take (count_of r.answer) buffer') buffer')
  did_plain_dispose : {h a b base : ℕ} {memory : List ℕ} {r : Step}
      → PlainDisposes s.pair h a b r
      → Does s (input (control (plain_disposition h a b)) base memory) (with_pair r.pair s) (gives r s [] memory)
  did_plain_shutdown : {h base : ℕ} {reading writing : Bool} {memory : List ℕ} {r : Step}
      → Shuts s.pair h reading writing r
      → Does s (input (control (plain_shutdown h reading writing)) base memory) (with_pair r.pair s) (gives r s [] memory)
  did_read_threshold : {h n base : ℕ} {memory : List ℕ} {r : Step}
      → SetsReadThreshold s.pair h n r
      → Does s (input (control (set_read_threshold h n)) base memory) (with_pair r.pair s) (gives r s [] memory)
  did_write_threshold : {h n base : ℕ} {memory : List ℕ} {r : Step}
      → SetsWriteThreshold s.pair h n r
      → Does s (input (control (set_write_threshold h n)) base memory) (with_pair r.pair s) (gives r s [] memory)
  did_thresholds : {h base : ℕ} {memory : List ℕ} {r : Step}
      → AsksThresholds s.pair h r
      → Does s (input (control (get_thresholds h)) base memory) (with_pair r.pair s) (gives r s [] memory)
  did_info : {h base : ℕ} {memory : List ℕ} {r : Step}
      → AsksInfo s.pair h (own_slices (is_one h) s).table r
      → Does s (input (control (get_info h)) base memory) (with_pair r.pair s) (gives r s [] memory)
  did_wait : {h key mask edge base : ℕ} {memory : List ℕ} {r : Step}
      → Waits s.pair h key mask edge r
      → Does s (input (control (wait h key mask edge)) base memory) (with_pair r.pair s) (gives r s [] memory)
  did_take : {base : ℕ} {memory : List ℕ} {r : Step}
      → Takes s.pair r
      → Does s (input (control take_packet) base memory) (with_pair r.pair s) (gives r s [] memory)
  did_cancel : {h key base : ℕ} {memory : List ℕ} {r : Step}
      → Cancels s.pair h key r
      → Does s (input (control (cancel h key)) base memory) (with_pair r.pair s) (gives r s [] memory)
  did_close : {h base : ℕ} {memory : List ℕ} {r : Step}
      → Closes s.pair h r
      → Does s (input (close h) base memory) (with_pair r.pair s) (gives r s [] memory)

-- A whole run: create, which only reads its slices, then the calls. It has what is seen of create, what each call gave, and the last state.
pub data Run (c : Create) (one two : Slices) (is : List Input) : Seen → List Outcome → State → Type 0 where
  run : {r : Step} {os : List Outcome} {s : State}
      → CreatesBy no_pair c one two r
      → Chain Does (state r.pair one two) is os s
      → Run c one two is (seen_of r.answer r.pair) os s

-- ---- a run of the code is the computed one

-- each call
pub record Matches (s : State) (i : Input) (s' : State) (o : Outcome) : Type 0 where
  pub state : s' ≡ after s i
  pub out : o ≡ outcome s i
  -- the state is the one that the outcome shows
  pub left : s' ≡ left_by o

abbrev pub CallsMatch : Type 0
CallsMatch = (s : State) (i : Input) (s' : State) (o : Outcome) → Does s i s' o → Matches s i s' o

-- a whole run
pub record RunMatches (c : Create) (one two : Slices) (is : List Input) (x : Seen) (os : List Outcome) (s : State) : Type 0 where
  pub create : x ≡ seen_of (created_by c one two) (pair_created c (created_by c one two))
  pub calls : os ≡ outcomes (state_created c one two) is
  pub last : s ≡ after_all (state_created c one two) is

abbrev pub RunsMatch : Type 0
RunsMatch =
    (c : Create) (one two : Slices) (is : List Input) (x : Seen) (os : List Outcome) (s : State)
    → Run c one two is x os s → RunMatches c one two is x os s

-- every list of calls has a run, so that the claims about runs are not empty
abbrev pub RunsExist : Type 0
RunsExist =
    (c : Create) (one two : Slices) (is : List Input)
    → Run c one two is (seen_of (created_by c one two) (pair_created c (created_by c one two)))
    (outcomes (state_created c one two) is) (after_all (state_created c one two) is)

-- a run of the code shows the computed lines
abbrev pub LinesMatch : Type 0
LinesMatch =
    (c : Create) (one two : Slices) (is : List Input) (x : Seen) (os : List Outcome) (s : State)
    → Run c one two is x os s → shown_lines x os ≡ lines_of c one two is
