-- What the functions of src/ ensure: what a call of the code gives is a step of `Does`, on every state that has its pair and the slices
-- that it is lent. The rest of the state is any. That `Does` has no other step for it is `CallsMatch`, in the crate definition_runs. 01 "Two runs".
use Rattle.std.specs.Prelude.{ℕ, ◌-◌, List, [], ◌≡◌, take, drop}
use Rattle.definition.specs.declared.Pair.{Pair}
use Rattle.definition.specs.declared.Step.{Step}
use Rattle.definition.specs.Calls.{Call, input, Slices, state, with_pair, gives, Input, own_slices, read, peer_slices, with_peer_slices, Create, State, seen_of, Outcome}
use Rattle.definition_runs.specs.Run.{Does, Chain, Run}
use Rattle.definition.specs.Pair.{is_one}
use Rattle.definition.specs.Status.{count_of}
use Rattle.definition.specs.Read.{BytesRead}

-- a call that is lent no slice and looks at no memory
abbrev pub StepOf : Pair → Call → Step → Type 0
StepOf p call r =
    (one two : Slices) (base : ℕ) (memory : List ℕ)
    → Does (state p one two) (input call base memory) (with_pair r.pair (state p one two)) (gives r (state p one two) [] memory)

-- a call by handle h that is lent its own slices, and leaves them as they are
abbrev pub OwnLent : Pair → (h : ℕ) → (lent : Slices) → Input → Step → (delivered memory : List ℕ) → Type 0
OwnLent p h lent i r delivered memory =
    (one two : Slices) → own_slices (is_one h) (state p one two) ≡ lent
    → Does (state p one two) i (with_pair r.pair (state p one two)) (gives r (state p one two) delivered memory)

-- A read over user memory. `landed` is its memory between its bytes and its count: what `read_bytes` leaves there. The bytes that the read
-- delivers are read in it, from the address on.
pub record ReadLent (p : Pair) (h options address n countAt : ℕ) (lent : Slices) (base : ℕ) (memory memory' : List ℕ) (r : Step) : Type 0 where
  pub landed : List ℕ
  pub bytes : BytesRead p h base options address n countAt lent.ring lent.table memory landed r
  pub step :
      OwnLent p h lent (input (read h options address n countAt) base memory) r (take (count_of r.answer) (drop (address - base) landed)) memory'

-- a call by handle h that is lent the peer's slices, and leaves them as `left`
abbrev pub PeerLent : Pair → (h : ℕ) → (lent left : Slices) → Input → Step → (memory : List ℕ) → Type 0
PeerLent p h lent left i r memory =
    (one two : Slices) → peer_slices (is_one h) (state p one two) ≡ lent
    → Does (state p one two) i (with_peer_slices (is_one h) r.pair left (state p one two))
    (gives r (with_peer_slices (is_one h) r.pair left (state p one two)) [] memory)

-- create: a run begins with its answer and its pair, whatever calls follow
abbrev pub Starts : Create → (one two : Slices) → Step → Type 0
Starts c one two r =
    (is : List Input) (os : List Outcome) (s : State)
    → Chain Does (state r.pair one two) is os s → Run c one two is (seen_of r.answer r.pair) os s
