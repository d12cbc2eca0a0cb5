-- Two runs of one list of calls are alike in all but the bytes, and each byte delivered comes from the same offset of the same write in both.
-- First the lines of origins, from the calls and their answers alone: no byte, no pair and no slice is looked at. 01 "Two runs".
use Rattle.std.specs.Prelude.{ℕ, zero, suc, List, [], ◌∷◌, ◌++◌, map, Bool, true, false, ◌≡◌, eqb, drop, take, length}
use Rattle.std.proofs.Math.Option.{Option, none, some}
use Rattle.std.proofs.Math.ListN.{get_elem?}
use Rattle.definition.specs.Status.{Answer}
use Rattle.definition.specs.Status.{pick, count_of, is_done}
use Rattle.definition.specs.Pair.{is_one}
use Rattle.definition.specs.Read.{is_peek}
use Rattle.definition.specs.Calls.{Call, write, read, plain_write, plain_read, close, control, Input, bytes_of, Seen, Outcome, memories_after, Slices, Create, public, State}
use Rattle.definition_runs.specs.Run.{Run}

-- the origin of a byte: the call that wrote it, by its number in the list from 0, and the byte's offset in that write
pub record Origin : Type 0 where
  pub call : ℕ
  pub offset : ℕ

-- the m origins of call w from offset o on
unfoldable pub origins : (w o m : ℕ) → List Origin
origins w o zero = []
origins w o (suc m) = record { call = w; offset = o } ∷ origins w (suc o) m

-- a line in groups: a write adds one, a read of a stream leaves the rest as one; only datagram pairs look at the groups
abbrev pub OriginLine : Type 0
OriginLine = List (List Origin)

-- the line without its groups
unfoldable pub flat : OriginLine → List Origin
flat [] = []
flat (g ∷ gs) = g ++ flat gs

-- each end has a line
pub record OriginLines : Type 0 where
  pub one : OriginLine
  pub two : OriginLine

-- at create both are empty
abbrev pub no_lines : OriginLines
no_lines = record { one = []; two = [] }

abbrev pub own_line : Bool → OriginLines → OriginLine
own_line true ln = ln.one
own_line false ln = ln.two

abbrev pub peer_line : Bool → OriginLines → OriginLine
peer_line true ln = ln.two
peer_line false ln = ln.one

abbrev pub with_own : Bool → OriginLine → OriginLines → OriginLines
with_own true l ln = record { one = l; two = ln.two }
with_own false l ln = record { one = ln.one; two = l }

abbrev pub with_peer_line : Bool → OriginLine → OriginLines → OriginLines
with_peer_line true l ln = record { one = ln.one; two = l }
with_peer_line false l ln = record { one = l; two = ln.two }

-- a group of origins at the back of the line of end t's peer
abbrev pub fed : (t : Bool) → (group : List Origin) → OriginLines → OriginLines
fed t group ln = with_peer_line t (peer_line t ln ++ (group ∷ [])) ln

-- after a write of m bytes by end t, call number w: the m origins of the call, as one group
unfoldable pub added : (t : Bool) → (w m : ℕ) → OriginLines → OriginLines
added t w m ln = pick (eqb m 0) ln (fed t (origins w 0 m) ln)

-- the line after k origins, more than 0, were read from its front: on datagram pairs the whole first group goes
unfoldable pub shrunk : (datagram : Bool) → (k : ℕ) → OriginLine → OriginLine
shrunk dg k l = pick dg (drop 1 l) (drop k (flat l) ∷ [])

-- a read of end t that is done with k removes what it delivered; a peek removes nothing
unfoldable pub removed : (datagram t peek : Bool) → (k : ℕ) → OriginLines → OriginLines
removed dg t peek k ln = pick peek ln (pick (eqb k 0) ln (with_own t (shrunk dg k (own_line t ln)) ln))

-- the lines after call w and its answer. Writes, reads and close change them, and no refused call does: its count
-- is 0, and a close counts only if it is done.
unfoldable pub lines_after : (datagram : Bool) → (w : ℕ) → Call → Answer → OriginLines → OriginLines
lines_after dg w (write h o a n at) r ln = added (is_one h) w (count_of r) ln
lines_after dg w (read h o a n at) r ln = removed dg (is_one h) (is_peek o) (count_of r) ln
lines_after dg w (plain_write h) r ln = added (is_one h) w (count_of r) ln
lines_after dg w (plain_read h peek) r ln = removed dg (is_one h) peek (count_of r) ln
lines_after dg w (close h) r ln = pick (is_done r) (with_own (is_one h) [] ln) ln
lines_after dg w (control c) r ln = ln

-- the origins that a call delivers: a read or peek that is done with k gives the first k of its end's line
unfoldable pub source_of : OriginLines → Call → Answer → List Origin
source_of ln (write h o a n at) r = []
source_of ln (read h o a n at) r = take (count_of r) (flat (own_line (is_one h) ln))
source_of ln (plain_write h) r = []
source_of ln (plain_read h peek) r = take (count_of r) (flat (own_line (is_one h) ln))
source_of ln (close h) r = []
source_of ln (control c) r = []

-- the same of each call of a list, from call w on
unfoldable pub sources_from : (datagram : Bool) → (w : ℕ) → OriginLines → List Call → List Answer → List (List Origin)
sources_from dg w ln [] rs = []
sources_from dg w ln (c ∷ cs) [] = []
sources_from dg w ln (c ∷ cs) (r ∷ rs) = source_of ln c r ∷ sources_from dg (suc w) (lines_after dg w c r ln) cs rs

unfoldable pub sources : (datagram : Bool) → List Call → List Answer → List (List Origin)
sources dg cs rs = sources_from dg 0 no_lines cs rs

-- the byte at an origin: what its call was passed in memory, at the origin's offset from where its bytes begin; none where there is none
unfoldable pub byte_at : Option Input → (offset : ℕ) → Option ℕ
byte_at none o = none
byte_at (some i) o = get_elem? (bytes_of i) o

unfoldable pub found : List Input → Origin → Option ℕ
found is o = byte_at (get_elem? is o.call) o.offset

-- ---- two runs

abbrev pub seen : List Outcome → List Seen
seen os = map (λ (o : Outcome). o.seen) os

abbrev pub answers : List Outcome → List Answer
answers os = map (λ (o : Outcome). o.seen.answer) os

abbrev pub deliveries : List Outcome → List (List ℕ)
deliveries os = map (λ (o : Outcome). o.delivered) os

abbrev pub memories_left : List Outcome → List (List ℕ)
memories_left os = map (λ (o : Outcome). o.memory) os

abbrev pub calls : List Input → List Call
calls is = map (λ (i : Input). i.call) is

-- What is claimed of two runs, on the inputs is and js, whose create gave x and y and whose calls gave os and os':
pub record Alike (datagram : Bool) (is js : List Input) (x y : Seen) (os os' : List Outcome) : Type 0 where
  -- create's answer and pair are the same,
  pub create : x ≡ y
  -- after every call the answer, both signal words and the pair are the same,
  pub same : seen os ≡ seen os'
  -- the bytes delivered in each run are those found at the sources, one list of sources for both,
  pub first : map (map some) (deliveries os) ≡ map (map (found is)) (sources datagram (calls is) (answers os))
  pub second : map (map some) (deliveries os') ≡ map (map (found js)) (sources datagram (calls is) (answers os))
  -- and memory at exit of each call is told by what it held at entry, the call, its answer and the bytes delivered, in each run
  pub memory : memories_left os ≡ memories_after is (answers os) (deliveries os)
  pub memory' : memories_left os' ≡ memories_after js (answers os) (deliveries os')

pub record SameLengths (l l' : Slices) : Type 0 where
  pub ring : length l.ring ≡ length l'.ring
  pub table : length l.table ≡ length l'.table

-- Any list of calls, run twice by the code. Create's arguments and the slices' lengths are the same in both runs, and so are the calls, their
-- arguments, bases and memory lengths. Rings and tables hold anything before create, and memory anything at each call, in each run.
abbrev pub TwoRuns : Type 0
TwoRuns =
    (c : Create) (one two one' two' : Slices) → SameLengths one one' → SameLengths two two'
    → (is js : List Input) → map public is ≡ map public js
    → (x y : Seen) (os os' : List Outcome) (s s' : State) → Run c one two is x os s → Run c one' two' js y os' s'
    → Alike (eqb c.kind 1) is js x y os os'
