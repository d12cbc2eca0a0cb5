-- What the records of a write and a read say, on one state: the 3 bytes `abc` queued at both ends, from place 7 of 8 on and then from the ring's
-- start; and one change of a word. 01 "Delivered bytes", "Calls over user memory", "Signal word and packets".
use Rattle.std.specs.Prelude.{ℕ, true, false, List, [], ◌∷◌, ◌≡◌}
use Rattle.definition.specs.Status.{Answer}
use Rattle.std.specs.declared.result.Result.TheVariants.{Ok, Err}
use Rattle.definition.specs.declared.Record.TheVariants.{Count}
use Rattle.definition.specs.declared.Status.TheVariants.{InvalidArgs}
use Rattle.definition.specs.declared.Pair.{Pair}
use Rattle.definition.specs.declared.Step.{Step}
use Rattle.definition.specs.Signal.{changed_word}
use Rattle.definition.specs.Write.{Writes, UserWrites, pair_written}
use Rattle.definition.specs.Read.{Reads, BytesRead, UserReads, pair_read}
use Rattle.definition.specs.declared.Disposition.TheVariants.{Unchanged, Disable}
use Rattle.definition.specs.Disposition.{disposed}
use Rattle.definition.specs.Shutdown.{shut}
use Rattle.definition.specs.Close.{closed as closedPair}
use Rattle.definition.specs.cases.States.{on_stream, on_datagram, empty_queue, queue, queued, end, opened, pair_of_eight}
use Rattle.definition.specs.cases.Scripts.{letters}

abbrev pub three : Pair
three = pair_of_eight on_datagram (opened (queued on_datagram)) (opened (queued on_datagram))

-- `abc` in the ring, and its length in the table
abbrev pub ring_abc : List ℕ
ring_abc = 98 ∷ 99 ∷ 0 ∷ 0 ∷ 0 ∷ 0 ∷ 0 ∷ 97 ∷ []

abbrev pub table_abc : List ℕ
table_abc = 5 ∷ 5 ∷ 5 ∷ 5 ∷ 5 ∷ 5 ∷ 5 ∷ 3 ∷ []

-- after a write of `cde` they hold it too
abbrev pub ring_both : List ℕ
ring_both = 98 ∷ 99 ∷ 99 ∷ 100 ∷ 101 ∷ 0 ∷ 0 ∷ 97 ∷ []

abbrev pub table_both : List ℕ
table_both = 3 ∷ 5 ∷ 5 ∷ 5 ∷ 5 ∷ 5 ∷ 5 ∷ 3 ∷ []

-- memory of 16 letters with the count 3 at 4104, and with `abc` at 4106 and no count
abbrev pub counted : List ℕ
counted = 97 ∷ 98 ∷ 99 ∷ 100 ∷ 101 ∷ 102 ∷ 103 ∷ 104 ∷ 3 ∷ 0 ∷ 0 ∷ 0 ∷ 0 ∷ 0 ∷ 0 ∷ 0 ∷ []

abbrev landed_abc : List ℕ
landed_abc = 97 ∷ 98 ∷ 99 ∷ 100 ∷ 101 ∷ 102 ∷ 103 ∷ 104 ∷ 105 ∷ 106 ∷ 97 ∷ 98 ∷ 99 ∷ 110 ∷ 111 ∷ 112 ∷ []

abbrev pub step : Pair → Answer → Step
step p a = record { pair = p; answer = a }

pub record Promises : Type 0 where
  -- a write of `cde` puts its bytes and its length behind those queued
  pub written : Writes three 1 (99 ∷ 100 ∷ 101 ∷ []) ring_abc ring_both table_abc table_both (step (pair_written three 1 3) (Ok (Count 3)))
  -- over user memory it takes them from its address, and its count lands
  pub user_written : UserWrites three 1 4096 0 4098 3 4104 letters counted ring_abc ring_both table_abc table_both (step (pair_written three 1 3) (Ok (Count 3)))
  -- refused, it changes nothing
  pub user_refused : UserWrites three 1 4096 0 4098 3 4105 letters letters ring_abc ring_abc table_abc table_abc (step three (Err InvalidArgs))
  -- a read into 2 bytes delivers the first 2, and the whole datagram leaves
  pub read : Reads three 2 false ring_abc table_abc (0 ∷ 0 ∷ []) (97 ∷ 98 ∷ []) (step (pair_read three 2 false 3 2) (Ok (Count 2)))
  -- over user memory its bytes land first, the count over them
  pub bytes_read : BytesRead three 2 4096 0 4106 3 4104 ring_abc table_abc letters landed_abc (step (pair_read three 2 false 3 3) (Ok (Count 3)))
  pub user_read : UserReads three 2 4096 0 4106 3 4104 ring_abc table_abc letters counted (step (pair_read three 2 false 3 3) (Ok (Count 3)))
  -- refused, it changes nothing
  pub user_unread : UserReads three 2 4096 0 4106 3 4105 ring_abc table_abc letters letters (step three (Err InvalidArgs))
  -- a change clears, then sets: a bit that is in both is set. No call makes such a change.
  pub changed : changed_word 0x3 0x1 0x6 ≡ 0x5

-- ---- next pairs, where no line shows them

-- end 1 is closed and its word is 0; the queue of end 2 is full
abbrev pub gone : Pair
gone = pair_of_eight on_stream (end true 0x0 empty_queue) (opened (queue 7 8 0 0))

pub record NextPairs : Type 0 where
  -- a close empties the queue, whose starts become 0, and leaves the end's own word; an open peer is told
  pub closed_queue : (closedPair true three).one.queue ≡ empty_queue
  pub closed_word : (closedPair true three).one.signals ≡ 0x2
  pub told_of_close : (closedPair true three).two.signals ≡ 0x4
  -- nothing is told to a closed peer: by close, read, disposition and shutdown
  pub by_close : (closedPair false gone).one.signals ≡ 0x0
  pub by_read : (pair_read gone 2 false 0 3).one.signals ≡ 0x0
  pub by_disposition : (disposed false Disable Disable gone).one.signals ≡ 0x0
  pub by_shutdown : (shut false false false gone).one.signals ≡ 0x0
  -- own disable changes the reading flag of an open peer only, peer disable that of this end also with a closed peer
  pub peer_reading : (disposed false Disable Unchanged gone).one.read_disabled ≡ false
  pub open_reading : (disposed false Disable Unchanged three).one.read_disabled ≡ true
  pub own_reading : (disposed false Unchanged Disable gone).two.read_disabled ≡ true
