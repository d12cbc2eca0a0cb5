-- What the exported calls ensure can be met: every call on every state, and every list of calls, has its outcome. Assumes nothing.
use Prim.Native.Nat.{ℕ, ◌-◌}
use mathlib.Core.Path.{refl, ◌∙◌}
use mathlib.Core.List.{List, [], ◌∷◌}
use lib.Dec.{eqb}
use lib.ListN.{length, drop}
use Rattle.definition.specs.declared.Record.{Record}
use Rattle.definition.specs.Status.{Answer}
use Rattle.definition.specs.Status.{pick, answer_word, count_of, is_done}
use Rattle.definition.specs.Tests.{first_length, lent_of, Steps}
use Rattle.definition.specs.declared.Pair.{Pair}
use Rattle.definition.specs.Pair.{is_one, own, peer, ends_of}
use Rattle.definition.specs.Create.{new_pair, no_pair}
use Rattle.definition.specs.Write.{write_answer, pair_written, ring_written, table_written, user_write_answer}
use Rattle.definition.specs.Read.{read_answer, pair_read, buffer_read, is_peek, user_read_answer, bytes_landed}
use Rattle.definition.specs.Memory.{count_landed}
use Rattle.definition_runs.specs.Exported.{Answered, array_of, Recorded, Passed, Returned, Exported, murgwethan_write, murgwethan_read, murgwethan_set_disposition, murgwethan_shutdown, murgwethan_set_read_threshold, murgwethan_set_write_threshold, murgwethan_thresholds, murgwethan_info, murgwethan_wait, murgwethan_take, murgwethan_cancel, murgwethan_close, murgwethan_user_write, murgwethan_user_read, murgwethan_user_set_disposition, murgwethan_user_shutdown, run, Passable, to_write, to_read, to_set_disposition, to_shutdown, to_set_read_threshold, to_set_write_threshold, to_thresholds, to_info, to_wait, to_take, to_cancel, to_close, to_user_write, to_user_read, to_user_set_disposition, to_user_shutdown, AllPassable, none, next, ExportedRunsExist}
use Rattle.definition.specs.Calls.{State, state, own_slices, peer_slices, created_by}
use Rattle.definition_runs.specs.Run.{Chain, none as no-calls, next as next-call}
use Rattle.definition_runs.proofs.exported.Words.{is_count_lem}

record Some (s : State) (x : Passed) : Type 0 where
  pub state : State
  pub gives : Returned
  pub call : Exported s x state gives

-- a call that is lent nothing
answered : (p : Pair) (a : Answer) (q : Pair) → Answered (Steps p a q) (pick (is_done a) q p) (answer_word a)
answered p a q = record { answer = a; word = refl; kept = record { answer = refl; pair = refl } }

-- a call whose record goes to an array
recorded : (numbers : Record → List ℕ → List ℕ) (p : Pair) (a : Answer) (q : Pair) (out : List ℕ)
    → Answered (Recorded numbers (Steps p a q) out (array_of numbers a out)) (pick (is_done a) q p) (answer_word a)
recorded numbers p a q out = record { answer = a; word = refl; kept = record { step = record { answer = refl; pair = refl }; array = refl } }

some-call : (s : State) (x : Passed) → Passable x → Some s x
some-call s x (to_write h bytes) =
    let ring = (peer_slices (is_one h) s).ring in
    let table = (peer_slices (is_one h) s).table in
    let r : Answer = write_answer (ends_of s.pair) (lent_of s.pair.datagram (peer (is_one h) (ends_of s.pair)).queue ring table) h (length bytes) in
    record {
      state = _;
      gives = _;
      call =
          murgwethan_write {ring' = ring_written (ends_of s.pair) h (count_of r) bytes ring} {table' = table_written (ends_of s.pair) h (count_of r) table}
          {p = pair_written s.pair h (count_of r)} {w = answer_word r}
          (record { answer = r; word = refl; kept = record { answer = refl; pair = refl; bytes = refl; lengths = refl } });
    }
some-call s x (to_read h peek buffer) =
    let ring = (own_slices (is_one h) s).ring in
    let table = (own_slices (is_one h) s).table in
    let r : Answer = read_answer (ends_of s.pair) (lent_of s.pair.datagram (own (is_one h) (ends_of s.pair)).queue ring table) h (length buffer) in
    record {
      state = _;
      gives = _;
      call =
          murgwethan_read {buffer' = buffer_read (ends_of s.pair) h (count_of r) ring buffer}
          {p = pair_read s.pair h peek (first_length s.pair.datagram (own (is_one h) (ends_of s.pair)).queue table) (count_of r)} {w = answer_word r}
          (record { answer = r; word = refl; kept = record { answer = refl; pair = refl; bytes = refl } });
    }
some-call s x (to_set_disposition h a b) = record { state = _; gives = _; call = murgwethan_set_disposition (answered s.pair _ _) }
some-call s x (to_shutdown h reading writing) = record { state = _; gives = _; call = murgwethan_shutdown (answered s.pair _ _) }
some-call s x (to_set_read_threshold h n) = record { state = _; gives = _; call = murgwethan_set_read_threshold (answered s.pair _ _) }
some-call s x (to_set_write_threshold h n) = record { state = _; gives = _; call = murgwethan_set_write_threshold (answered s.pair _ _) }
some-call s x (to_thresholds h out) = record { state = _; gives = _; call = murgwethan_thresholds (recorded _ s.pair _ _ out) }
some-call s x (to_info h out) = record { state = _; gives = _; call = murgwethan_info (recorded _ s.pair _ _ out) }
some-call s x (to_wait h key mask edge) = record { state = _; gives = _; call = murgwethan_wait (answered s.pair _ _) }
some-call s x (to_take out) = record { state = _; gives = _; call = murgwethan_take (recorded _ s.pair _ _ out) }
some-call s x (to_cancel h key) = record { state = _; gives = _; call = murgwethan_cancel (answered s.pair _ _) }
some-call s x (to_close h) = record { state = _; gives = _; call = murgwethan_close (answered s.pair _ _) }
some-call s x (to_user_write h o base a n at memory) =
    let ring = (peer_slices (is_one h) s).ring in
    let table = (peer_slices (is_one h) s).table in
    let r : Answer = user_write_answer (ends_of s.pair) (lent_of s.pair.datagram (peer (is_one h) (ends_of s.pair)).queue ring table) h base (length memory) o a n at in
    record {
      state = _;
      gives = _;
      call =
          murgwethan_user_write {memory' = pick (is_done r) (count_landed base at (count_of r) memory) memory}
          {ring' = ring_written (ends_of s.pair) h (count_of r) (drop (a - base) memory) ring} {table' = table_written (ends_of s.pair) h (count_of r) table}
          {p = pair_written s.pair h (count_of r)} {w = answer_word r}
          (record { answer = r; word = refl; kept = record { answer = refl; pair = refl; bytes = refl; lengths = refl; user = refl } });
    }
some-call s x (to_user_read h o base a n at memory) =
    let ring = (own_slices (is_one h) s).ring in
    let table = (own_slices (is_one h) s).table in
    let r : Answer = user_read_answer (ends_of s.pair) (lent_of s.pair.datagram (own (is_one h) (ends_of s.pair)).queue ring table) h base (length memory) o a n at in
    record {
      state = _;
      gives = _;
      call =
          murgwethan_user_read {memory' = pick (is_done r) (count_landed base at (count_of r) (bytes_landed s.pair h base a (count_of r) ring memory)) memory}
          {p = pair_read s.pair h (is_peek o) (first_length s.pair.datagram (own (is_one h) (ends_of s.pair)).queue table) (count_of r)} {w = answer_word r}
          (record { answer = r; word = refl; kept = record { answer = refl; pair = refl; user = refl } });
    }
some-call s x (to_user_set_disposition h a b) = record { state = _; gives = _; call = murgwethan_user_set_disposition (answered s.pair _ _) }
some-call s x (to_user_shutdown h o) = record { state = _; gives = _; call = murgwethan_user_shutdown (answered s.pair _ _) }

record SomeCalls (s : State) (xs : List Passed) : Type 0 where
  pub gives : List Returned
  pub last : State
  pub calls : Chain Exported s xs gives last

some-calls : (s : State) {xs : List Passed} → AllPassable xs → SomeCalls s xs
some-calls s none = record { gives = []; last = s; calls = no-calls }
some-calls s (next {x} {xs} k ks) =
    let d = some-call s x k in
    let ds = some-calls d.state ks in
    record { gives = d.gives ∷ ds.gives; last = ds.last; calls = next-call d.call ds.calls }

pub runs_exist_lem : ExportedRunsExist
runs_exist_lem c one two done xs ks =
    let a : Answer = created_by c one two in
    let made : Pair = new_pair (eqb c.kind 1) c.capacity c.rights1 c.rights2 in
    let ds = some-calls (state (pick (is_done a) made no_pair) one two) ks in
    record { pair = _; gives = ds.gives; last = ds.last; run = run (answered no_pair a made) (is_count_lem a ∙ done) ds.calls }
