-- What the functions ensure can be met: every call on every state, and every list of calls, has its outcome. Assumes nothing.
use Prim.Native.Nat.{ℕ, ◌-◌}
use mathlib.Core.Path.{refl}
use mathlib.Core.List.{List, [], ◌∷◌}
use lib.ListN.{length, drop}
use Rattle.definition.specs.Status.{Answer}
use Rattle.definition.specs.Status.{pick, count_of, is_done}
use Rattle.definition.specs.Tests.{first_length, lent_of, Steps}
use Rattle.definition.specs.declared.Pair.{Pair}
use Rattle.definition.specs.declared.Step.{Step}
use Rattle.definition.specs.Pair.{is_one, own, peer, ends_of}
use Rattle.definition.specs.Write.{write_answer, pair_written, ring_written, table_written, user_write_answer}
use Rattle.definition.specs.Read.{read_answer, pair_read, buffer_read, is_peek, user_read_answer, bytes_landed}
use Rattle.definition.specs.Memory.{count_landed}
use Rattle.definition.specs.Calls.{set_disposition, shutdown, plain_disposition, plain_shutdown, set_read_threshold, set_write_threshold, get_thresholds, get_info, wait, take_packet, cancel, Call, write, read, plain_write, plain_read, close, control, Input, input, State, own_slices, peer_slices, Outcome, created_by, after, outcome, outcomes, after_all, pair_created, state_created}
use Rattle.definition_runs.specs.Run.{Chain, none, next, Does, did_write, did_read, did_dispose, did_shutdown, did_plain_write, did_plain_read, did_plain_dispose, did_plain_shutdown, did_read_threshold, did_write_threshold, did_thresholds, did_info, did_wait, did_take, did_cancel, did_close, run, RunsExist}
use Rattle.definition_runs.proofs.runs.Match.{calls_match}

record Some (s : State) (i : Input) : Type 0 where
  pub state : State
  pub out : Outcome
  pub does : Does s i state out

-- the step of a call that is lent nothing
abbrev step : Pair → Answer → Pair → Step
step p a q = record { pair = pick (is_done a) q p; answer = a }

meets : (p : Pair) (a : Answer) (q : Pair) → Steps p a q (step p a q)
meets p a q = record { answer = refl; pair = refl }

some-call : (s : State) (base : ℕ) (memory : List ℕ) (c : Call) → Some s (input c base memory)
some-call s base memory (write h o a n at) =
    let ring = (peer_slices (is_one h) s).ring in
    let table = (peer_slices (is_one h) s).table in
    let x : Answer = user_write_answer (ends_of s.pair) (lent_of s.pair.datagram (peer (is_one h) (ends_of s.pair)).queue ring table) h base (length memory) o a n at in
    record {
      state = _;
      out = _;
      does =
          did_write {memory' = pick (is_done x) (count_landed base at (count_of x) memory) memory}
          {ring' = ring_written (ends_of s.pair) h (count_of x) (drop (a - base) memory) ring} {table' = table_written (ends_of s.pair) h (count_of x) table}
          {r = record { pair = pair_written s.pair h (count_of x); answer = x }}
          (record { answer = refl; pair = refl; bytes = refl; lengths = refl; user = refl });
    }
some-call s base memory (read h o a n at) =
    let ring = (own_slices (is_one h) s).ring in
    let table = (own_slices (is_one h) s).table in
    let x : Answer = user_read_answer (ends_of s.pair) (lent_of s.pair.datagram (own (is_one h) (ends_of s.pair)).queue ring table) h base (length memory) o a n at in
    let landed : List ℕ = bytes_landed s.pair h base a (count_of x) ring memory in
    let r : Step =
    record { pair = pair_read s.pair h (is_peek o) (first_length s.pair.datagram (own (is_one h) (ends_of s.pair)).queue table) (count_of x); answer = x } in
    record {
      state = _;
      out = _;
      does =
          did_read {landed = landed} {memory' = pick (is_done x) (count_landed base at (count_of x) landed) memory} {r = r}
          (record { answer = refl; pair = refl; user = refl })
          (record { answer = refl; pair = refl; user = refl });
    }
some-call s base memory (plain_write h) =
    let ring = (peer_slices (is_one h) s).ring in
    let table = (peer_slices (is_one h) s).table in
    let x : Answer = write_answer (ends_of s.pair) (lent_of s.pair.datagram (peer (is_one h) (ends_of s.pair)).queue ring table) h (length memory) in
    record {
      state = _;
      out = _;
      does =
          did_plain_write {ring' = ring_written (ends_of s.pair) h (count_of x) memory ring} {table' = table_written (ends_of s.pair) h (count_of x) table}
          {r = record { pair = pair_written s.pair h (count_of x); answer = x }}
          (record { answer = refl; pair = refl; bytes = refl; lengths = refl });
    }
some-call s base memory (plain_read h peek) =
    let ring = (own_slices (is_one h) s).ring in
    let table = (own_slices (is_one h) s).table in
    let x : Answer = read_answer (ends_of s.pair) (lent_of s.pair.datagram (own (is_one h) (ends_of s.pair)).queue ring table) h (length memory) in
    let r : Step =
    record { pair = pair_read s.pair h peek (first_length s.pair.datagram (own (is_one h) (ends_of s.pair)).queue table) (count_of x); answer = x } in
    record { state = _; out = _; does = did_plain_read {buffer' = buffer_read (ends_of s.pair) h (count_of x) ring memory} {r = r} (record { answer = refl; pair = refl; bytes = refl }) }
some-call s base memory (control (set_disposition h a b)) = record { state = _; out = _; does = did_dispose (meets s.pair _ _) }
some-call s base memory (control (shutdown h o)) = record { state = _; out = _; does = did_shutdown (meets s.pair _ _) }
some-call s base memory (control (plain_disposition h a b)) = record { state = _; out = _; does = did_plain_dispose (meets s.pair _ _) }
some-call s base memory (control (plain_shutdown h a b)) = record { state = _; out = _; does = did_plain_shutdown (meets s.pair _ _) }
some-call s base memory (control (set_read_threshold h n)) = record { state = _; out = _; does = did_read_threshold (meets s.pair _ _) }
some-call s base memory (control (set_write_threshold h n)) = record { state = _; out = _; does = did_write_threshold (meets s.pair _ _) }
some-call s base memory (control (get_thresholds h)) = record { state = _; out = _; does = did_thresholds (meets s.pair _ _) }
some-call s base memory (control (get_info h)) = record { state = _; out = _; does = did_info (meets s.pair _ _) }
some-call s base memory (control (wait h k m e)) = record { state = _; out = _; does = did_wait (meets s.pair _ _) }
some-call s base memory (control take_packet) = record { state = _; out = _; does = did_take (meets s.pair _ _) }
some-call s base memory (control (cancel h k)) = record { state = _; out = _; does = did_cancel (meets s.pair _ _) }
some-call s base memory (close h) = record { state = _; out = _; does = did_close (meets s.pair _ _) }

does_so : (s : State) (i : Input) → Does s i (after s i) (outcome s i)
does_so s i =
    let x = some-call s i.base i.memory i.call in
    let m = calls_match s i x.state x.out x.does in
    rw (← m.state, ← m.out) x.does

calls-exist : (s : State) (is : List Input) → Chain Does s is (outcomes s is) (after_all s is)
unfolding outcomes after_all
calls-exist s [] = none
calls-exist s (i ∷ is) = next (does_so s i) (calls-exist (after s i) is)

pub runs_exist_lem : RunsExist
unfolding pair_created
runs_exist_lem c one two is =
    run {r = record { pair = pair_created c (created_by c one two); answer = created_by c one two }} (record { answer = refl; pair = refl })
    (calls-exist (state_created c one two) is)
