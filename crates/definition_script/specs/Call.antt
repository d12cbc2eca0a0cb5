-- The call that a record makes, on the pair and on what the program lends: memory at 65536, and the ring and the table of each end.
-- 01 "Script program", tag and body.
use Rattle.std.specs.Prelude.{ℕ, ◌+◌, ◌-◌, List, [], ◌++◌, Bool, true, false, length, get_or, take, drop, eqb, ltb}
use Rattle.definition.specs.Status.{Answer}
use Rattle.definition.specs.declared.Pair.{Pair}
use Rattle.definition.specs.declared.Step.{Step}
use Rattle.definition_script.specs.declared.TransferBody.{TransferBody}
use Rattle.definition.specs.declared.Status.TheVariants.{InvalidArgs}
use Rattle.definition.specs.declared.Record.TheVariants.{Count}
use Rattle.std.specs.declared.result.Result.TheVariants.{Ok}
use Rattle.definition.specs.Status.{pick, is_done, count_of, refuse_unless, ◌then◌}
use Rattle.definition.specs.Create.{create_answer, new_pair, no_pair}
use Rattle.definition_script.specs.Record.{four, eight, READ, FILL, transfer_of}
use Rattle.definition.specs.Pair.{is_one, ends_of, own, peer}
use Rattle.definition.specs.Disposition.{disposed, disposition_of, user_dispose_answer}
use Rattle.definition.specs.Shutdown.{shut, shuts_read, shuts_write, user_shutdown_answer}
use Rattle.definition.specs.Threshold.{read_threshold_answer, read_threshold_set, write_threshold_answer, write_threshold_set}
use Rattle.definition.specs.Tests.{lent_of, first_length}
use Rattle.definition.specs.Info.{info_answer}
use Rattle.definition.specs.Close.{close_answer, closed}
use Rattle.definition.specs.Port.{wait_answer, waited, take_answer, took, cancel_answer, cancelled}
use Rattle.definition.specs.Write.{user_write_answer, pair_written, ring_written, table_written}
use Rattle.definition.specs.Memory.{count_landed, fits, count_put}
use Rattle.definition.specs.Read.{user_read_answer, pair_read, is_peek, bytes_landed}

-- ---- what the program lends

-- the rings and the tables of both ends
pub record Rings : Type 0 where
  pub ring1 : List ℕ
  pub table1 : List ℕ
  pub ring2 : List ℕ
  pub table2 : List ℕ

-- the four together
abbrev pub rings : (ring1 table1 ring2 table2 : List ℕ) → Rings
rings ring1 table1 ring2 table2 = record { ring1 = ring1; table1 = table1; ring2 = ring2; table2 = table2 }

-- those of the caller's end and of its peer, by the caller's end: true is end 1
unfoldable pub own_ring : Bool → Rings → List ℕ
own_ring true z = z.ring1
own_ring false z = z.ring2

unfoldable pub own_table : Bool → Rings → List ℕ
own_table true z = z.table1
own_table false z = z.table2

unfoldable pub peer_ring : Bool → Rings → List ℕ
peer_ring true z = z.ring2
peer_ring false z = z.ring1

unfoldable pub peer_table : Bool → Rings → List ℕ
peer_table true z = z.table2
peer_table false z = z.table1

-- with those of the peer replaced
unfoldable pub with_peer_rings : Bool → (ring table : List ℕ) → Rings → Rings
with_peer_rings true ring table z = rings z.ring1 z.table1 ring table
with_peer_rings false ring table z = rings ring table z.ring2 z.table2

-- where the memory begins
abbrev pub BASE : ℕ
BASE = 65536

-- ---- the calls that change neither memory nor a ring

-- the next pair is q where the call is done, p where it is refused
unfoldable pub step_of : (p : Pair) → Answer → (q : Pair) → Step
step_of p a q = record { pair = pick (is_done a) q p; answer = a }

-- 01 "Script program", tag 0
unfoldable pub create_step : Rings → (body : List ℕ) → Step
create_step z b =
    step_of no_pair
    (create_answer (four b 0) (four b 4) (get_or b 8 0) (get_or b 9 0) (length z.ring1) (length z.table1) (length z.ring2) (length z.table2))
    (new_pair (eqb (four b 0) 1) (four b 4) (get_or b 8 0) (get_or b 9 0))

-- 01 "Script program", tag 3
unfoldable pub disposition_step : Pair → (body : List ℕ) → Step
disposition_step p b =
    step_of p (user_dispose_answer (ends_of p) (four b 0) (four b 4) (four b 8)) (disposed (is_one (four b 0)) (disposition_of (four b 4)) (disposition_of (four b 8)) p)

-- 01 "Script program", tag 4
unfoldable pub shutdown_step : Pair → (body : List ℕ) → Step
shutdown_step p b = step_of p (user_shutdown_answer (ends_of p) (four b 0)) (shut (is_one (four b 0)) (shuts_read (four b 4)) (shuts_write (four b 4)) p)

-- 01 "Script program", tag 5
unfoldable pub read_threshold_step : Pair → (body : List ℕ) → Step
read_threshold_step p b = step_of p (read_threshold_answer (ends_of p) (four b 0) (eight b 4)) (read_threshold_set (is_one (four b 0)) (eight b 4) p)

-- 01 "Script program", tag 6
unfoldable pub write_threshold_step : Pair → (body : List ℕ) → Step
write_threshold_step p b = step_of p (write_threshold_answer (ends_of p) (four b 0) (eight b 4)) (write_threshold_set (is_one (four b 0)) (eight b 4) p)

-- info is lent the own table
unfoldable pub info_by : Rings → Pair → (h : ℕ) → Step
info_by z p h = step_of p (info_answer (ends_of p) (lent_of p.datagram (own (is_one h) (ends_of p)).queue [] (own_table (is_one h) z)) h) p

-- 01 "Script program", tag 7
unfoldable pub info_step : Rings → Pair → (body : List ℕ) → Step
info_step z p b = info_by z p (four b 0)

-- 01 "Script program", tag 8
unfoldable pub close_step : Pair → (body : List ℕ) → Step
close_step p b = step_of p (close_answer p (four b 0)) (closed (is_one (four b 0)) p)

-- 01 "Script program", tag 9
unfoldable pub wait_step : Pair → (body : List ℕ) → Step
wait_step p b = step_of p (wait_answer (ends_of p) (four b 0) (get_or b 16 0)) (waited (is_one (four b 0)) (eight b 4) (four b 12) (get_or b 16 0) p)

-- 01 "Script program", tag 10
unfoldable pub take_step : Pair → Step
take_step p = step_of p (take_answer p) (took p)

-- 02 (i), tag 12
unfoldable pub cancel_step : Pair → (body : List ℕ) → Step
cancel_step p b = step_of p (cancel_answer p (four b 0) (eight b 4)) (cancelled (is_one (four b 0)) (eight b 4) p)

-- By the tag: 0, 3 to 10, and 12. No other tag comes here: `call_of` keeps 1, 2 and 11 for itself, and no body is right for one above 12. Here 1 and 2
-- are as 3, and 11 and those above 12 as 12.
unfoldable pub control_step : Rings → Pair → (tag : ℕ) → (body : List ℕ) → Step
control_step z p tag b =
    pick (ltb tag 1) (create_step z b)
    (pick (ltb tag 4) (disposition_step p b)
    (pick (ltb tag 5) (shutdown_step p b)
    (pick (ltb tag 6) (read_threshold_step p b)
    (pick (ltb tag 7) (write_threshold_step p b)
    (pick (ltb tag 8) (info_step z p b)
    (pick (ltb tag 9) (close_step p b)
    (pick (ltb tag 10) (wait_step p b)
    (pick (ltb tag 11) (take_step p)
    (cancel_step p b)))))))))

-- ---- the calls over memory

-- the list with xs in place of what stood at the place
unfoldable pub written_at : (at : ℕ) → (xs l : List ℕ) → List ℕ
written_at at xs l = take at l ++ (xs ++ drop (at + length xs) l)

-- what a call leaves
pub record Called : Type 0 where
  pub step : Step
  pub memory : List ℕ
  pub lent : Rings

-- the writer's answer, and what it leaves
unfoldable pub write_answer_of : (memory : List ℕ) → Rings → Pair → TransferBody → Answer
write_answer_of memory z p t =
    let one = is_one t.handle in
    user_write_answer (ends_of p) (lent_of p.datagram (peer one (ends_of p)).queue (peer_ring one z) (peer_table one z)) t.handle BASE (length memory) t.options
    t.address t.count t.count_at

unfoldable pub write_leaves : (memory : List ℕ) → Rings → Pair → TransferBody → Answer → Called
write_leaves memory z p t a =
    let one = is_one t.handle in
    record {
      step = record { pair = pair_written p t.handle (count_of a); answer = a };
      memory = pick (is_done a) (count_landed BASE t.count_at (count_of a) memory) memory;
      lent =
          with_peer_rings one (ring_written (ends_of p) t.handle (count_of a) (drop (t.address - BASE) memory) (peer_ring one z))
          (table_written (ends_of p) t.handle (count_of a) (peer_table one z))
          z;
    }

-- 01 "Script program", tag 1
unfoldable pub write_call : (memory : List ℕ) → Rings → Pair → TransferBody → Called
write_call memory z p t = write_leaves memory z p t (write_answer_of memory z p t)

-- the reader's answer, and what it leaves before its count lands
unfoldable pub read_answer_of : (memory : List ℕ) → Rings → Pair → TransferBody → Answer
read_answer_of memory z p t =
    let one = is_one t.handle in
    user_read_answer (ends_of p) (lent_of p.datagram (own one (ends_of p)).queue (own_ring one z) (own_table one z)) t.handle BASE (length memory) t.options
    t.address t.count t.count_at

unfoldable pub read_leaves : (memory : List ℕ) → Rings → Pair → TransferBody → Answer → Called
read_leaves memory z p t a =
    let one = is_one t.handle in
    record {
      step =
          record {
            pair = pair_read p t.handle (is_peek t.options) (first_length p.datagram (own one (ends_of p)).queue (own_table one z)) (count_of a);
            answer = a;
          };
      memory = bytes_landed p t.handle BASE t.address (count_of a) (own_ring one z) memory;
      lent = z;
    }

-- 01 "Script program", tag 2, but for the count
unfoldable pub read_call : (memory : List ℕ) → Rings → Pair → TransferBody → Called
read_call memory z p t = read_leaves memory z p t (read_answer_of memory z p t)

-- fill is no call on the pair: its bytes land where their range fits
unfoldable pub fill_answer : (size address n : ℕ) → Answer
fill_answer size address n = refuse_unless (fits BASE size address n) InvalidArgs then Ok (Count n)

unfoldable pub filled : (address : ℕ) → (bytes memory : List ℕ) → List ℕ
filled address bs memory = pick (fits BASE (length memory) address (length bs)) (written_at (address - BASE) bs memory) memory

-- 01 "Script program", tag 11: no call on the pair
unfoldable pub fill_call : (memory : List ℕ) → Rings → Pair → (address : ℕ) → (bytes : List ℕ) → Called
fill_call memory z p address bs =
    record { step = record { pair = p; answer = fill_answer (length memory) address (length bs) }; memory = filled address bs memory; lent = z }

-- ---- by the tag

-- a call that changes neither memory nor a ring
abbrev pub control_call : (memory : List ℕ) → Rings → Step → Called
control_call memory z s = record { step = s; memory = memory; lent = z }

-- by the tag; the count of a read has not landed yet
unfoldable pub call_of : (memory : List ℕ) → Rings → Pair → (tag : ℕ) → (body : List ℕ) → Called
call_of memory z p tag b =
    pick (eqb tag 1) (write_call memory z p (transfer_of b))
    (pick (eqb tag READ) (read_call memory z p (transfer_of b))
    (pick (eqb tag FILL) (fill_call memory z p (eight b 0) (drop 8 b))
    (control_call memory z (control_step z p tag b))))

-- ---- the bytes that a read delivered, and its count

-- how many bytes a read delivered; other calls deliver none
unfoldable pub delivered_count : (tag : ℕ) → Answer → ℕ
delivered_count tag a = pick (eqb tag READ) (count_of a) 0

-- those bytes, as they stand in memory before the count lands
unfoldable pub delivered : (tag : ℕ) → (body : List ℕ) → Answer → (memory : List ℕ) → List ℕ
delivered tag b a memory = take (delivered_count tag a) (drop (eight b 8 - BASE) memory)

-- memory once the count of a done read has landed; its range fits
unfoldable pub after_count : (tag : ℕ) → (body : List ℕ) → Answer → (memory : List ℕ) → List ℕ
after_count tag b a memory = pick (eqb tag READ) (pick (is_done a) (count_put BASE (eight b 24) (count_of a) memory) memory) memory
