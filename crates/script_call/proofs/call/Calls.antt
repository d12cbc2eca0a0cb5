-- What a call says is what its definition says. Assumes nothing.
use Prim.Native.Nat.{ℕ, ◌-◌}
use mathlib.Core.Path.{◌≡◌, refl, sym, ap, ◌∙◌}
use mathlib.Core.Bool.{false}
use mathlib.Core.List.{List}
use lib.ListN.{length, drop}
use lib.Dec.{eqb}
use Rattle.definition.specs.Status.{Answer}
use Rattle.std.specs.declared.result.Result.TheVariants.{Err}
use Rattle.definition.specs.declared.Status.TheVariants.{InvalidArgs}
use Rattle.definition.specs.Status.{pick, count_of, is_done}
use Rattle.definition.specs.declared.Pair.{Pair}
use Rattle.definition.specs.declared.Step.{Step}
use Rattle.definition.specs.Pair.{is_one, own, ends_of}
use Rattle.definition.specs.Write.{pair_written, ring_written, table_written, UserWrites}
use Rattle.definition.specs.Read.{pair_read, is_peek, bytes_landed, BytesRead}
use Rattle.definition.specs.Tests.{first_length}
use Rattle.definition.specs.Memory.{count_landed}
use Rattle.definition_script.specs.declared.TransferBody.{TransferBody}
use Rattle.definition_script.specs.Record.{eight, transfer_of, is_body}
use Rattle.definition_script.specs.Call.{BASE, fill_answer, filled, write_answer_of, write_leaves, write_call, read_answer_of, read_leaves, read_call, fill_call, Rings, own_ring, own_table, peer_ring, peer_table, with_peer_rings, control_step, call_of}
use Rattle.script_call.proofs.fill.Fills.{never}
use Rattle.script_call.specs.call.CallDone.{CallDone}
use Rattle.script_call.proofs.plain_call.Steps.{mk, same_step}
use Rattle.script_call.specs.call.CallMade.{CallMade}

-- ---- write

module _ (memory memory' ring ring' table table' : List ℕ) (z z' : Rings) (p : Pair) (t : TransferBody) (r : Step)
    (er : peer_ring (is_one t.handle) z ≡ ring) (et : peer_table (is_one t.handle) z ≡ table) (ez : with_peer_rings (is_one t.handle) ring' table' z ≡ z')
    (w : UserWrites p t.handle BASE t.options t.address t.count t.count_at memory memory' ring ring' table table' r) where
  wrote-answer : r.answer ≡ write_answer_of memory z p t
  unfolding write_answer_of
  wrote-answer = rw (er, et) w.answer

  pub wrote : CallDone (write_call memory z p t) memory' z' r
  unfolding write_call write_leaves
  wrote =
      let h : ℕ = t.handle in
      let a : Answer = write_answer_of memory z p t in
      let e : r.answer ≡ a = wrote-answer in
      let src : List ℕ = drop (t.address - BASE) memory in
      record {
        step = same_step r (pair_written p h (count_of a)) a (w.pair ∙ ap (λ (x : Answer). pair_written p h (count_of x)) e) e;
        memory = w.user ∙ ap (λ (x : Answer). pick (is_done x) (count_landed BASE t.count_at (count_of x) memory) memory) e;
        lent =
            sym ez
            ∙ ap (λ (x : List ℕ). with_peer_rings (is_one h) x table' z)
            (w.bytes ∙ ap (λ (x : Answer). ring_written (ends_of p) h (count_of x) src ring) e ∙ ap (λ (y : List ℕ). ring_written (ends_of p) h (count_of a) src y) (sym er))
            ∙ ap (λ (x : List ℕ). with_peer_rings (is_one h) (ring_written (ends_of p) h (count_of a) src (peer_ring (is_one h) z)) x z)
            (w.lengths ∙ ap (λ (x : Answer). table_written (ends_of p) h (count_of x) table) e ∙ ap (λ (y : List ℕ). table_written (ends_of p) h (count_of a) y) (sym et));
      }

-- ---- read

module _ (memory memory' ring table : List ℕ) (z : Rings) (p : Pair) (t : TransferBody) (r : Step)
    (er : own_ring (is_one t.handle) z ≡ ring) (et : own_table (is_one t.handle) z ≡ table)
    (w : BytesRead p t.handle BASE t.options t.address t.count t.count_at ring table memory memory' r) where
  got-answer : r.answer ≡ read_answer_of memory z p t
  unfolding read_answer_of
  got-answer = rw (er, et) w.answer

  pub got : CallDone (read_call memory z p t) memory' z r
  unfolding read_call read_leaves
  got =
      let h : ℕ = t.handle in
      let a : Answer = read_answer_of memory z p t in
      let e : r.answer ≡ a = got-answer in
      let f : List ℕ → ℕ = λ x. first_length p.datagram (own (is_one h) (ends_of p)).queue x in
      record {
        step =
            same_step r (pair_read p h (is_peek t.options) (f (own_table (is_one h) z)) (count_of a)) a
            (w.pair ∙ ap (λ (x : Answer). pair_read p h (is_peek t.options) (f table) (count_of x)) e
            ∙ ap (λ (y : List ℕ). pair_read p h (is_peek t.options) (f y) (count_of a)) (sym et))
            e;
        memory =
            w.user ∙ ap (λ (x : Answer). bytes_landed p h BASE t.address (count_of x) ring memory) e
            ∙ ap (λ (y : List ℕ). bytes_landed p h BASE t.address (count_of a) y memory) (sym er);
        lent = refl;
      }

-- ---- by the tag

module _ (memory : List ℕ) (z : Rings) (p : Pair) (tag : ℕ) (b memory' : List ℕ) (z' : Rings) (r : Step) where
  pub write_call_lem : tag ≡ 1 → CallDone (write_call memory z p (transfer_of b)) memory' z' r → CallDone (call_of memory z p tag b) memory' z' r
  unfolding call_of pick
  write_call_lem e d = rw e d

  pub read_call_lem : tag ≡ 2 → CallDone (read_call memory z p (transfer_of b)) memory' z' r → CallDone (call_of memory z p tag b) memory' z' r
  unfolding call_of pick
  read_call_lem e d = rw e d

  pub fill_call_lem : tag ≡ 11 → CallDone (fill_call memory z p (eight b 0) (drop 8 b)) memory' z' r → CallDone (call_of memory z p tag b) memory' z' r
  unfolding call_of pick
  fill_call_lem e d = rw e d

-- a call that changes neither memory nor a ring
pub plain_made : (memory : List ℕ) (z : Rings) (p : Pair) (tag : ℕ) (b : List ℕ) (r : Step) → eqb tag 1 ≡ false → eqb tag 2 ≡ false → eqb tag 11 ≡ false
    → r ≡ control_step z p tag b → CallDone (call_of memory z p tag b) memory z r
unfolding call_of pick
plain_made memory z p tag b r f g h e = rw (f, g, h) (record { step = e; memory = refl; lent = refl })

-- a fill, from what its function says
pub fill_done : (memory memory' : List ℕ) (z : Rings) (p : Pair) (address : ℕ) (bs : List ℕ) (a : Answer)
    → (a ≡ fill_answer (length memory) address (length bs)) × (memory' ≡ filled address bs memory) → CallDone (fill_call memory z p address bs) memory' z (mk p a)
unfolding fill_call
fill_done memory memory' z p address bs a w = record { step = ap (λ (x : Answer). mk p x) w.0; memory = w.1; lent = refl }

-- a body that is not right for its tag
pub no_call : {memory : List ℕ} {z : Rings} {p : Pair} {tag : ℕ} {b : List ℕ} {r : Step} → is_body tag (length b) ≡ false → r ≡ mk p (Err InvalidArgs)
    → CallMade memory z p tag b memory z r
no_call e g = record { made = λ f. absurd (never (sym e ∙ f)); none = λ f. (g, refl, refl) }
