-- What the functions ensure is what the definitions compute. Assumes nothing.
use Prim.Native.Nat.{ℕ, ◌-◌}
use mathlib.Core.Path.{◌≡◌, refl, sym, ap, ◌∙◌}
use mathlib.Core.Bool.{Bool, true, false}
use mathlib.Core.List.{List, []}
use lib.ListN.{length, take, drop}
use lib.Seq.{paste}
use Rattle.definition.specs.Status.{Answer}
use Rattle.definition.specs.Status.{pick, count_of, is_done}
use Rattle.definition.specs.Tests.{first_length, Lent, lent_of, Steps}
use Rattle.definition.specs.declared.Pair.{Pair}
use Rattle.definition.specs.declared.Step.{Step}
use Rattle.definition.specs.Pair.{is_one, own, peer, ends_of}
use Rattle.definition.specs.Write.{write_answer, pair_written, ring_written, table_written, user_write_answer}
use Rattle.definition.specs.Read.{read_answer, pair_read, is_peek, user_read_answer}
use Rattle.definition.specs.Memory.{count_landed}
use Rattle.definition.specs.Calls.{Input, Slices, State, state, own_slices, peer_slices, with_pair, with_peer_slices, seen_of, gives, view, own_lent, peer_lent, control_answer, answer_to, controlled, pair_after, memory_after, written, state_after, landed, delivered_in, answer_of, after_by, delivered_by, outcome_by, after, outcome}
use Rattle.definition_runs.specs.Run.{did_write, did_read, did_dispose, did_shutdown, did_plain_write, did_plain_read, did_plain_dispose, did_plain_shutdown, did_read_threshold, did_write_threshold, did_thresholds, did_info, did_wait, did_take, did_cancel, did_close, Matches, CallsMatch}
use Rattle.definition_runs.proofs.runs.Memory.{buffer_back, landed-back}

-- ---- what is lent

own_lent_lem : (t : Bool) (s : State) → lent_of s.pair.datagram (own t (ends_of s.pair)).queue (own_slices t s).ring (own_slices t s).table ≡ own_lent t (view s)
own_lent_lem true s = refl
own_lent_lem false s = refl

peer_lent_lem : (t : Bool) (s : State) → lent_of s.pair.datagram (peer t (ends_of s.pair)).queue (peer_slices t s).ring (peer_slices t s).table ≡ peer_lent t (view s)
peer_lent_lem true s = refl
peer_lent_lem false s = refl

own_table_lem : (t : Bool) (s : State) → lent_of s.pair.datagram (own t (ends_of s.pair)).queue [] (own_slices t s).table ≡ record { ring = 0; table = (own_lent t (view s)).table; first = (own_lent t (view s)).first }
unfolding lent_of
own_table_lem true s = refl
own_table_lem false s = refl

own_first : (t : Bool) (s : State) → first_length s.pair.datagram (own t (ends_of s.pair)).queue (own_slices t s).table ≡ (own_lent t (view s)).first
unfolding lent_of
own_first true s = refl
own_first false s = refl

-- ---- from the parts of a call to the whole

module _ (s : State) (i : Input) where
  -- a call that changes no slice
  same_slices : (r : Answer) (p : Pair) (d m : List ℕ)
      → r ≡ answer_of s i
      → p ≡ pair_after (view s) i.call r
      → state_after s i i.call r p ≡ with_pair p s
      → d ≡ delivered_by s i r
      → m ≡ memory_after i.base i.memory i.call r d
      → Matches s i (with_pair p s) (record { seen = seen_of r p; delivered = d; memory = m; one = s.one; two = s.two })
  unfolding after outcome
  same_slices r p d m er ep es ed em =
      let e : with_pair p s ≡ after_by s i r = sym es ∙ ap (state_after s i i.call r) ep in
      record {
        state = e ∙ ap (after_by s i) er;
        out =
            (λ k.
            record {
              seen = seen_of r (ep k);
              delivered = ed k;
              memory = (em ∙ ap (memory_after i.base i.memory i.call r) ed) k;
              one = (e k).one;
              two = (e k).two;
            })
            ∙ ap (outcome_by s i) er;
        left = refl;
      }

  -- a call that is lent nothing
  steps : (q : Pair) (r : Step)
      → Steps s.pair (answer_of s i) q r
      → ((x : Answer) → pair_after (view s) i.call x ≡ pick (is_done x) q s.pair)
      → ((x : Answer) (p : Pair) → state_after s i i.call x p ≡ with_pair p s)
      → ((x : Answer) → [] ≡ delivered_by s i x)
      → ((x : Answer) → i.memory ≡ memory_after i.base i.memory i.call x [])
      → Matches s i (with_pair r.pair s) (gives r s [] i.memory)
  steps q r e fp fs fd fm =
      same_slices r.answer r.pair [] i.memory e.answer
      (e.pair ∙ sym (ap (λ (x : Answer). pick (is_done x) q s.pair) e.answer) ∙ sym (fp r.answer))
      (fs r.answer r.pair)
      (fd r.answer)
      (fm r.answer)

-- a write: the peer's slices
wrote : (t : Bool) (s : State) (p p' : Pair) (ring ring' table table' : List ℕ) → p ≡ p' → ring ≡ ring' → table ≡ table'
    → with_peer_slices t p (record { ring = ring; table = table }) s ≡ with_peer_slices t p' (record { ring = ring'; table = table' }) s
wrote true s p p' ring ring' table table' a b c = λ k. record { pair = a k; one = s.one; two = record { ring = b k; table = c k } }
wrote false s p p' ring ring' table table' a b c = λ k. record { pair = a k; one = record { ring = b k; table = c k }; two = s.two }

-- the slices and the pair tell the state
wrote-left : (t : Bool) (p : Pair) (l : Slices) (s : State) → with_peer_slices t p l s ≡ state p (with_peer_slices t p l s).one (with_peer_slices t p l s).two
wrote-left true p l s = refl
wrote-left false p l s = refl

does_write : (s : State) (i : Input) (h : ℕ) (src ring' table' m : List ℕ) (r : Step)
    → r.answer ≡ answer_of s i
    → r.pair ≡ pair_written s.pair h (count_of r.answer)
    → ring' ≡ ring_written (ends_of s.pair) h (count_of r.answer) src (peer_slices (is_one h) s).ring
    → table' ≡ table_written (ends_of s.pair) h (count_of r.answer) (peer_slices (is_one h) s).table
    → ((x : Answer) → pair_after (view s) i.call x ≡ pair_written s.pair h (count_of x))
    → ((x : Answer) (p : Pair) → state_after s i i.call x p ≡ written s h (count_of x) src)
    → ((x : Answer) → [] ≡ delivered_by s i x)
    → m ≡ memory_after i.base i.memory i.call r.answer []
    → Matches s i (with_peer_slices (is_one h) r.pair (record { ring = ring'; table = table' }) s)
    (gives r (with_peer_slices (is_one h) r.pair (record { ring = ring'; table = table' }) s) [] m)
unfolding after outcome written
does_write s i h src ring' table' m r er ep eb el fp fs fd em =
    let e : with_peer_slices (is_one h) r.pair (record { ring = ring'; table = table' }) s ≡ after_by s i r.answer =
    wrote (is_one h) s r.pair _ ring' _ table' _ ep eb el ∙ sym (fs r.answer (pair_after (view s) i.call r.answer)) in
    record {
      state = e ∙ ap (after_by s i) er;
      out =
          (λ k.
          record {
            seen = seen_of r.answer ((ep ∙ sym (fp r.answer)) k);
            delivered = fd r.answer k;
            memory = (em ∙ ap (memory_after i.base i.memory i.call r.answer) (fd r.answer)) k;
            one = (e k).one;
            two = (e k).two;
          })
          ∙ ap (outcome_by s i) er;
      left = wrote-left (is_one h) r.pair _ s;
    }

-- ---- each call

pub calls_match : CallsMatch
unfolding control_answer answer_to controlled pair_after state_after landed delivered_in memory_after
calls_match s i s' o (did_write {h} {o = o'} {a} {n} {at} {base} {memory} {memory'} {ring'} {table'} {r} w) =
    does_write s i h (drop (a - base) memory) ring' table' memory' r
    (w.answer ∙ ap (λ (z : Lent). user_write_answer (ends_of s.pair) z h base (length memory) o' a n at) (peer_lent_lem (is_one h) s))
    w.pair w.bytes w.lengths (λ x. refl) (λ x p. refl) (λ x. refl) w.user
calls_match s i s' o (did_read {h} {o = o'} {a} {n} {at} {base} {memory} {landed} {memory'} {r} b w) =
    same_slices s i r.answer r.pair _ memory'
    (w.answer ∙ ap (λ (z : Lent). user_read_answer (ends_of s.pair) z h base (length memory) o' a n at) (own_lent_lem (is_one h) s))
    (w.pair ∙ ap (λ (x : ℕ). pair_read s.pair h (is_peek o') x (count_of r.answer)) (own_first (is_one h) s))
    refl
    (ap (λ (x : List ℕ). take (count_of r.answer) (drop (a - base) x)) b.user)
    (w.user
    ∙ ap (λ (x : List ℕ). pick (is_done r.answer) (count_landed base at (count_of r.answer) x) memory)
    (sym (landed-back s.pair h base o' a n at (own_slices (is_one h) s).ring (own_slices (is_one h) s).table memory r.answer w.answer)
    ∙ ap (λ (x : List ℕ). paste memory (a - base) (take (count_of r.answer) (drop (a - base) x)) (length (take (count_of r.answer) (drop (a - base) x))))
    (sym b.user)))
calls_match s i s' o (did_dispose {r = r} e) = steps s i _ r e (λ x. refl) (λ x p. refl) (λ x. refl) (λ x. refl)
calls_match s i s' o (did_shutdown {r = r} e) = steps s i _ r e (λ x. refl) (λ x p. refl) (λ x. refl) (λ x. refl)
calls_match s i s' o (did_plain_write {h} {base} {src} {ring'} {table'} {r} w) =
    does_write s i h src ring' table' src r
    (w.answer ∙ ap (λ (z : Lent). write_answer (ends_of s.pair) z h (length src)) (peer_lent_lem (is_one h) s))
    w.pair w.bytes w.lengths (λ x. refl) (λ x p. refl) (λ x. refl) refl
calls_match s i s' o (did_plain_read {h} {base} {peek} {buffer} {buffer'} {r} w) =
    same_slices s i r.answer r.pair _ buffer'
    (w.answer ∙ ap (λ (z : Lent). read_answer (ends_of s.pair) z h (length buffer)) (own_lent_lem (is_one h) s))
    (w.pair ∙ ap (λ (x : ℕ). pair_read s.pair h peek x (count_of r.answer)) (own_first (is_one h) s))
    refl
    (ap (take (count_of r.answer)) w.bytes)
    (w.bytes
    ∙ sym (buffer_back s.pair h (own_slices (is_one h) s).ring (own_slices (is_one h) s).table buffer r.answer w.answer)
    ∙ ap (λ (x : List ℕ). paste buffer 0 (take (count_of r.answer) x) (length (take (count_of r.answer) x))) (sym w.bytes))
calls_match s i s' o (did_plain_dispose {r = r} e) = steps s i _ r e (λ x. refl) (λ x p. refl) (λ x. refl) (λ x. refl)
calls_match s i s' o (did_plain_shutdown {r = r} e) = steps s i _ r e (λ x. refl) (λ x p. refl) (λ x. refl) (λ x. refl)
calls_match s i s' o (did_read_threshold {r = r} e) = steps s i _ r e (λ x. refl) (λ x p. refl) (λ x. refl) (λ x. refl)
calls_match s i s' o (did_write_threshold {r = r} e) = steps s i _ r e (λ x. refl) (λ x p. refl) (λ x. refl) (λ x. refl)
calls_match s i s' o (did_thresholds {r = r} e) = steps s i _ r e (λ x. refl) (λ x p. refl) (λ x. refl) (λ x. refl)
calls_match s i s' o (did_info {h} {base} {memory} {r} e) =
    steps s i s.pair r (rw (← own_table_lem (is_one h) s) e) (λ x. refl) (λ x p. refl) (λ x. refl) (λ x. refl)
calls_match s i s' o (did_wait {r = r} e) = steps s i _ r e (λ x. refl) (λ x p. refl) (λ x. refl) (λ x. refl)
calls_match s i s' o (did_take {r = r} e) = steps s i _ r e (λ x. refl) (λ x p. refl) (λ x. refl) (λ x. refl)
calls_match s i s' o (did_cancel {r = r} e) = steps s i _ r e (λ x. refl) (λ x p. refl) (λ x. refl) (λ x. refl)
calls_match s i s' o (did_close {r = r} e) = steps s i _ r e (λ x. refl) (λ x p. refl) (λ x. refl) (λ x. refl)
