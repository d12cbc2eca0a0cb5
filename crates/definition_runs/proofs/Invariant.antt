-- What stands between any two calls of a run: a sound record, slices that are long enough, and queues that hold their lines. Every call keeps
-- it. Assumes nothing.
use Prim.Native.Nat.{ℕ, ◌+◌, ◌-◌, ◌≤◌, ◌<◌}
use mathlib.Core.Path.{◌≡◌, refl, sym, ◌∙◌, subst}
use mathlib.Core.Bool.{Bool, true, false}
use mathlib.Core.List.{List, [], map}
use mathlib.Core.Option.{Option, some}
use native.Mathlib.Omega.{arith}
use lib.ListN.{length, take, drop, length-drop, get_elem?}
use lib.Dec.{eqb}
use borrow.Author.Tests.{leb-true, eqb-false}
use Rattle.definition.specs.Status.{Answer}
use Rattle.std.specs.declared.result.Result.TheVariants.{Ok, Err}
use Rattle.definition.specs.Status.{pick, ◌or◌, is_done}
use Rattle.definition.specs.Port.{used, sound}
use Rattle.definition.specs.declared.Queue.{Queue}
use Rattle.definition.specs.Pair.{with_queue, is_one, own, peer, with_end, ends_of}
use Rattle.definition.specs.Close.{closed_end, closed}
use Rattle.definition.specs.Read.{leaving, consumed, pair_read, is_peek}
use Rattle.definition.specs.Write.{ring_fed, table_fed, ring_written, table_written, pair_written, wrote}
use Rattle.definition.specs.declared.Pair.{Pair}
use Rattle.definition.specs.Tests.{lent_of}
use Rattle.definition.specs.Disposition.{disposition_of}
use Rattle.definition.specs.Shutdown.{shuts_read, shuts_write}
use Rattle.definition.specs.Calls.{Control, set_disposition, shutdown, plain_disposition, plain_shutdown, set_read_threshold, set_write_threshold, get_thresholds, get_info, wait, take_packet, cancel, Call, write, read, plain_write, plain_read, close, control, Input, bytes_of, offset_of, Slices, State, peer_slices, with_pair, with_peer_slices, view, own_lent, peer_lent, control_answer, answer_to, controlled, pair_after, written, state_after, answer_of, after}
use Rattle.definition_runs.specs.TwoRuns.{Origin, origins, OriginLine, OriginLines, own_line, with_own, fed, added, shrunk, removed, lines_after}
use Rattle.definition_runs.proofs.Lists.{length-origins, origin_bytes}
use Rattle.definition_runs.proofs.Holds.{Size, Holds, first_of, first-is}
use Rattle.definition_runs.proofs.Moves.{fed-holds, Taken, drained_holds, no-holds}
use Rattle.definition_runs.proofs.Kept
use Rattle.definition_runs.proofs.Kept.{Kept, kept}
use Rattle.definition_runs.proofs.Answers.{Room, plain_room, user-room, plain_taken, user-taken, wait-room, take-any}

pub record Inv (f : Origin → Option ℕ) (dg : Bool) (z1 z2 : Size) (s : State) (ln : OriginLines) : Type 0 where
  pub kind : s.pair.datagram ≡ dg
  pub high : s.pair.capacity ≤ 262144
  pub places : sound s.pair.places ≡ true
  pub one : Holds f s.pair.datagram s.pair.capacity z1 s.pair.one.queue s.one ln.one
  pub two : Holds f s.pair.datagram s.pair.capacity z2 s.pair.two.queue s.two ln.two

moved : {f : Origin → Option ℕ} {dg dg' : Bool} {C C' : ℕ} {z : Size} {q q' : Queue} {l : Slices} {g : OriginLine}
    → dg' ≡ dg → C' ≡ C → q' ≡ q → Holds f dg C z q l g → Holds f dg' C' z q' l g
moved {f} {dg} {dg'} {C} {C'} {z} {q} {q'} {l} {g} a b c h =
    subst (λ (x : Bool). Holds f x C' z q' l g) (sym a)
    (subst (λ (x : ℕ). Holds f dg x z q' l g) (sym b)
    (subst (λ (x : Queue). Holds f dg C z x l g) (sym c) h))

module _ (f : Origin → Option ℕ) (dg : Bool) (z1 z2 : Size) where
  -- a change that keeps the queues
  inv_kept : (p p' : Pair) (one two : Slices) (ln : OriginLines) → Kept p p'
      → Inv f dg z1 z2 (record { pair = p; one = one; two = two }) ln → Inv f dg z1 z2 (record { pair = p'; one = one; two = two }) ln
  inv_kept p p' one two ln k v =
      record {
        kind = k.datagram ∙ v.kind;
        high = rw k.capacity v.high;
        places = k.places v.places;
        one = moved k.datagram k.capacity k.one v.one;
        two = moved k.datagram k.capacity k.two v.two;
      }

  -- a call that moves no byte: where it is done the pair is q
  steps_inv : (s : State) (ln : OriginLines) (q : Pair) (r : Answer) → (is_done r ≡ true → Kept s.pair q)
      → Inv f dg z1 z2 s ln → Inv f dg z1 z2 (with_pair (pick (is_done r) q s.pair) s) ln
  unfolding is_done pick
  steps_inv s ln q (Ok d) k v = inv_kept s.pair q s.one s.two ln (k refl) v
  steps_inv s ln q (Err e) k v = v

  -- ---- write

  -- a write whose m bytes stand at the origins of any group
  module _ (group : List Origin) (m : ℕ) (xs : List ℕ) (s : State) (ln : OriginLines) (v : Inv f dg z1 z2 s ln) where
    fed_inv : (t : Bool) → 0 < m → (peer t (ends_of s.pair)).queue.bytes.count + m ≤ s.pair.capacity → m ≤ length xs → length group ≡ m
        → map f group ≡ map some (take m xs)
        → Inv f dg z1 z2
        (with_peer_slices t (wrote t m s.pair)
        (record {
          ring = ring_fed s.pair.capacity (peer t (ends_of s.pair)).queue m xs (peer_slices t s).ring;
          table = table_fed s.pair.datagram s.pair.capacity (peer t (ends_of s.pair)).queue m (peer_slices t s).table;
        })
        s)
        (fed t group ln)
    unfolding with_end with_queue
    fed_inv true any fits has size at =
        inv_kept _ (wrote true m s.pair) s.one _ _ (Kept.wrote_kept true m s.pair)
        (record {
          kind = v.kind;
          high = v.high;
          places = v.places;
          one = v.one;
          two = fed-holds f s.pair.capacity z2 s.pair.two.queue s.two ln.two group m xs any fits has size at s.pair.datagram v.two;
        })
    fed_inv false any fits has size at =
        inv_kept _ (wrote false m s.pair) _ s.two _ (Kept.wrote_kept false m s.pair)
        (record {
          kind = v.kind;
          high = v.high;
          places = v.places;
          one = fed-holds f s.pair.capacity z1 s.pair.one.queue s.one ln.one group m xs any fits has size at s.pair.datagram v.one;
          two = v.two;
        })

    pub written_inv : (h n : ℕ) → (0 < m → Room s.pair.capacity (peer (is_one h) (ends_of s.pair)).queue.bytes.count n m) → (0 < m → m ≤ length xs)
        → length group ≡ m → (m ≤ length xs → map f group ≡ map some (take m xs))
        → Inv f dg z1 z2 (written s h m xs) (pick (eqb m 0) ln (fed (is_one h) group ln))
    unfolding written pair_written ring_written table_written pick
    written_inv h n room has size at = go (is_one h) room (eqb m 0) refl
      where
        go : (t : Bool) → (0 < m → Room s.pair.capacity (peer t (ends_of s.pair)).queue.bytes.count n m) → (b : Bool) → eqb m 0 ≡ b
            → Inv f dg z1 z2
            (with_peer_slices t (pick b s.pair (wrote t m s.pair))
            (record {
              ring = pick b (peer_slices t s).ring (ring_fed s.pair.capacity (peer t (ends_of s.pair)).queue m xs (peer_slices t s).ring);
              table = pick b (peer_slices t s).table (table_fed s.pair.datagram s.pair.capacity (peer t (ends_of s.pair)).queue m (peer_slices t s).table);
            })
            s)
            (pick b ln (fed t group ln))
        go true room true e = v
        go false room true e = v
        go t room false e =
            let k : m ≡ 0 → ⊥ = eqb-false m 0 e in
            let any : 0 < m = omega (arith, k) in
            fed_inv t any (room any).fits (has any) size (at (has any))

  -- the group of one write
  pub added_inv : (w m : ℕ) (xs : List ℕ) → ((o : ℕ) → f (record { call = w; offset = o }) ≡ get_elem? xs o) → (s : State) (ln : OriginLines)
      → Inv f dg z1 z2 s ln
      → (h n : ℕ) → (0 < m → Room s.pair.capacity (peer (is_one h) (ends_of s.pair)).queue.bytes.count n m) → (0 < m → m ≤ length xs)
      → Inv f dg z1 z2 (written s h m xs) (added (is_one h) w m ln)
  unfolding added
  added_inv w m xs at s ln v h n room has =
      written_inv (origins w 0 m) m xs s ln v h n room has (length-origins w 0 m) (λ k. origin_bytes f w xs at 0 m (omega (arith, k)))

  -- ---- read and close

  module _ (s : State) (ln : OriginLines) (v : Inv f dg z1 z2 s ln) where
    drained_inv : (t : Bool) (k : ℕ) → Taken s.pair.datagram (own t (ends_of s.pair)).queue.bytes.count (first_of s.pair.datagram (own_line t ln)) k
        → Inv f dg z1 z2 (with_pair (consumed t (leaving s.pair.datagram (first_of s.pair.datagram (own_line t ln)) k) s.pair) s)
        (with_own t (shrunk s.pair.datagram k (own_line t ln)) ln)
    unfolding with_end with_queue
    drained_inv true k taken =
        inv_kept _ _ s.one s.two _ (Kept.consumed-kept true _ s.pair)
        (record {
          kind = v.kind;
          high = v.high;
          places = v.places;
          one = drained_holds f s.pair.datagram s.pair.capacity z1 s.pair.one.queue s.one ln.one k taken v.one;
          two = v.two;
        })
    drained_inv false k taken =
        inv_kept _ _ s.one s.two _ (Kept.consumed-kept false _ s.pair)
        (record {
          kind = v.kind;
          high = v.high;
          places = v.places;
          one = v.one;
          two = drained_holds f s.pair.datagram s.pair.capacity z2 s.pair.two.queue s.two ln.two k taken v.two;
        })

    -- the first length of an end is that of its line's first group
    pub own_first : (t : Bool) → (own_lent t (view s)).first ≡ first_of s.pair.datagram (own_line t ln)
    unfolding lent_of
    own_first true = first-is f s.pair.datagram s.pair.capacity z1 s.pair.one.queue s.one ln.one v.one
    own_first false = first-is f s.pair.datagram s.pair.capacity z2 s.pair.two.queue s.two ln.two v.two

    pub read_inv : (h : ℕ) (peek : Bool) (k : ℕ)
        → (0 < k → Taken s.pair.datagram (own (is_one h) (ends_of s.pair)).queue.bytes.count (own_lent (is_one h) (view s)).first k)
        → Inv f dg z1 z2 (with_pair (pair_read s.pair h peek (own_lent (is_one h) (view s)).first k) s) (removed s.pair.datagram (is_one h) peek k ln)
    unfolding pair_read removed pick ◌or◌
    read_inv h peek k taken = go (is_one h) (own_lent (is_one h) (view s)).first (own_first (is_one h)) taken peek (eqb k 0) refl
      where
        go : (t : Bool) (first : ℕ) → first ≡ first_of s.pair.datagram (own_line t ln)
            → (0 < k → Taken s.pair.datagram (own t (ends_of s.pair)).queue.bytes.count first k) → (peek b : Bool) → eqb k 0 ≡ b
            → Inv f dg z1 z2 (with_pair (pick (peek or b) s.pair (consumed t (leaving s.pair.datagram first k) s.pair)) s)
            (pick peek ln (pick b ln (with_own t (shrunk s.pair.datagram k (own_line t ln)) ln)))
        go t first e taken true b z = v
        go t first e taken false true z = v
        go t first e taken false false z =
            let n : k ≡ 0 → ⊥ = eqb-false k 0 z in
            rw e (drained_inv t k (rw e at (taken (omega (arith, n)))))

    closed_inv : (t : Bool) → Inv f dg z1 z2 (with_pair (closed t s.pair) s) (with_own t [] ln)
    unfolding with_end closed_end
    closed_inv true =
        let h = v.one in
        inv_kept _ (closed true s.pair) s.one s.two _ (Kept.closed-kept true s.pair)
        (record {
          kind = v.kind;
          high = v.high;
          places = v.places;
          one = no-holds f s.pair.datagram s.pair.capacity z1 s.one (omega (arith, h.start)) h.ring h.table h.long h.wide;
          two = v.two;
        })
    closed_inv false =
        let h = v.two in
        inv_kept _ (closed false s.pair) s.one s.two _ (Kept.closed-kept false s.pair)
        (record {
          kind = v.kind;
          high = v.high;
          places = v.places;
          one = v.one;
          two = no-holds f s.pair.datagram s.pair.capacity z2 s.two (omega (arith, h.start)) h.ring h.table h.long h.wide;
        })

    close_inv : (t : Bool) (r : Answer) → Inv f dg z1 z2 (with_pair (pick (is_done r) (closed t s.pair) s.pair) s) (pick (is_done r) (with_own t [] ln) ln)
    unfolding is_done pick
    close_inv t (Ok d) = closed_inv t
    close_inv t (Err e) = v

    -- ---- any call

    control-kept : (c : Control) → is_done (control_answer (view s) c) ≡ true → Kept s.pair (controlled c s.pair)
    unfolding control_answer controlled
    control-kept (set_disposition h a b) e = Kept.disposed-kept (is_one h) (disposition_of a) (disposition_of b) s.pair
    control-kept (shutdown h o) e = Kept.shut-kept (is_one h) (shuts_read o) (shuts_write o) s.pair
    control-kept (plain_disposition h a b) e = Kept.disposed-kept (is_one h) (disposition_of a) (disposition_of b) s.pair
    control-kept (plain_shutdown h a b) e = Kept.shut-kept (is_one h) a b s.pair
    control-kept (set_read_threshold h n) e = Kept.read_threshold_kept (is_one h) n s.pair
    control-kept (set_write_threshold h n) e = Kept.write_threshold_kept (is_one h) n s.pair
    control-kept (get_thresholds h) e = kept s.pair
    control-kept (get_info h) e = kept s.pair
    control-kept (wait h key mask edge) e =
        let full : used s.pair.places ≡ 128 → ⊥ = wait-room s.pair h edge e in
        let most : used s.pair.places ≤ 128 = leb-true (used s.pair.places) 128 v.places in
        Kept.waited-kept (is_one h) key mask edge s.pair (omega (arith, full, most))
    control-kept take_packet e = Kept.took-kept s.pair (take-any s.pair e)
    control-kept (cancel h key) e = Kept.cancelled-kept (is_one h) key s.pair

    call_inv : (w : ℕ) (i : Input) (c : Call) → ((o : ℕ) → f (record { call = w; offset = o }) ≡ get_elem? (drop (offset_of i.base c) i.memory) o)
        → Inv f dg z1 z2
        (state_after s i c (answer_to (view s) i.base (length i.memory) c) (pair_after (view s) c (answer_to (view s) i.base (length i.memory) c)))
        (lines_after s.pair.datagram w c (answer_to (view s) i.base (length i.memory) c) ln)
    unfolding state_after answer_to pair_after lines_after
    call_inv w i (write h o a n at) bytes =
        let room = user-room s.pair (peer_lent (is_one h) (view s)) h i.base (length i.memory) o a n at in
        added_inv w _ (drop (a - i.base) i.memory) bytes s ln v h n (λ k. (room k).0) (λ k. let x = (room k).1 in simp length-drop (omega arith))
    call_inv w i (read h o a n at) bytes =
        read_inv h (is_peek o) _ (λ k. (user-taken s.pair (own_lent (is_one h) (view s)) h i.base (length i.memory) o a n at k).0)
    call_inv w i (plain_write h) bytes =
        let room = plain_room s.pair (peer_lent (is_one h) (view s)) h (length i.memory) in
        added_inv w _ i.memory bytes s ln v h (length i.memory) room (λ k. (room k).within)
    call_inv w i (plain_read h peek) bytes = read_inv h peek _ (λ k. (plain_taken s.pair (own_lent (is_one h) (view s)) h (length i.memory) k).0)
    call_inv w i (close h) bytes = close_inv (is_one h) _
    call_inv w i (control c) bytes = steps_inv s ln (controlled c s.pair) (control_answer (view s) c) (control-kept c) v

    pub after_inv : (w : ℕ) (i : Input) → ((o : ℕ) → f (record { call = w; offset = o }) ≡ get_elem? (bytes_of i) o)
        → Inv f dg z1 z2 (after s i) (lines_after s.pair.datagram w i.call (answer_of s i) ln)
    unfolding after
    after_inv w i bytes = call_inv w i i.call bytes
