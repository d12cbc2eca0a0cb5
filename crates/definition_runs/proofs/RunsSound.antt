-- From a done create on no call is INTERNAL and no slice is short. Assumes nothing.
use Prim.Native.Nat.{ℕ, suc, ◌+◌}
use mathlib.Core.Path.{◌≡◌, refl, sym, ap, ◌∙◌, subst}
use mathlib.Core.Bool.{Bool, true, false}
use mathlib.Core.List.{List}
use mathlib.Core.Option.{Option}
use native.Mathlib.Omega.{arith}
use native.Mathlib.Nat.{zero-add}
use lib.ListN.{length, get_elem?}
use lib.Dec.{eqb}
use borrow.Author.Tests.{lt-ltb, le-leb}
use Rattle.definition.specs.declared.Status.{Status}
use Rattle.definition.specs.declared.Status.TheVariants.{Internal, NoResources, InvalidArgs, BadHandle, OutOfRange, BadState, ShouldWait, PeerClosed, NotFound, AccessDenied}
use Rattle.definition.specs.Status.{Answer}
use Rattle.std.specs.declared.result.Result.TheVariants.{Ok, Err}
use Rattle.definition.specs.Status.{pick, ◌and◌, is_done, refuse_if, refuse_unless, ◌then◌}
use Rattle.definition.specs.declared.Queue.{Queue}
use Rattle.definition.specs.declared.Endpoint.{Endpoint}
use Rattle.definition.specs.declared.Disposition.{Disposition}
use Rattle.definition.specs.Tests.{short_slices, first_length, bad_first, sound_ends, is_open, sound_test as endsSoundTest, handle_test as endsHandleTest, opening_test as endsOpeningTest, sound_test, Lent, lent_of, slices_test, table_test, handle_test, opening_test}
use Rattle.definition.specs.Write.{datagram_size, write_size, write_answer, write_ranges, user_write_answer}
use Rattle.definition.specs.Read.{empty_answer, read_size, read_answer, user_read_answer}
use Rattle.definition.specs.Disposition.{dispose_checks, plain_dispose_answer, user_dispose_answer}
use Rattle.definition.specs.Info.{info_answer}
use Rattle.definition.specs.Threshold.{read_threshold_answer, write_threshold_answer, thresholds_answer}
use Rattle.definition.specs.Port.{wait_answer, take_answer, cancel_answer}
use Rattle.definition.specs.declared.Pair.{Pair}
use Rattle.definition.specs.Pair.{is_one, ends_of, own, peer}
use Rattle.definition.specs.Shutdown.{shutdown_answer, user_shutdown_answer}
use Rattle.definition.specs.Close.{close_answer}
use Rattle.definition.specs.Memory.{lookup}
use Rattle.definition.specs.Calls.{Control, set_disposition, shutdown, plain_disposition, plain_shutdown, set_read_threshold, set_write_threshold, get_thresholds, get_info, wait, take_packet, cancel, Call, write, read, plain_write, plain_read, close, control, Input, State, state, own_slices, Outcome, created_by, View, view, own_lent, peer_lent, table_only, control_answer, answer_to, answer_of, outcome, pair_created}
use Rattle.definition_runs.specs.Run.{Chain, none, next, Does, run}
use Rattle.definition_runs.specs.TwoRuns.{Origin, OriginLines, no_lines, found, lines_after}
use Rattle.definition_runs.specs.Laws.{Sound, RunsAreSound}
use Rattle.definition_runs.proofs.Holds.{Size, first-is, sound_queue_lem, slices_long, first_good}
use Rattle.definition_runs.proofs.Invariant.{Inv}
use Rattle.definition_runs.proofs.Start.{size_of, created_fits, new_inv}
use Rattle.definition_runs.proofs.runs.Match.{calls_match}
use Rattle.definition_runs.proofs.TwoRuns.{next_inv, here_in, after_in}

-- ---- answers that are not INTERNAL

unfoldable internal : Answer → Bool
internal (Ok d) = false
internal (Err Internal) = true
internal (Err NoResources) = false
internal (Err InvalidArgs) = false
internal (Err BadHandle) = false
internal (Err OutOfRange) = false
internal (Err BadState) = false
internal (Err ShouldWait) = false
internal (Err PeerClosed) = false
internal (Err NotFound) = false
internal (Err AccessDenied) = false

Not : Answer → Type 0
Not a = internal a ≡ false

then_not : (a b : Answer) → Not a → Not b → Not (a then b)
unfolding Not ◌then◌
then_not (Ok d) b x y = y
then_not (Err s) b x y = x

if_not : (b : Bool) (s : Status) → Not (Err s) → Not (refuse_if b s)
unfolding Not internal refuse_if
if_not true s x = x
if_not false s x = refl

unless_not : (b : Bool) (s : Status) → Not (Err s) → Not (refuse_unless b s)
unfolding Not internal refuse_unless
unless_not true s x = refl
unless_not false s x = x

off_not : (s : Status) → Not (refuse_if false s)
unfolding Not internal refuse_if
off_not s = refl

pick-not : (b : Bool) (x y : Answer) → Not x → Not y → Not (pick b x y)
unfolding pick
pick-not true x y h k = h
pick-not false x y h k = k

invalid : Not (Err InvalidArgs)
unfolding Not internal
invalid = refl

-- ---- the parts of answers

handle_not : (p : Pair) (h : ℕ) → Not (handle_test (ends_of p) h)
unfolding Not internal endsHandleTest
handle_not p h = unless_not (is_open (ends_of p) h) BadHandle refl

lookup-not : (p : Pair) (h right : ℕ) → Not (lookup (ends_of p) h right)
unfolding Not internal lookup
lookup-not p h right = then_not _ _ (handle_not p h) (if_not _ AccessDenied refl)

write-not : (dg : Bool) (C : ℕ) (e e' : Endpoint) (n : ℕ) → Not (write_size dg C e e' n)
unfolding Not internal write_size datagram_size
write-not dg C e e' n =
    then_not _ _ (if_not _ InvalidArgs refl)
    (then_not _ _ (if_not _ BadState refl)
    (then_not _ _ (if_not _ PeerClosed refl)
    (then_not _ _ (if_not _ ShouldWait refl)
    (pick-not dg _ _
    (then_not _ _ (if_not _ OutOfRange refl) (then_not _ _ (if_not _ ShouldWait refl) (then_not _ _ (if_not _ InvalidArgs refl) refl)))
    refl))))

ranges_not : (base size address countAt : ℕ) (a : Answer) → Not a → Not (write_ranges base size address countAt a)
unfolding write_ranges
ranges_not base size address countAt a x =
    then_not _ _ x (then_not _ _ (unless_not _ InvalidArgs invalid) (then_not _ _ (unless_not _ InvalidArgs invalid) x))

read-not : (dg : Bool) (e e' : Endpoint) (first n : ℕ) → Not (read_size dg e e' first n)
unfolding Not internal read_size empty_answer
read-not dg e e' first n =
    pick-not _ _ _ (then_not _ _ (if_not _ PeerClosed refl) (then_not _ _ (if_not _ BadState refl) refl)) refl

dispose_not : (e e' : Endpoint) (a b : Disposition) → Not (dispose_checks e e' a b)
unfolding Not internal dispose_checks
dispose_not e e' a b = then_not _ _ (if_not _ BadState refl) (if_not _ BadState refl)

-- ---- the tests of what the host lends, on a sound state

slices_not : (dg : Bool) (C h : ℕ) (q : Queue) (z : Lent) → bad_first dg q z.first ≡ false → Not (slices_test dg C h q z)
unfolding Not internal slices_test
slices_not dg C h q z e = pick-not _ _ _ (then_not _ _ (if_not _ InvalidArgs refl) (rw e (off_not Internal))) refl

table-not : (dg : Bool) (C h : ℕ) (q : Queue) (z : Lent) → bad_first dg q z.first ≡ false → Not (table_test dg C h q z)
unfolding Not internal table_test
table-not dg C h q z e = pick-not _ _ _ (then_not _ _ (if_not _ InvalidArgs refl) (rw e (off_not Internal))) refl

record Good (v : View) : Type 0 where
  pub sound : sound_ends (ends_of v.pair) ≡ true
  pub one : bad_first v.pair.datagram v.pair.one.queue v.one.first ≡ false
  pub two : bad_first v.pair.datagram v.pair.two.queue v.two.first ≡ false

module _ (v : View) (g : Good v) where
  own_good : (t : Bool) → bad_first v.pair.datagram (own t (ends_of v.pair)).queue (own_lent t v).first ≡ false
  own_good true = g.one
  own_good false = g.two

  peer_good : (t : Bool) → bad_first v.pair.datagram (peer t (ends_of v.pair)).queue (peer_lent t v).first ≡ false
  peer_good true = g.two
  peer_good false = g.one

  sound-not : Not (sound_test (ends_of v.pair))
  unfolding Not internal endsSoundTest refuse_unless
  sound-not = rw g.sound

  opening_not : (h : ℕ) → Not (opening_test (ends_of v.pair) h)
  unfolding endsOpeningTest
  opening_not h = then_not _ _ sound-not (handle_not v.pair h)

  control-not : (c : Control) → Not (control_answer v c)
  unfolding control_answer read_threshold_answer write_threshold_answer thresholds_answer shutdown_answer info_answer wait_answer take_answer cancel_answer plain_dispose_answer user_dispose_answer user_shutdown_answer Not internal
  control-not (set_disposition h a b) =
      then_not _ _ sound-not
      (then_not _ _ (if_not _ InvalidArgs refl)
      (then_not _ _ (if_not _ InvalidArgs refl) (then_not _ _ (lookup-not v.pair h _) (dispose_not _ _ _ _))))
  control-not (shutdown h o) = then_not _ _ sound-not (lookup-not v.pair h _)
  control-not (plain_disposition h a b) =
      then_not _ _ (opening_not h)
      (then_not _ _ (if_not _ InvalidArgs refl) (then_not _ _ (if_not _ InvalidArgs refl) (dispose_not _ _ _ _)))
  control-not (plain_shutdown h a b) = opening_not h
  control-not (set_read_threshold h n) = then_not _ _ (opening_not h) (if_not _ InvalidArgs refl)
  control-not (set_write_threshold h n) = then_not _ _ (opening_not h) (then_not _ _ (if_not _ PeerClosed refl) (if_not _ InvalidArgs refl))
  control-not (get_thresholds h) = then_not _ _ (opening_not h) refl
  control-not (get_info h) =
      then_not _ _ sound-not
      (then_not _ _ (table-not _ _ h _ (table_only (own_lent (is_one h) v)) (own_good (is_one h))) (then_not _ _ (handle_not v.pair h) refl))
  control-not (wait h k m e) =
      then_not _ _ (opening_not h) (then_not _ _ (if_not _ InvalidArgs refl) (if_not _ NoResources refl))
  control-not take_packet = then_not _ _ sound-not (then_not _ _ (if_not _ ShouldWait refl) refl)
  control-not (cancel h k) = then_not _ _ (opening_not h) (then_not _ _ (if_not _ NotFound refl) refl)

  answer-not : (base size : ℕ) (c : Call) → Not (answer_to v base size c)
  unfolding answer_to write_answer read_answer close_answer user_write_answer user_read_answer Not internal
  answer-not base size (write h o a n at) =
      then_not _ _ sound-not
      (then_not _ _ (slices_not _ _ h _ _ (peer_good (is_one h)))
      (then_not _ _ (unless_not _ InvalidArgs refl)
      (then_not _ _ (if_not _ InvalidArgs refl)
      (then_not _ _ (lookup-not v.pair h _) (ranges_not base size a at _ (write-not _ _ _ _ n))))))
  answer-not base size (read h o a n at) =
      then_not _ _ sound-not
      (then_not _ _ (slices_not _ _ h _ _ (own_good (is_one h)))
      (then_not _ _ (if_not _ InvalidArgs refl)
      (then_not _ _ (unless_not _ InvalidArgs refl)
      (then_not _ _ (lookup-not v.pair h _)
      (then_not _ _ (unless_not _ InvalidArgs refl) (then_not _ _ (unless_not _ InvalidArgs refl) (read-not _ _ _ _ n)))))))
  answer-not base size (plain_write h) =
      then_not _ _ sound-not
      (then_not _ _ (slices_not _ _ h _ _ (peer_good (is_one h))) (then_not _ _ (handle_not v.pair h) (write-not _ _ _ _ size)))
  answer-not base size (plain_read h k) =
      then_not _ _ sound-not
      (then_not _ _ (slices_not _ _ h _ _ (own_good (is_one h))) (then_not _ _ (handle_not v.pair h) (read-not _ _ _ _ size)))
  answer-not base size (close h) = opening_not h
  answer-not base size (control c) = control-not c

never : (a : Answer) → Not a → a ≡ Err Internal → ⊥
unfolding Not internal
never a x e = let z : ◌≡◌ {A = Bool} true false = rw e at x in let y : ◌≡◌ {A = ℕ} 0 1 = cc in omega arith

-- ---- a state of a run

module _ (f : Origin → Option ℕ) (dg : Bool) (z1 z2 : Size) (s : State) (ln : OriginLines) (v : Inv f dg z1 z2 s ln) where
  pair-sound : sound_ends (ends_of s.pair) ≡ true
  unfolding sound_ends ◌and◌
  pair-sound =
      rw (
        lt-ltb 0 s.pair.capacity (omega (arith, v.one.start)),
        le-leb s.pair.capacity 262144 v.high,
        v.places,
        sound_queue_lem f s.pair.datagram s.pair.capacity z1 s.pair.one.queue s.one ln.one v.one,
      )
      (sound_queue_lem f s.pair.datagram s.pair.capacity z2 s.pair.two.queue s.two ln.two v.two)

  first-sound : (t : Bool)
      → bad_first s.pair.datagram (own t (ends_of s.pair)).queue (first_length s.pair.datagram (own t (ends_of s.pair)).queue (own_slices t s).table) ≡ false
  first-sound true =
      rw (first-is f s.pair.datagram s.pair.capacity z1 s.pair.one.queue s.one ln.one v.one)
      (first_good f s.pair.datagram s.pair.capacity z1 s.pair.one.queue s.one ln.one v.one)
  first-sound false =
      rw (first-is f s.pair.datagram s.pair.capacity z2 s.pair.two.queue s.two ln.two v.two)
      (first_good f s.pair.datagram s.pair.capacity z2 s.pair.two.queue s.two ln.two v.two)

  long-sound : (t : Bool) → short_slices s.pair.datagram s.pair.capacity (length (own_slices t s).ring) (length (own_slices t s).table) ≡ false
  long-sound true =
      rw (v.one.ring, v.one.table) (slices_long f s.pair.datagram s.pair.capacity z1 s.pair.one.queue s.one ln.one v.one)
  long-sound false =
      rw (v.two.ring, v.two.table) (slices_long f s.pair.datagram s.pair.capacity z2 s.pair.two.queue s.two ln.two v.two)

  view_good : Good (view s)
  unfolding lent_of
  view_good = record { sound = pair-sound; one = first-sound true; two = first-sound false }

  inv_sound : Sound s
  unfolding outcome
  inv_sound =
      record {
        sound = pair-sound;
        long = long-sound;
        first = first-sound;
        answers = λ i s' o d e.
            let m = calls_match s i s' o d in
            never (answer_of s i) (answer-not (view s) view_good i.base (length i.memory) i.call) (sym (ap (λ (x : Outcome). x.seen.answer) m.out) ∙ e);
      }

-- along a run
chain-sound : (whole : List Input) (dg : Bool) (z1 z2 : Size) (w : ℕ) (s : State) (ln : OriginLines) (is : List Input) (os : List Outcome) (s' : State)
    → ((k : ℕ) → get_elem? whole (w + k) ≡ get_elem? is k) → Inv (found whole) dg z1 z2 s ln → Chain Does s is os s' → Sound s'
chain-sound whole dg z1 z2 w s ln is os s' at v none = inv_sound (found whole) dg z1 z2 s ln v
chain-sound whole dg z1 z2 w s ln is os s' at v (next {s' = s₁} {i = i} {o = o} {is = rest} {os = others} d r) =
    let m = calls_match s i s₁ o d in
    chain-sound whole dg z1 z2 (suc w) s₁ (lines_after dg w i.call (answer_of s i) ln) rest others s' (after_in whole dg z1 z2 w i rest at)
    (subst (λ (x : State). Inv (found whole) dg z1 z2 x (lines_after dg w i.call (answer_of s i) ln)) (sym m.state)
    (next_inv whole dg z1 z2 w s ln i (here_in whole dg z1 z2 w i rest at) v))
    r

pub runs_are_sound : RunsAreSound
unfolding pair_created is_done pick
runs_are_sound c one two is x os s (run {r} e k) d =
    let ok : is_done (created_by c one two) ≡ true = rw e.answer at d in
    let fit = created_fits c one two ok in
    let p : r.pair ≡ _ = rw ok at e.pair in
    chain-sound is (eqb c.kind 1) (size_of one) (size_of two) 0 _ no_lines is os s (λ k. ap (get_elem? is) (zero-add k))
    (new_inv (found is) c one two fit)
    (subst (λ (x : Pair). Chain Does (state x one two) is os s) p k)
