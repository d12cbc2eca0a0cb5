-- The claim on two runs. What is seen of a run is a function of what is public of its inputs, and in each run a read delivers what stands at the
-- origins of its line. Assumes nothing.
use Prim.Native.Nat.{ℕ, zero, suc, ◌+◌}
use mathlib.Core.Path.{◌≡◌, refl, sym, ap, ap₂, ◌∙◌, subst}
use mathlib.Core.Bool.{Bool, true, false}
use mathlib.Core.List.{List, [], ◌∷◌, map, map-map}
use mathlib.Core.Option.{Option, some}
use native.Mathlib.Nat.{suc-add, add-suc, zero-add, add-zero}
use lib.ListN.{length, get_elem?}
use lib.Dec.{eqb}
use Rattle.definition.specs.declared.Status.TheVariants.{Internal}
use Rattle.definition.specs.Status.{Answer}
use Rattle.std.specs.declared.result.Result.TheVariants.{Ok, Err}
use Rattle.definition.specs.Status.{pick, is_done}
use Rattle.definition.specs.Create.{create_answer, new_pair, no_pair}
use Rattle.definition.specs.declared.Pair.{Pair}
use Rattle.definition.specs.Pair.{is_one}
use Rattle.definition.specs.Tests.{Lent}
use Rattle.definition.specs.Calls.{Create, Call, write, read, plain_write, plain_read, close, control, Input, Public, public, Slices, State, state, with_peer_slices, Seen, seen_of, Outcome, created_by, View, view, answer_to, pair_after, memories_after, written, state_after, answer_of, after, outcome, outcomes, pair_created, state_created}
use Rattle.definition_runs.specs.TwoRuns.{Origin, OriginLine, OriginLines, no_lines, lines_after, sources_from, sources, byte_at, found, seen, answers, deliveries, memories_left, calls, Alike, SameLengths, TwoRuns}
use Rattle.definition_runs.proofs.Lists.{cons_path}
use Rattle.definition_runs.proofs.Holds.{Size, first_of, lent_is}
use Rattle.definition_runs.proofs.Invariant.{Inv, after_inv}
use Rattle.definition_runs.proofs.Delivers.{delivers}
use Rattle.definition_runs.proofs.Start.{size_of, Fit, created_fits, new_inv}
use Rattle.definition_runs.proofs.NoPair.{seen_all, origins-all}
use Rattle.definition_runs.proofs.runs.Whole.{runs_match}

-- ---- what is public of a state, from its pair and the lines

abbrev lent_by : Bool → Size → OriginLine → Lent
lent_by dg z g = record { ring = z.ring; table = z.table; first = first_of dg g }

abbrev line_view : Bool → (z1 z2 : Size) → Pair → OriginLines → View
line_view dg z1 z2 p ln = record { pair = p; one = lent_by dg z1 ln.one; two = lent_by dg z2 ln.two }

view-is : (f : Origin → Option ℕ) (dg : Bool) (z1 z2 : Size) (s : State) (ln : OriginLines) → Inv f dg z1 z2 s ln → view s ≡ line_view dg z1 z2 s.pair ln
view-is f dg z1 z2 s ln v =
    let a = lent_is f s.pair.datagram s.pair.capacity z1 s.pair.one.queue s.one ln.one v.one in
    let b = lent_is f s.pair.datagram s.pair.capacity z2 s.pair.two.queue s.two ln.two v.two in
    (λ i. record { pair = s.pair; one = a i; two = b i }) ∙ ap (λ (x : Bool). line_view x z1 z2 s.pair ln) v.kind

-- ---- what is seen, from what is public

unfoldable public_run : Bool → (z1 z2 : Size) → ℕ → Pair → OriginLines → List Public → List Seen
public_run dg z1 z2 w p ln [] = []
public_run dg z1 z2 w p ln (x ∷ xs) =
    let v : View = line_view dg z1 z2 p ln in
    let r : Answer = answer_to v x.base x.size x.call in
    seen_of r (pair_after v x.call r) ∷ public_run dg z1 z2 (suc w) (pair_after v x.call r) (lines_after dg w x.call r ln) xs

pair_written_lem : (t : Bool) (p : Pair) (l : Slices) (s : State) → (with_peer_slices t p l s).pair ≡ p
pair_written_lem true p l s = refl
pair_written_lem false p l s = refl

pair_after_lem : (s : State) (i : Input) (c : Call) (r : Answer) → (state_after s i c r (pair_after (view s) c r)).pair ≡ pair_after (view s) c r
unfolding state_after pair_after written
pair_after_lem s i (write h o a n at) r = pair_written_lem (is_one h) _ _ s
pair_after_lem s i (read h o a n at) r = refl
pair_after_lem s i (plain_write h) r = pair_written_lem (is_one h) _ _ s
pair_after_lem s i (plain_read h peek) r = refl
pair_after_lem s i (close h) r = refl
pair_after_lem s i (control c) r = refl

-- ---- a run, from call w of the whole list on

module _ (whole : List Input) (dg : Bool) (z1 z2 : Size) where
  -- the invariant after a call
  pub next_inv : (w : ℕ) (s : State) (ln : OriginLines) (i : Input) → get_elem? whole w ≡ some i → Inv (found whole) dg z1 z2 s ln
      → Inv (found whole) dg z1 z2 (after s i) (lines_after dg w i.call (answer_of s i) ln)
  unfolding found byte_at
  next_inv w s ln i here v =
      subst (λ (x : Bool). Inv (found whole) dg z1 z2 (after s i) (lines_after x w i.call (answer_of s i) ln)) v.kind
      (after_inv (found whole) dg z1 z2 s ln v w i (λ o. ap (λ (j : Option Input). byte_at j o) here))

  pub here_in : (w : ℕ) (i : Input) (is : List Input) → ((k : ℕ) → get_elem? whole (w + k) ≡ get_elem? (i ∷ is) k) → get_elem? whole w ≡ some i
  here_in w i is at = ap (get_elem? whole) (sym (add-zero w)) ∙ at zero

  pub after_in : (w : ℕ) (i : Input) (is : List Input) → ((k : ℕ) → get_elem? whole (w + k) ≡ get_elem? (i ∷ is) k)
      → (k : ℕ) → get_elem? whole (suc w + k) ≡ get_elem? is k
  after_in w i is at k = ap (get_elem? whole) (suc-add w k ∙ sym (add-suc w k)) ∙ at (suc k)

  seen-run : (w : ℕ) (s : State) (ln : OriginLines) (is : List Input) → ((k : ℕ) → get_elem? whole (w + k) ≡ get_elem? is k) → Inv (found whole) dg z1 z2 s ln
      → seen (outcomes s is) ≡ public_run dg z1 z2 w s.pair ln (map public is)
  unfolding outcomes public_run outcome after
  seen-run w s ln [] at v = refl
  seen-run w s ln (i ∷ is) at v =
      let e = view-is (found whole) dg z1 z2 s ln v in
      cons_path
      (ap (λ (x : View). seen_of (answer_to x i.base (length i.memory) i.call) (pair_after x i.call (answer_to x i.base (length i.memory) i.call))) e)
      (seen-run (suc w) (after s i) (lines_after dg w i.call (answer_of s i) ln) is (after_in w i is at) (next_inv w s ln i (here_in w i is at) v)
      ∙ ap (λ (p : Pair). public_run dg z1 z2 (suc w) p (lines_after dg w i.call (answer_of s i) ln) (map public is)) (pair_after_lem s i i.call (answer_of s i))
      ∙ ap (λ (x : View).
      public_run dg z1 z2 (suc w) (pair_after x i.call (answer_to x i.base (length i.memory) i.call))
      (lines_after dg w i.call (answer_to x i.base (length i.memory) i.call) ln) (map public is))
      e)

  origin_run : (w : ℕ) (s : State) (ln : OriginLines) (is : List Input) → ((k : ℕ) → get_elem? whole (w + k) ≡ get_elem? is k) → Inv (found whole) dg z1 z2 s ln
      → map (map some) (deliveries (outcomes s is)) ≡ map (map (found whole)) (sources_from dg w ln (calls is) (answers (outcomes s is)))
  unfolding outcomes sources_from outcome
  origin_run w s ln [] at v = refl
  origin_run w s ln (i ∷ is) at v =
      cons_path (delivers (found whole) dg z1 z2 s ln v i.base i.memory i.call)
      (origin_run (suc w) (after s i) (lines_after dg w i.call (answer_of s i) ln) is (after_in w i is at) (next_inv w s ln i (here_in w i is at) v))

-- ---- from create on

-- what is seen of the calls, from what is public; a refused create leaves the pair of no capacity
unfoldable public_from : Create → (z1 z2 : Size) → Answer → List Public → List Seen
public_from c z1 z2 (Ok d) ps =
    public_run (eqb c.kind 1) z1 z2 0 (new_pair (eqb c.kind 1) c.capacity c.rights1 c.rights2) no_lines ps
public_from c z1 z2 (Err e) ps = map (λ (p : Public). seen_of (Err Internal) no_pair) ps

whole_in : (is : List Input) (k : ℕ) → get_elem? is (0 + k) ≡ get_elem? is k
whole_in is k = ap (get_elem? is) (zero-add k)

seen-whole : (c : Create) (one two : Slices) (is : List Input)
    → seen (outcomes (state_created c one two) is) ≡ public_from c (size_of one) (size_of two) (created_by c one two) (map public is)
unfolding pair_created public_from is_done pick
seen-whole c one two is = go (created_by c one two) (λ e. created_fits c one two e)
  where
    go : (r : Answer) → (is_done r ≡ true → Fit c one two)
        → seen (outcomes (state (pair_created c r) one two) is) ≡ public_from c (size_of one) (size_of two) r (map public is)
    go (Ok d) fit =
        seen-run is (eqb c.kind 1) (size_of one) (size_of two) 0 _ no_lines is (whole_in is) (new_inv (found is) c one two (fit refl))
    go (Err e) fit = seen_all one two is

origin_whole : (c : Create) (one two : Slices) (is : List Input)
    → map (map some) (deliveries (outcomes (state_created c one two) is))
    ≡ map (map (found is)) (sources (eqb c.kind 1) (calls is) (answers (outcomes (state_created c one two) is)))
unfolding sources pair_created is_done pick
origin_whole c one two is = go (created_by c one two) (λ e. created_fits c one two e)
  where
    go : (r : Answer) → (is_done r ≡ true → Fit c one two)
        → map (map some) (deliveries (outcomes (state (pair_created c r) one two) is))
        ≡ map (map (found is)) (sources_from (eqb c.kind 1) 0 no_lines (calls is) (answers (outcomes (state (pair_created c r) one two) is)))
    go (Ok d) fit =
        origin_run is (eqb c.kind 1) (size_of one) (size_of two) 0 _ no_lines is (whole_in is) (new_inv (found is) c one two (fit refl))
    go (Err e) fit = origins-all one two (found is) (eqb c.kind 1) 0 is

-- ---- memory at exit

memory-run : (s : State) (is : List Input)
    → memories_left (outcomes s is) ≡ memories_after is (answers (outcomes s is)) (deliveries (outcomes s is))
unfolding outcomes outcome memories_after
memory-run s [] = refl
memory-run s (i ∷ is) = cons_path refl (memory-run (after s i) is)

-- ---- the claim

calls-public : (is js : List Input) → map public is ≡ map public js → calls js ≡ calls is
calls-public is js e =
    sym (map-map (λ (p : Public). p.call) public js) ∙ ap (map (λ (p : Public). p.call)) (sym e) ∙ map-map (λ (p : Public). p.call) public is

answers-seen : (os os' : List Outcome) → seen os ≡ seen os' → answers os' ≡ answers os
answers-seen os os' e =
    sym (map-map (λ (x : Seen). x.answer) (λ (o : Outcome). o.seen) os')
    ∙ ap (map (λ (x : Seen). x.answer)) (sym e)
    ∙ map-map (λ (x : Seen). x.answer) (λ (o : Outcome). o.seen) os

module _ (c : Create) (one two one' two' : Slices) (e : SameLengths one one') (k : SameLengths two two') where
  created_same : created_by c one two ≡ created_by c one' two'
  created_same = λ i. create_answer c.kind c.capacity c.rights1 c.rights2 (e.ring i) (e.table i) (k.ring i) (k.table i)

  public-same : (ps : List Public) → public_from c (size_of one) (size_of two) (created_by c one two) ps ≡ public_from c (size_of one') (size_of two') (created_by c one' two') ps
  public-same ps =
      λ i. public_from c (record { ring = e.ring i; table = e.table i }) (record { ring = k.ring i; table = k.table i }) (created_same i) ps

  seen_same : (is js : List Input) → map public is ≡ map public js → seen (outcomes (state_created c one two) is) ≡ seen (outcomes (state_created c one' two') js)
  seen_same is js same =
      seen-whole c one two is
      ∙ public-same (map public is)
      ∙ ap (public_from c (size_of one') (size_of two') (created_by c one' two')) same
      ∙ sym (seen-whole c one' two' js)

  alike : (is js : List Input) → map public is ≡ map public js
      → Alike (eqb c.kind 1) is js
      (seen_of (created_by c one two) (pair_created c (created_by c one two)))
      (seen_of (created_by c one' two') (pair_created c (created_by c one' two')))
      (outcomes (state_created c one two) is) (outcomes (state_created c one' two') js)
  alike is js same =
      record {
        create = ap (λ (r : Answer). seen_of r (pair_created c r)) created_same;
        same = seen_same is js same;
        first = origin_whole c one two is;
        second =
            origin_whole c one' two' js
            ∙ ap₂ (λ (cs : List Call) (rs : List Answer). map (map (found js)) (sources (eqb c.kind 1) cs rs)) (calls-public is js same)
            (answers-seen (outcomes (state_created c one two) is) (outcomes (state_created c one' two') js) (seen_same is js same));
        memory = memory-run (state_created c one two) is;
        memory' =
            memory-run (state_created c one' two') js
            ∙ ap (λ (rs : List Answer). memories_after js rs (deliveries (outcomes (state_created c one' two') js)))
            (answers-seen (outcomes (state_created c one two) is) (outcomes (state_created c one' two') js) (seen_same is js same));
      }

pub two_runs : TwoRuns
two_runs c one two one' two' e k is js same x y os os' s s' r r' =
    let a = runs_match c one two is x os s r in
    let b = runs_match c one' two' js y os' s' r' in
    rw (a.create, b.create, a.calls, b.calls) (alike c one two one' two' e k is js same)
