-- A done cancel frees as many places as it answers. Assumes nothing.
use Prim.Native.Nat.{ℕ, ◌+◌, ◌≤◌}
use mathlib.Core.Path.{◌≡◌, refl, sym, ap, ◌∙◌}
use mathlib.Core.Bool.{true}
use lib.ListN.{length}
use Rattle.std.specs.declared.result.Result.TheVariants.{Ok}
use Rattle.definition.specs.declared.Record.TheVariants.{Count}
use Rattle.definition.specs.declared.Pair.{Pair}
use Rattle.definition.specs.Status.{pick, is_done, count_of, record_count}
use Rattle.definition.specs.Pair.{is_one, with_places}
use Rattle.definition.specs.Port.{used, matching, cancel_answer, cancelled}
use Rattle.endpoint.proofs.answer.Chains.{then_both, then_is}
use Rattle.port.proofs.cancel.Kept.{used-cancelled}
use Rattle.definition_runs.specs.Laws.{CancelFrees}

-- the count of a done cancel
counts : (p : Pair) (h key : ℕ) → is_done (cancel_answer p h key) ≡ true → count_of (cancel_answer p h key) ≡ matching (is_one h) key p.places
unfolding cancel_answer count_of record_count
counts p h key d =
    let a = then_both _ _ d in
    let b = then_both _ _ a.1 in
    ap count_of (then_is _ _ a.0 ∙ then_is _ _ b.0)

-- its next pair
goes : (p : Pair) (h key : ℕ) → is_done (cancel_answer p h key) ≡ true
    → pick (is_done (cancel_answer p h key)) (cancelled (is_one h) key p) p ≡ cancelled (is_one h) key p
unfolding pick
goes p h key d = rw d refl

left : (p : Pair) (h key : ℕ) → used p.places ≤ length p.places.table
    → used (cancelled (is_one h) key p).places + matching (is_one h) key p.places ≡ used p.places
unfolding cancelled with_places
left p h key l = used-cancelled (is_one h) key p.places l

pub cancel-frees : CancelFrees
unfolding count_of record_count is_done
cancel-frees p h key n r l c e =
    let told : cancel_answer p h key ≡ Ok (Count n) = sym c.answer ∙ e in
    let done : is_done (cancel_answer p h key) ≡ true = ap is_done told in
    let many : n ≡ matching (is_one h) key p.places = sym (ap count_of told) ∙ counts p h key done in
    rw (c.pair ∙ goes p h key done, many) (left p h key l)
