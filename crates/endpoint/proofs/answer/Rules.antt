-- Rules by which `search` follows a chain of tests: `search chain` at a return closes `answer ≡ (refuse_if .. then refuse_unless .. then ..)`
-- from the tests on the way. Assumes nothing.
use Prim.Native.Nat.{ℕ}
use mathlib.Core.Path.{◌≡◌, refl, sym, ap, ◌∙◌}
use mathlib.Core.Bool.{Bool, true, false, not}
use lib.Dec.{T}
use borrow.Author.Tests.{lt-ltb, le-ltb, le-leb, lt-leb, eq-eqb, ne_eqb, not-true, not-false}
use Rattle.std.specs.Result.{IsErr, IsErrAnd}
use Rattle.std.proofs.lemmas.Result.{err_from_is_err_and}
use Rattle.definition.specs.declared.Status.{Status}
use Rattle.definition.specs.declared.Record.{Record}
use Rattle.definition.specs.Status.{Answer}
use Rattle.std.specs.declared.result.Result.TheVariants.{Ok, Err}
use Rattle.definition.specs.declared.Record.TheVariants.{Empty, Count}
use Rattle.definition.specs.Status.{pick, ◌and◌, ◌or◌, refuse_if, refuse_unless, ◌then◌, is_done}

-- a test that holds, and one that does not, at the front of a chain
pub refuse_on : (b : Bool) (s : Status) (a : Answer) → b ≡ true → Err s ≡ (refuse_if b s then a)
unfolding refuse_if ◌then◌
refuse_on b s a e = rw e refl

-- where the status is itself chosen
pub refuse_as : (b : Bool) (s t : Status) (a : Answer) → b ≡ true → t ≡ s → Err t ≡ (refuse_if b s then a)
unfolding refuse_if ◌then◌
refuse_as b s t a e f = rw e (ap Err f)

pub refuse_off : (b : Bool) (s : Status) (a x : Answer) → b ≡ false → x ≡ a → x ≡ (refuse_if b s then a)
unfolding refuse_if ◌then◌
refuse_off b s a x e f = rw e f

pub unless_on : (b : Bool) (s : Status) (a : Answer) → b ≡ false → Err s ≡ (refuse_unless b s then a)
unfolding refuse_unless ◌then◌
unless_on b s a e = rw e refl

pub unless_off : (b : Bool) (s : Status) (a x : Answer) → b ≡ true → x ≡ a → x ≡ (refuse_unless b s then a)
unfolding refuse_unless ◌then◌
unless_off b s a x e f = rw e f

-- the last test of a chain
pub refuse_last : (b : Bool) (s : Status) → b ≡ true → Err s ≡ refuse_if b s
unfolding refuse_if
refuse_last b s e = rw e refl

pub pass_last : (b : Bool) (s : Status) → b ≡ false → Ok Empty ≡ refuse_if b s
unfolding refuse_if
pass_last b s e = rw e refl

pub unless_last : (b : Bool) (s : Status) → b ≡ false → Err s ≡ refuse_unless b s
unfolding refuse_unless
unless_last b s e = rw e refl

pub pass_unless : (b : Bool) (s : Status) → b ≡ true → Ok Empty ≡ refuse_unless b s
unfolding refuse_unless
pass_unless b s e = rw e refl

-- a count that a call gave
pub count_as : (m n : ℕ) → m ≡ n → ◌≡◌ {A = Answer} (Ok (Count m)) (Ok (Count n))
count_as m n e = rw e refl

-- a `?` that leaves with the refusal s of the call that gave x, and one that goes on
pub left : (x g a r : Answer) (s : Status) → x ≡ g → x ≡ Err s → IsErr r × IsErrAnd r (λ t. t ≡ s) → r ≡ (g then a)
unfolding ◌then◌
left x g a r s e f h = let p = err_from_is_err_and r h.1 in rw (← e, f, p.1, p.2) refl

pub passed : (x g a y : Answer) (d : Record) → x ≡ g → x ≡ Ok d → y ≡ a → y ≡ (g then a)
unfolding ◌then◌
passed x g a y d e f h = rw (← e, f) h

-- several tests made by a call that gave x
pub then_stop : (x g a : Answer) → x ≡ g → is_done x ≡ false → x ≡ (g then a)
unfolding is_done ◌then◌
then_stop (Ok d) g a e f = let z : ◌≡◌ {A = Bool} true false = f in (cc)
then_stop (Err s) g a e f = rw (← e) refl

pub then_go : (x g a y : Answer) → x ≡ g → is_done x ≡ true → y ≡ a → y ≡ (g then a)
unfolding is_done ◌then◌
then_go (Ok d) g a y e f h = rw (← e) h
then_go (Err s) g a y e f h = let z : ◌≡◌ {A = Bool} false true = f in (cc)

pub pick-on : (X : Type 0) (b : Bool) (x y z : X) → b ≡ true → x ≡ y → x ≡ pick b y z
unfolding pick
pick-on X b x y z e f = rw e f

pub pick_off : (X : Type 0) (b : Bool) (x y z : X) → b ≡ false → x ≡ z → x ≡ pick b y z
unfolding pick
pick_off X b x y z e f = rw e f

pub and_off : (a b : Bool) → a ≡ false → false ≡ (a and b)
unfolding ◌and◌
and_off a b e = rw e refl

pub and-on : (a b x : Bool) → a ≡ true → x ≡ b → x ≡ (a and b)
unfolding ◌and◌
and-on a b x e f = rw e f

pub or-on : (a b : Bool) → a ≡ true → true ≡ (a or b)
unfolding ◌or◌
or-on a b e = rw e refl

pub or_off : (a b x : Bool) → a ≡ false → x ≡ b → x ≡ (a or b)
unfolding ◌or◌
or_off a b x e f = rw e f

-- what a call gave, where its result was tested
pub via : {r b t : Bool} → r ≡ b → r ≡ t → b ≡ t
via p q = sym p ∙ q

pub via_not : {r b : Bool} → r ≡ b → not r ≡ true → b ≡ false
via_not {r} p q = sym p ∙ not-true r q

pub via_not-not : {r b : Bool} → r ≡ b → not r ≡ false → b ≡ true
via_not-not {r} p q = sym p ∙ not-false r q

pub ruleset chain = (lt-ltb, le-ltb, le-leb, lt-leb, eq-eqb, ne_eqb, not-true, not-false, refuse_on, refuse_off, refuse_as, unless_on, unless_off, refuse_last, pass_last, unless_last, pass_unless, count_as, then_stop, then_go, pick-on, pick_off, and_off, and-on, or-on, or_off, via, via_not, via_not-not)

-- ---- a test of the code, taken or left

on : (b : Bool) → T b → b ≡ true
on true t = refl
on false t = absurd t

off : (b : Bool) → T (not b) → b ≡ false
off true t = absurd t
off false t = refl

-- a choice whose test was taken, or left
pub on-pick : {A : Type 0} (b c : Bool) (x y : A) → c ≡ b → T c → x ≡ pick b x y
on-pick b c x y e t = pick-on _ b x x y (via e (on c t)) refl

pub off_pick : {A : Type 0} (b c : Bool) (x y : A) → c ≡ b → T (not c) → y ≡ pick b x y
off_pick b c x y e t = pick_off _ b y x y (via e (off c t)) refl
