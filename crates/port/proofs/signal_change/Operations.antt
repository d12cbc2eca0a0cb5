-- What a change of an end's word comes to, by the table it meets. Assumes nothing.
use Prim.Native.Nat.{ℕ}
use mathlib.Core.Path.{◌≡◌, refl}
use mathlib.Core.Bool.{Bool, true, false, not}
use mathlib.Core.Logic.{⊎_elim}
use lib.Dec.{eqb}
use borrow.Author.Tests.{eq-eqb}
use Rattle.definition.specs.Status.{pick, ok, refuse_unless}
use Rattle.definition.specs.declared.Status.TheVariants.{Internal}
use Rattle.std.specs.declared.result.Result.TheVariants.{Err}
use Rattle.definition.specs.declared.Places.{Places}
use Rattle.definition.specs.declared.Change.{Change}
use Rattle.definition.specs.Signal.{changed_word}
use Rattle.definition.specs.Port.{sound, fired_of, change_of}
use Rattle.port.proofs.places.Lists.{either}

pub change_unsound : (one : Bool) (w clear set : ℕ) (t : Places) → sound t ≡ false → change_of one w clear set t ≡ record { places = t; word = w; answer = Err Internal }
unfolding change_of pick
change_unsound one w clear set t e = rw e refl

pub change_sound : (one : Bool) (w clear set : ℕ) (t : Places) → sound t ≡ true
    → change_of one w clear set t
    ≡ record { places = pick (eqb (changed_word clear set w) w) t (fired_of one (changed_word clear set w) t); word = changed_word clear set w; answer = ok }
unfolding change_of pick
change_sound one w clear set t e = rw e refl

pub change_same : (one : Bool) (w clear set : ℕ) (t : Places) → sound t ≡ true → changed_word clear set w ≡ w
    → change_of one w clear set t ≡ record { places = t; word = changed_word clear set w; answer = ok }
unfolding change_of pick
change_same one w clear set t e s = rw (e, eq-eqb (changed_word clear set w) w s) refl

-- in one record
pub change_as : (one : Bool) (w clear set : ℕ) (t : Places)
    → ◌≡◌ {A = Change} (record {
      places = pick (not (eqb (pick (sound t) (changed_word clear set w) w) w)) (fired_of one (pick (sound t) (changed_word clear set w) w) t) t;
      word = pick (sound t) (changed_word clear set w) w;
      answer = refuse_unless (sound t) Internal;
    }) (change_of one w clear set t)
unfolding change_of pick refuse_unless
change_as one w clear set t =
    let n = changed_word clear set w in
    ⊎_elim
    (λ (s : sound t ≡ true).
    ⊎_elim
    (λ (e : eqb n w ≡ true). rw (s, e) refl)
    (λ (e : eqb n w ≡ false). rw (s, e) refl)
    (either (eqb n w)))
    (λ (s : sound t ≡ false). rw (s, eq-eqb w w refl) refl)
    (either (sound t))
