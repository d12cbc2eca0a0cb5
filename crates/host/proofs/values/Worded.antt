-- The signal word as a number, from the tests and the end that were computed. Assumes nothing.
use Prim.Native.Nat.{ℕ}
use mathlib.Core.Path.{◌≡◌, refl, sym, ap, ◌∙◌}
use mathlib.Core.Bool.{true, false, false≢true}
use lib.IntN.{pos, neg_ℤ}
use mir.Syntax.{w64}
use mir.Val.{to_z, of_z}
use Rattle.definition.specs.declared.Status.{Status}
use Rattle.definition.specs.declared.Status.TheVariants.{Internal, NoResources, InvalidArgs, BadHandle, OutOfRange, BadState, ShouldWait, PeerClosed, NotFound, AccessDenied}
use Rattle.definition.specs.Status.{Answer}
use Rattle.std.specs.declared.result.Result.TheVariants.{Ok, Err}
use Rattle.definition.specs.Status.{status_number, answer_word, is_done}
use Rattle.endpoint.proofs.answer.Rules.{pick-on, pick_off}
use Rattle.definition.specs.declared.Endpoint.{Endpoint}
use Rattle.definition.specs.declared.Ends.{Ends}
use Rattle.definition.specs.Pair.{is_one, own, ends_of}
use Rattle.definition.specs.Tests.{opening_test}
use Rattle.definition.specs.declared.Pair.{Pair}
use Rattle.definition_runs.specs.Exported.{signal_number}

-- the word of a refusal, read back from its 64 bits
status_back : (s : Status) → to_z w64 (of_z w64 (neg_ℤ (pos (status_number s)))) ≡ neg_ℤ (pos (status_number s))
unfolding status_number
status_back Internal = refl
status_back NoResources = refl
status_back InvalidArgs = refl
status_back BadHandle = refl
status_back OutOfRange = refl
status_back BadState = refl
status_back ShouldWait = refl
status_back PeerClosed = refl
status_back NotFound = refl
status_back AccessDenied = refl

pub word_back : (a : Answer) → is_done a ≡ false → to_z w64 (of_z w64 (answer_word a)) ≡ answer_word a
unfolding is_done answer_word
word_back (Ok d) e = absurd (false≢true (sym e))
word_back (Err s) e = status_back s

module _ (p : Pair) (h : ℕ) (e : Ends) (a : Answer) (f : e ≡ ends_of p) (g : a ≡ opening_test e h) where
  told : a ≡ opening_test (ends_of p) h
  told = g ∙ ap (λ (k : Ends). opening_test k h) f

  pub refused-number : is_done a ≡ false → answer_word a ≡ signal_number p h
  unfolding signal_number
  refused-number d = pick_off _ _ _ _ _ (ap is_done (sym told) ∙ d) (ap answer_word told)

  pub shown-number : is_done a ≡ true → (o : Endpoint) → o ≡ own (is_one h) e → pos o.signals ≡ signal_number p h
  unfolding signal_number
  shown-number d o i =
      pick-on _ _ _ _ _ (ap is_done (sym told) ∙ d) (ap (λ (k : Endpoint). pos k.signals) (i ∙ ap (λ (k : Ends). own (is_one h) k) f))
