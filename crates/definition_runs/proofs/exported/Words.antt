-- The word of an answer tells whether the call was done, and its count. Assumes nothing.
use mathlib.Core.Path.{◌≡◌, refl}
use mathlib.Core.Bool.{false}
use lib.IntN.{pos, neg_ℤ}
use Rattle.definition.specs.declared.Status.{Status}
use Rattle.definition.specs.declared.Status.TheVariants.{Internal, NoResources, InvalidArgs, BadHandle, OutOfRange, BadState, ShouldWait, PeerClosed, NotFound, AccessDenied}
use Rattle.definition.specs.Status.{Answer}
use Rattle.std.specs.declared.result.Result.TheVariants.{Ok, Err}
use Rattle.definition.specs.Status.{status_number, answer_word, count_of, is_done}
use Rattle.definition_runs.specs.Exported.{is_count, count_in}

status_count : (e : Status) → count_in (neg_ℤ (pos (status_number e))) ≡ 0
unfolding count_in status_number
status_count Internal = refl
status_count NoResources = refl
status_count InvalidArgs = refl
status_count BadHandle = refl
status_count OutOfRange = refl
status_count BadState = refl
status_count ShouldWait = refl
status_count PeerClosed = refl
status_count NotFound = refl
status_count AccessDenied = refl

status_refused : (e : Status) → is_count (neg_ℤ (pos (status_number e))) ≡ false
unfolding is_count status_number
status_refused Internal = refl
status_refused NoResources = refl
status_refused InvalidArgs = refl
status_refused BadHandle = refl
status_refused OutOfRange = refl
status_refused BadState = refl
status_refused ShouldWait = refl
status_refused PeerClosed = refl
status_refused NotFound = refl
status_refused AccessDenied = refl

pub count_in_lem : (a : Answer) → count_in (answer_word a) ≡ count_of a
unfolding answer_word count_of count_in
count_in_lem (Ok d) = refl
count_in_lem (Err e) = status_count e

pub is_count_lem : (a : Answer) → is_count (answer_word a) ≡ is_done a
unfolding answer_word is_done is_count
is_count_lem (Ok d) = refl
is_count_lem (Err e) = status_refused e
