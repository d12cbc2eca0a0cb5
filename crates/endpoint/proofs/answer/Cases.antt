-- The answer's word at its edges: 0, −1 and the largest count.
use mathlib.Core.Path.{◌≡◌, refl}
use lib.IntN.{pos, negsuc}
use Rattle.definition.specs.declared.Status.TheVariants.{Internal}
use Rattle.definition.specs.declared.Record.TheVariants.{Empty, Count}
use Rattle.std.specs.declared.result.Result.TheVariants.{Ok, Err}
use Rattle.definition.specs.Status.{answer_word, record_count, status_number}

pub no_record : answer_word (Ok Empty) ≡ pos 0
unfolding answer_word record_count
no_record = refl

pub least : answer_word (Ok (Count 0)) ≡ pos 0
unfolding answer_word record_count
least = refl

pub minus_one : answer_word (Err Internal) ≡ negsuc 0
unfolding answer_word status_number
minus_one = refl

pub largest : answer_word (Ok (Count 4294967295)) ≡ pos 4294967295
unfolding answer_word record_count
largest = refl
