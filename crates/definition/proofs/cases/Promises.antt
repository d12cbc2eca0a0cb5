-- The records of a write and a read on one state, by computation. Assumes nothing.
use mathlib.Core.Path.{refl}
use Rattle.definition.specs.cases.Lines.{lines_of}
use Rattle.definition.specs.cases.Promises.{Promises, NextPairs}

pub promises : Promises
unfolding lines_of
promises =
    record {
      written = record { answer = refl; pair = refl; bytes = refl; lengths = refl };
      user_written = record { answer = refl; pair = refl; bytes = refl; lengths = refl; user = refl };
      user_refused = record { answer = refl; pair = refl; bytes = refl; lengths = refl; user = refl };
      read = record { answer = refl; pair = refl; bytes = refl };
      bytes_read = record { answer = refl; pair = refl; user = refl };
      user_read = record { answer = refl; pair = refl; user = refl };
      user_unread = record { answer = refl; pair = refl; user = refl };
      changed = refl;
    }

pub next-pairs : NextPairs
unfolding lines_of
next-pairs =
    record {
      closed_queue = refl;
      closed_word = refl;
      told_of_close = refl;
      by_close = refl;
      by_read = refl;
      by_disposition = refl;
      by_shutdown = refl;
      peer_reading = refl;
      open_reading = refl;
      own_reading = refl;
    }
