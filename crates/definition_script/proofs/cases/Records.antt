-- The tables of records and of numbers as text, by computation. Assumes nothing.
use mathlib.Core.Path.{refl}
use Rattle.definition.specs.cases.Lines.{lines_of}
use Rattle.definition_script.specs.Record.{is_body, record_of}
use Rattle.definition_script.specs.Line.{digit_of, digits_of, width_by, width_of, decimal_of, hex_of, hex_bytes_of, signed_of, stop_of}
use Rattle.definition_script.specs.cases.Records.{Records, Texts}

pub records : Records
unfolding lines_of is_body record_of
records = record { right = refl; wrong = refl; whole = refl; cut = refl; cut_length = refl; bad = refl; long = refl; field = refl }

pub texts : Texts
unfolding lines_of digit_of digits_of width_by width_of decimal_of hex_of hex_bytes_of signed_of stop_of
texts =
    record { zero = refl; ten = refl; ninety_nine = refl; hundred = refl; largest = refl; minus_one = refl; minus24 = refl; hex = refl; hex_bytes = refl; stop = refl }
