-- The table of copies, by computation. Assumes nothing.
use mathlib.Core.Path.{refl}
use Rattle.definition.specs.Status.{pick}
use Rattle.definition.specs.Ring.{position, front, put, front_modulo, put_modulo, next_position}
use Rattle.definition.specs.cases.Copies.{CopyCases, copy_rows}

pub copies_in_order : CopyCases
unfolding copy_rows position front put front_modulo put_modulo next_position pick
copies_in_order =
    record {
      out = refl;
      out_modulo = refl;
      into = refl;
      into_modulo = refl;
      into_past = refl;
      places = refl;
      from_first = refl;
      steps = refl;
      one_entry = refl;
    }
