-- A buffer whose bytes went to the front. 01 "Script program" is over the bytes of a script alone; a program that reads them in blocks moves those that are
-- left.
use Rattle.std.specs.Prelude.{ℕ, ◌-◌, List, ◌++◌, take, drop, length, leb}
use Rattle.definition.specs.Status.{pick, ◌and◌}

-- n bytes from a place on go to the front
unfoldable pub moved : (from n : ℕ) → (buffer : List ℕ) → List ℕ
moved from n buffer = take n (drop from buffer) ++ drop n buffer

-- those from one place to another, where both lie in the list in this order
unfoldable pub shifted : (from to : ℕ) → (buffer : List ℕ) → List ℕ
shifted from to buffer = pick (leb from to and leb to (length buffer)) (moved from (to - from) buffer) buffer
