-- What the proofs of the functions share: the slices of a state that are lent, and a read over user memory. Assumes nothing.
use Prim.Native.Nat.{ℕ}
use mathlib.Core.Path.{◌≡◌, refl, ap}
use mathlib.Core.List.{List}
use Rattle.definition.specs.Status.{count_of}
use Rattle.definition.specs.declared.Pair.{Pair}
use Rattle.definition.specs.declared.Step.{Step}
use Rattle.definition.specs.Read.{bytes_landed, BytesRead, UserReads}
use Rattle.definition.specs.Calls.{Slices}
use Rattle.definition_runs.specs.Run.{did_read}
use Rattle.definition_runs.specs.Exported.{slices_of}
use Rattle.run_steps.specs.Code.{ReadLent}

pub rings : {l l' : Slices} → l ≡ l' → l.ring ≡ l'.ring
rings e = ap (λ (l : Slices). l.ring) e

pub tables : {l l' : Slices} → l ≡ l' → l.table ≡ l'.table
tables e = ap (λ (l : Slices). l.table) e

module _ {p : Pair} {h o a n at base : ℕ} {ring table memory memory' : List ℕ} {r : Step} where
  -- from what its two parts ensure
  pub in_parts : {landed : List ℕ}
      → BytesRead p h base o a n at ring table memory landed r
      → UserReads p h base o a n at ring table memory memory' r
      → ReadLent p h o a n at (slices_of ring table) base memory memory' r
  in_parts {landed} b u =
      record {
        landed = landed;
        bytes = b;
        step = λ one two e. did_read (rw (← rings e, ← tables e) at b) (rw (← rings e, ← tables e) at u);
      }

  -- from what the whole ensures: the memory before its count is the one that its contract computes with
  pub in_whole : UserReads p h base o a n at ring table memory memory' r → ReadLent p h o a n at (slices_of ring table) base memory memory' r
  in_whole u =
      in_parts {landed = bytes_landed p h base a (count_of r.answer) ring memory} (record { answer = u.answer; pair = u.pair; user = refl }) u
