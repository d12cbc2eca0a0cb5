-- The contracts of the calls in crates/host/src, as the checker reads them, are the promises that `Exported` cites; each export of crates/host_c has
-- the contract of the call that it makes. What a call ensures, at any arguments, any values at exit and any word returned, is the premise of its
-- case of `Exported`. Assumes nothing.
use Prim.Native.Nat.{ℕ}
use mathlib.Core.Path.{◌≡◌, refl}
use mathlib.Core.Bool.{Bool}
use mathlib.Core.List.{List}
use seplogic.Ra.Ura.{Ura}
use lib.IntN.{ℤ}
use base.Logic.{SProp}
use prog.Memory.{Memory}
use prog.Routine.{Routine}
use types.Logic.{Logic}
use contract.Monad.{Fun, fact}
use contract.Lifetimes.{Lfts}
use denote.Ref.{Bor, MutBor}
use denote.Triple.Entry.{Args, Res}
use denote.Triple.Clauses.{Ended, Clauses, Lasts, at_exit}
use Rattle.definition.specs.declared.Pair.{Pair}
use Rattle.definition_runs.specs.Exported.{packet_numbers, info_numbers, threshold_numbers, Recorded, Answered, slices_of, Signals}
use Rattle.host.specs.contracts.murgwethan_create as create
use Rattle.host.specs.contracts.murgwethan_write as write
use Rattle.host.specs.contracts.murgwethan_read as read
use Rattle.host.specs.contracts.murgwethan_set_disposition as set-disposition
use Rattle.host.specs.contracts.murgwethan_shutdown as shutdown
use Rattle.host.specs.contracts.murgwethan_set_read_threshold as set-read-threshold
use Rattle.host.specs.contracts.murgwethan_set_write_threshold as set-write-threshold
use Rattle.host.specs.contracts.murgwethan_wait as wait
use Rattle.host.specs.contracts.murgwethan_cancel as cancel
use Rattle.host.specs.contracts.murgwethan_close as close
use Rattle.host.specs.contracts.murgwethan_signal as signal
use Rattle.host.specs.contracts.records.murgwethan_thresholds as thresholds
use Rattle.host.specs.contracts.records.murgwethan_info as info
use Rattle.host.specs.contracts.records.murgwethan_take as take
use Rattle.host.specs.contracts.memory.murgwethan_user_write as user-write
use Rattle.host.specs.contracts.memory.murgwethan_user_read as user-read
use Rattle.host.specs.contracts.memory.murgwethan_user_set_disposition as user-set-disposition
use Rattle.host.specs.contracts.memory.murgwethan_user_shutdown as user-shutdown
use Rattle.definition.specs.Calls.{CreatesBy}
use Rattle.definition.specs.Disposition.{PlainDisposes, UserDisposes}
use Rattle.definition.specs.Shutdown.{Shuts, UserShuts}
use Rattle.definition.specs.Threshold.{SetsReadThreshold, SetsWriteThreshold, AsksThresholds}
use Rattle.definition.specs.Info.{AsksInfo}
use Rattle.definition.specs.Port.{Waits, Takes, Cancels}
use Rattle.definition.specs.Close.{Closes}
use Rattle.definition.specs.Write.{Writes, UserWrites}
use Rattle.definition.specs.Read.{Reads, UserReads}

module _ {M : Type 1} {𝓤 : Ura M} (𝓛 : Logic 𝓤) (at_mem : Memory → SProp 𝓤) (run : Routine → Fun 𝓤) where
  -- what a contract c ensures of the arguments a, the values ws at exit of the slices and references that are written, and the result
  abbrev Ensures : (T : Ended) (c : Clauses 𝓤 T) (κs : Lfts T.signature.lifetimes) (a : Args T.signature κs) → Lasts T κs a → (c κs a).ghost → Res T.signature κs → SProp 𝓤
  Ensures T c κs a ws g r = (c κs a).ensures g r (at_exit T κs a ws)

  create_ensures : (κs : Lfts 5) (p : MutBor Pair) (kind capacity rights1 rights2 : ℕ) (ring1 table1 ring2 table2 : Bor (List ℕ)) (p' : Pair) (w : ℤ)
      → Ensures create.ended (create.clauses 𝓛 at_mem run) κs (p, (kind, (capacity, (rights1, (rights2, (ring1, (table1, (ring2, (table2, tt))))))))) (p', (tt, (tt, (tt, (tt, (tt, (tt, (tt, (tt, tt))))))))) tt w ≡ fact 𝓤 (Answered (CreatesBy p.now (record { kind = kind; capacity = capacity; rights1 = rights1; rights2 = rights2 }) (slices_of ring1.now table1.now) (slices_of ring2.now table2.now)) p' w)
  create_ensures κs p kind capacity rights1 rights2 ring1 table1 ring2 table2 p' w = refl

  write_ensures : (κs : Lfts 4) (p : MutBor Pair) (h : ℕ) (ring table : MutBor (List ℕ)) (bytes : Bor (List ℕ)) (p' : Pair) (ring' table' : List ℕ) (w : ℤ)
      → Ensures write.ended (write.clauses 𝓛 at_mem run) κs (p, (h, (ring, (table, (bytes, tt))))) (p', (tt, (ring', (table', (tt, tt))))) tt w ≡ fact 𝓤 (Answered (Writes p.now h bytes.now ring.now ring' table.now table') p' w)
  write_ensures κs p h ring table bytes p' ring' table' w = refl

  read_ensures : (κs : Lfts 4) (p : MutBor Pair) (h : ℕ) (peek : Bool) (ring table : Bor (List ℕ)) (buffer : MutBor (List ℕ)) (p' : Pair) (buffer' : List ℕ) (w : ℤ)
      → Ensures read.ended (read.clauses 𝓛 at_mem run) κs (p, (h, (peek, (ring, (table, (buffer, tt)))))) (p', (tt, (tt, (tt, (tt, (buffer', tt)))))) tt w ≡ fact 𝓤 (Answered (Reads p.now h peek ring.now table.now buffer.now buffer') p' w)
  read_ensures κs p h peek ring table buffer p' buffer' w = refl

  set_disposition_ensures : (κs : Lfts 1) (p : MutBor Pair) (h a b : ℕ) (p' : Pair) (w : ℤ)
      → Ensures set-disposition.ended (set-disposition.clauses 𝓛 at_mem run) κs (p, (h, (a, (b, tt)))) (p', (tt, (tt, (tt, tt)))) tt w ≡ fact 𝓤 (Answered (PlainDisposes p.now h a b) p' w)
  set_disposition_ensures κs p h a b p' w = refl

  shutdown_ensures : (κs : Lfts 1) (p : MutBor Pair) (h : ℕ) (reading writing : Bool) (p' : Pair) (w : ℤ)
      → Ensures shutdown.ended (shutdown.clauses 𝓛 at_mem run) κs (p, (h, (reading, (writing, tt)))) (p', (tt, (tt, (tt, tt)))) tt w ≡ fact 𝓤 (Answered (Shuts p.now h reading writing) p' w)
  shutdown_ensures κs p h reading writing p' w = refl

  set_read_threshold_ensures : (κs : Lfts 1) (p : MutBor Pair) (h n : ℕ) (p' : Pair) (w : ℤ)
      → Ensures set-read-threshold.ended (set-read-threshold.clauses 𝓛 at_mem run) κs (p, (h, (n, tt))) (p', (tt, (tt, tt))) tt w ≡ fact 𝓤 (Answered (SetsReadThreshold p.now h n) p' w)
  set_read_threshold_ensures κs p h n p' w = refl

  set_write_threshold_ensures : (κs : Lfts 1) (p : MutBor Pair) (h n : ℕ) (p' : Pair) (w : ℤ)
      → Ensures set-write-threshold.ended (set-write-threshold.clauses 𝓛 at_mem run) κs (p, (h, (n, tt))) (p', (tt, (tt, tt))) tt w ≡ fact 𝓤 (Answered (SetsWriteThreshold p.now h n) p' w)
  set_write_threshold_ensures κs p h n p' w = refl

  wait_ensures : (κs : Lfts 1) (p : MutBor Pair) (h key mask edge : ℕ) (p' : Pair) (w : ℤ)
      → Ensures wait.ended (wait.clauses 𝓛 at_mem run) κs (p, (h, (key, (mask, (edge, tt))))) (p', (tt, (tt, (tt, (tt, tt))))) tt w ≡ fact 𝓤 (Answered (Waits p.now h key mask edge) p' w)
  wait_ensures κs p h key mask edge p' w = refl

  cancel_ensures : (κs : Lfts 1) (p : MutBor Pair) (h key : ℕ) (p' : Pair) (w : ℤ)
      → Ensures cancel.ended (cancel.clauses 𝓛 at_mem run) κs (p, (h, (key, tt))) (p', (tt, (tt, tt))) tt w ≡ fact 𝓤 (Answered (Cancels p.now h key) p' w)
  cancel_ensures κs p h key p' w = refl

  close_ensures : (κs : Lfts 1) (p : MutBor Pair) (h : ℕ) (p' : Pair) (w : ℤ)
      → Ensures close.ended (close.clauses 𝓛 at_mem run) κs (p, (h, tt)) (p', (tt, tt)) tt w ≡ fact 𝓤 (Answered (Closes p.now h) p' w)
  close_ensures κs p h p' w = refl

  signal_ensures : (κs : Lfts 1) (p : MutBor Pair) (h : ℕ) (p' : Pair) (w : ℤ)
      → Ensures signal.ended (signal.clauses 𝓛 at_mem run) κs (p, (h, tt)) (p', (tt, tt)) tt w ≡ fact 𝓤 (Signals p.now h p' w)
  signal_ensures κs p h p' w = refl

  thresholds_ensures : (κs : Lfts 2) (p : MutBor Pair) (h : ℕ) (out : MutBor (List ℕ)) (p' : Pair) (out' : List ℕ) (w : ℤ)
      → Ensures thresholds.ended (thresholds.clauses 𝓛 at_mem run) κs (p, (h, (out, tt))) (p', (tt, (out', tt))) tt w ≡ fact 𝓤 (Answered (Recorded threshold_numbers (AsksThresholds p.now h) out.now out') p' w)
  thresholds_ensures κs p h out p' out' w = refl

  info_ensures : (κs : Lfts 3) (p : MutBor Pair) (h : ℕ) (table : Bor (List ℕ)) (out : MutBor (List ℕ)) (p' : Pair) (out' : List ℕ) (w : ℤ)
      → Ensures info.ended (info.clauses 𝓛 at_mem run) κs (p, (h, (table, (out, tt)))) (p', (tt, (tt, (out', tt)))) tt w ≡ fact 𝓤 (Answered (Recorded info_numbers (AsksInfo p.now h table.now) out.now out') p' w)
  info_ensures κs p h table out p' out' w = refl

  take_ensures : (κs : Lfts 2) (p : MutBor Pair) (out : MutBor (List ℕ)) (p' : Pair) (out' : List ℕ) (w : ℤ)
      → Ensures take.ended (take.clauses 𝓛 at_mem run) κs (p, (out, tt)) (p', (out', tt)) tt w ≡ fact 𝓤 (Answered (Recorded packet_numbers (Takes p.now) out.now out') p' w)
  take_ensures κs p out p' out' w = refl

  user_write_ensures : (κs : Lfts 4) (p : MutBor Pair) (h o base : ℕ) (memory : MutBor (List ℕ)) (a n at : ℕ) (ring table : MutBor (List ℕ)) (p' : Pair) (memory' ring' table' : List ℕ) (w : ℤ)
      → Ensures user-write.ended (user-write.clauses 𝓛 at_mem run) κs (p, (h, (o, (base, (memory, (a, (n, (at, (ring, (table, tt)))))))))) (p', (tt, (tt, (tt, (memory', (tt, (tt, (tt, (ring', (table', tt)))))))))) tt w ≡ fact 𝓤 (Answered (UserWrites p.now h base o a n at memory.now memory' ring.now ring' table.now table') p' w)
  user_write_ensures κs p h o base memory a n at ring table p' memory' ring' table' w = refl

  user_read_ensures : (κs : Lfts 4) (p : MutBor Pair) (h o base : ℕ) (memory : MutBor (List ℕ)) (a n at : ℕ) (ring table : Bor (List ℕ)) (p' : Pair) (memory' : List ℕ) (w : ℤ)
      → Ensures user-read.ended (user-read.clauses 𝓛 at_mem run) κs (p, (h, (o, (base, (memory, (a, (n, (at, (ring, (table, tt)))))))))) (p', (tt, (tt, (tt, (memory', (tt, (tt, (tt, (tt, (tt, tt)))))))))) tt w ≡ fact 𝓤 (Answered (UserReads p.now h base o a n at ring.now table.now memory.now memory') p' w)
  user_read_ensures κs p h o base memory a n at ring table p' memory' w = refl

  user-set_disposition_ensures : (κs : Lfts 1) (p : MutBor Pair) (h a b : ℕ) (p' : Pair) (w : ℤ)
      → Ensures user-set-disposition.ended (user-set-disposition.clauses 𝓛 at_mem run) κs (p, (h, (a, (b, tt)))) (p', (tt, (tt, (tt, tt)))) tt w ≡ fact 𝓤 (Answered (UserDisposes p.now h a b) p' w)
  user-set_disposition_ensures κs p h a b p' w = refl

  user-shutdown_ensures : (κs : Lfts 1) (p : MutBor Pair) (h o : ℕ) (p' : Pair) (w : ℤ)
      → Ensures user-shutdown.ended (user-shutdown.clauses 𝓛 at_mem run) κs (p, (h, (o, tt))) (p', (tt, (tt, tt))) tt w ≡ fact 𝓤 (Answered (UserShuts p.now h o) p' w)
  user-shutdown_ensures κs p h o p' w = refl
