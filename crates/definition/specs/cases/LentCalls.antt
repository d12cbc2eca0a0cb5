-- The calls that are lent slices, with their rows: each with either handle, by a caller and with a peer that is open or closed. C = 8.
-- 01 "Status and answer word".
use Rattle.std.specs.Prelude.{ℕ, Bool, true, false, List, [], ◌∷◌, ◌++◌, map, ℤ, pos, neg_ℤ}
use Rattle.definition.specs.declared.Queue.{Queue}
use Rattle.definition.specs.declared.Endpoint.{Endpoint}
use Rattle.definition.specs.Calls.{Call, Slices, state, write, plain_write, read, plain_read, get_info, control, State, set_disposition, shutdown, plain_disposition, plain_shutdown, set_read_threshold, set_write_threshold, get_thresholds, wait, take_packet, cancel, close}
use Rattle.definition.specs.cases.States.{queued, pair_of_eight, Row, row, none, opened, lent_slices, refused_with}

-- ---- calls that are lent a slice

-- a call by handle 1 and by handle 2, on a pair with bytes queued at both ends: the caller's end and the peer, each open or closed, and their slices
abbrev pub each : (caller peer : Queue → Endpoint) → (datagram : Bool) → (own other : Slices) → ℤ → (ℕ → Call) → List Row
each caller peer dg l l' n call =
    row (state (pair_of_eight dg (caller (queued dg)) (peer (queued dg))) l l') (call 1) n
    ∷ row (state (pair_of_eight dg (peer (queued dg)) (caller (queued dg))) l' l) (call 2) n
    ∷ []

-- a write of 3 bytes, plain and over user memory, which is lent slices of the peer and none of its own; to an open peer, and to a closed one
abbrev pub writes_to : (caller peer : Queue → Endpoint) → (datagram : Bool) → Slices → ℤ → List Row
writes_to caller peer dg l n = each caller peer dg none l n plain_write ++ each caller peer dg none l n (λ h. write h 0 4096 3 0)

abbrev pub writes : (Queue → Endpoint) → (datagram : Bool) → Slices → ℤ → List Row
writes caller dg l n = writes_to caller opened dg l n

-- a read or peek into 3 bytes, which is lent its own slices and none of the peer's
abbrev pub reads : (Queue → Endpoint) → (datagram : Bool) → Slices → ℤ → List Row
reads caller dg l n =
    each caller opened dg l none n (λ h. plain_read h false) ++ each caller opened dg l none n (λ h. plain_read h true)
    ++ each caller opened dg l none n (λ h. read h 0 4096 3 0) ++ each caller opened dg l none n (λ h. read h 8 4096 3 0)

-- an info, which is lent its own table
abbrev pub infos : (Queue → Endpoint) → (datagram : Bool) → (table : List ℕ) → ℤ → List Row
infos caller dg t n = each caller opened dg (lent_slices 0 t) none n (λ h. control (get_info h))

-- done with n; refused with −n
abbrev pub done_word : ℕ → ℤ
done_word n = pos n

abbrev pub refused_word : ℕ → ℤ
refused_word n = neg_ℤ (pos n)

-- ---- calls by which no slice is tested

-- the same slices at either end, with these queues
abbrev pub lent : (datagram : Bool) → Queue → Slices → State
lent dg q l = state (pair_of_eight dg (opened q) (opened q)) l l

-- a handle other than 1 or 2 names no end, so that no slice is tested; the arguments over user memory come before the handle
abbrev pub no_such_end : State → List Row
no_such_end s =
    refused_with s (plain_write 3) 11 ∷ refused_with s (write 0 0 4096 3 0) 11 ∷ refused_with s (write 3 1 4096 3 0) 10 ∷ refused_with s (plain_read 0 false) 11 ∷ refused_with s (read 3 0 4096 3 0) 11
    ∷ refused_with s (read 3 1 4096 3 0) 10 ∷ refused_with s (control (get_info 3)) 11
    ∷ []

-- the calls that are lent no slice, and are done here
abbrev pub other_calls : (h : ℕ) → List Call
other_calls h =
    close h
    ∷ map control
    (set_disposition h 0 0 ∷ shutdown h 3 ∷ plain_disposition h 0 0 ∷ plain_shutdown h true true ∷ set_read_threshold h 8
    ∷ set_write_threshold h 8 ∷ get_thresholds h ∷ wait h 1 1 1 ∷ [])

-- the same of take and cancel, which find nothing here
abbrev pub other_refusals : State → List Row
other_refusals s = refused_with s (control take_packet) 22 ∷ refused_with s (control (cancel 1 1)) 25 ∷ refused_with s (control (cancel 2 1)) 25 ∷ []
