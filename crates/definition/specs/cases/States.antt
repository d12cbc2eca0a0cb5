-- Single calls on states that are written down whole, with C = 8: what such a state is made of, and the word that a call on it answers.
-- 01 "Status and answer word".
use Rattle.std.specs.Prelude.{ℕ, Bool, false, true, List, [], ◌∷◌, replicate, ℤ, pos, neg_ℤ}
use Rattle.definition.specs.declared.Queue.{Queue}
use Rattle.definition.specs.declared.Endpoint.{Endpoint}
use Rattle.definition.specs.declared.Pair.{Pair}
use Rattle.definition.specs.Port.{free}
use Rattle.definition.specs.Calls.{Slices, Call, Input, input, State}
use Rattle.definition.specs.cases.Lines.{word_answered}

-- ---- states

abbrev pub on_stream : Bool
on_stream = false

abbrev pub on_datagram : Bool
on_datagram = true

-- ring start and bytes, table start and lengths
abbrev pub queue : (start count first lengths : ℕ) → Queue
queue start count first lengths = record { bytes = record { start = start; count = count }; lengths = record { start = first; count = lengths } }

abbrev pub empty_queue : Queue
empty_queue = queue 0 0 0 0

-- 3 bytes from place 7 on; on a datagram pair they are one datagram, whose length is at place 7
abbrev pub queued : (on_datagram : Bool) → Queue
queued true = queue 7 3 7 1
queued false = queue 7 3 0 0

abbrev pub end : (closed_with : Bool) → (signals : ℕ) → Queue → Endpoint
end closed_with signals q =
    record { closed = closed_with; read_disabled = false; rights = 7; signals = signals; thresholds = record { read = 0; write = 0 }; queue = q }

-- an open end that is WRITABLE, and a closed one
abbrev pub opened : Queue → Endpoint
opened q = end false 2 q

abbrev pub closed_with : Queue → Endpoint
closed_with q = end true 2 q

abbrev pub pair : (on_datagram : Bool) → (C packets waits : ℕ) → (one two : Endpoint) → Pair
pair dg C packets waits one two =
    record { datagram = dg; spare1 = 0; spare2 = 0; capacity = C; one = one; two = two; places = record { packets = packets; waits = waits; table = replicate 128 free } }

-- with C = 8, and no place used
abbrev pub pair_of_eight : (on_datagram : Bool) → (one two : Endpoint) → Pair
pair_of_eight dg one two = pair dg 8 0 0 one two

-- a ring of so many bytes, and a table
abbrev pub lent_slices : (ring : ℕ) → (table : List ℕ) → Slices
lent_slices ring table = record { ring = replicate ring 0; table = table }

abbrev pub none : Slices
none = lent_slices 0 []

-- a table whose entry 7 is the first length where it starts at 7; and ring and table for the queues above
abbrev pub first : ℕ → List ℕ
first n = 5 ∷ 5 ∷ 5 ∷ 5 ∷ 5 ∷ 5 ∷ 5 ∷ n ∷ []

abbrev pub long : Slices
long = lent_slices 8 (first 3)

-- ---- calls

-- what a call finds: 3 bytes of user memory at 4096, or a plain slice of 3
abbrev pub finding : Call → Input
finding c = input c 4096 (1 ∷ 2 ∷ 3 ∷ [])

pub record Row : Type 0 where
  pub at : State
  pub call : Call
  pub word : ℤ

abbrev pub row : State → Call → ℤ → Row
row s c n = record { at = s; call = c; word = n }

-- done with n; refused with −n
abbrev pub is : State → Call → (n : ℕ) → Row
is s c n = row s c (pos n)

abbrev pub refused_with : State → Call → (n : ℕ) → Row
refused_with s c n = row s c (neg_ℤ (pos n))

unfoldable pub row_word : Row → ℤ
unfolding word_answered
row_word r = word_answered r.at (finding r.call)
