-- The worked example of 01 and what stops or ends a script, as bytes and the bytes of their listings. 01 "Script program", 02 (i).
use Rattle.std.specs.Prelude.{ℕ, List, [], ◌∷◌, ◌++◌, map, ◌≡◌, length}
use Rattle.definition.specs.Memory.{little_endian}
use Rattle.definition_script.specs.Listing.{listing, header}

-- ---- records as bytes

abbrev n4 : ℕ → List ℕ
n4 n = little_endian 4 n

abbrev n8 : ℕ → List ℕ
n8 n = little_endian 8 n

-- a record: its tag, the length of its body, its body
abbrev pub entry : (tag : ℕ) → (body : List ℕ) → List ℕ
entry tag b = tag ∷ (little_endian 2 (length b) ++ b)

-- create with C = 8 and all rights; 13 bytes
abbrev creates : (kind : ℕ) → List ℕ
creates kind = entry 0 (n4 kind ++ (n4 8 ++ (7 ∷ 7 ∷ [])))

abbrev moves : (tag handle options address count countAt : ℕ) → List ℕ
moves tag h o a n at = entry tag (n4 h ++ (n4 o ++ (n8 a ++ (n8 n ++ n8 at))))

abbrev write : (handle n : ℕ) → List ℕ
write h n = moves 1 h 0 65536 n 0

abbrev fill : (address : ℕ) → (bytes : List ℕ) → List ℕ
fill a bs = entry 11 (n8 a ++ bs)

abbrev abc : List ℕ
abc = 97 ∷ 98 ∷ 99 ∷ []

abbrev take : List ℕ
take = entry 10 []

-- ---- scripts and their listings

-- a script, and what its listing has behind the header
pub record Case : Type 0 where
  pub script : List ℕ
  pub text : List ℕ

abbrev lists : (script text : List ℕ) → Case
lists s t = record { script = s; text = t }

-- the worked example
abbrev example : List ℕ
example =
    creates 0
    ++ (entry 9 (n4 2 ++ (n8 5 ++ (n4 1 ++ (0 ∷ []))))
    ++ (fill 65536 abc
    ++ (write 1 3
    ++ (take
    ++ (moves 2 2 0 65600 2 0
    ++ (entry 8 (n4 2)
    ++ write 1 3))))))

-- 0 0 00000002 00000002
abbrev line0 : List ℕ
line0 = 48 ∷ 32 ∷ 48 ∷ 32 ∷ 48 ∷ 48 ∷ 48 ∷ 48 ∷ 48 ∷ 48 ∷ 48 ∷ 50 ∷ 32 ∷ 48 ∷ 48 ∷ 48 ∷ 48 ∷ 48 ∷ 48 ∷ 48 ∷ 50 ∷ 10 ∷ []

-- 1 0 00000002 00000002
abbrev line1 : List ℕ
line1 = 49 ∷ 32 ∷ 48 ∷ 32 ∷ 48 ∷ 48 ∷ 48 ∷ 48 ∷ 48 ∷ 48 ∷ 48 ∷ 50 ∷ 32 ∷ 48 ∷ 48 ∷ 48 ∷ 48 ∷ 48 ∷ 48 ∷ 48 ∷ 50 ∷ 10 ∷ []

-- 2 3 00000002 00000002
abbrev line2 : List ℕ
line2 = 50 ∷ 32 ∷ 51 ∷ 32 ∷ 48 ∷ 48 ∷ 48 ∷ 48 ∷ 48 ∷ 48 ∷ 48 ∷ 50 ∷ 32 ∷ 48 ∷ 48 ∷ 48 ∷ 48 ∷ 48 ∷ 48 ∷ 48 ∷ 50 ∷ 10 ∷ []

-- 3 3 00000002 00000003
abbrev line3 : List ℕ
line3 = 51 ∷ 32 ∷ 51 ∷ 32 ∷ 48 ∷ 48 ∷ 48 ∷ 48 ∷ 48 ∷ 48 ∷ 48 ∷ 50 ∷ 32 ∷ 48 ∷ 48 ∷ 48 ∷ 48 ∷ 48 ∷ 48 ∷ 48 ∷ 51 ∷ 10 ∷ []

-- 4 0 00000002 00000003 0000000000000005 00000001 00000003
abbrev line4 : List ℕ
line4 = 52 ∷ 32 ∷ 48 ∷ 32 ∷ 48 ∷ 48 ∷ 48 ∷ 48 ∷ 48 ∷ 48 ∷ 48 ∷ 50 ∷ 32 ∷ 48 ∷ 48 ∷ 48 ∷ 48 ∷ 48 ∷ 48 ∷ 48 ∷ 51 ∷ 32 ∷ 48 ∷ 48 ∷ 48 ∷ 48 ∷ 48 ∷ 48 ∷ 48 ∷ 48 ∷ 48 ∷ 48 ∷ 48 ∷ 48 ∷ 48 ∷ 48 ∷ 48 ∷ 53 ∷ 32 ∷ 48 ∷ 48 ∷ 48 ∷ 48 ∷ 48 ∷ 48 ∷ 48 ∷ 49 ∷ 32 ∷ 48 ∷ 48 ∷ 48 ∷ 48 ∷ 48 ∷ 48 ∷ 48 ∷ 51 ∷ 10 ∷ []

-- 5 2 00000002 00000003 6162
abbrev line5 : List ℕ
line5 = 53 ∷ 32 ∷ 50 ∷ 32 ∷ 48 ∷ 48 ∷ 48 ∷ 48 ∷ 48 ∷ 48 ∷ 48 ∷ 50 ∷ 32 ∷ 48 ∷ 48 ∷ 48 ∷ 48 ∷ 48 ∷ 48 ∷ 48 ∷ 51 ∷ 32 ∷ 54 ∷ 49 ∷ 54 ∷ 50 ∷ 10 ∷ []

-- 6 0 00000004 -
abbrev line6 : List ℕ
line6 = 54 ∷ 32 ∷ 48 ∷ 32 ∷ 48 ∷ 48 ∷ 48 ∷ 48 ∷ 48 ∷ 48 ∷ 48 ∷ 52 ∷ 32 ∷ 45 ∷ 10 ∷ []

-- 7 -24 00000004 -
abbrev line7 : List ℕ
line7 = 55 ∷ 32 ∷ 45 ∷ 50 ∷ 52 ∷ 32 ∷ 48 ∷ 48 ∷ 48 ∷ 48 ∷ 48 ∷ 48 ∷ 48 ∷ 52 ∷ 32 ∷ 45 ∷ 10 ∷ []

-- 0 -10 - -
abbrev refused_create : List ℕ
refused_create = 48 ∷ 32 ∷ 45 ∷ 49 ∷ 48 ∷ 32 ∷ 45 ∷ 32 ∷ 45 ∷ 10 ∷ []

-- stop 0
abbrev stop0 : List ℕ
stop0 = 115 ∷ 116 ∷ 111 ∷ 112 ∷ 32 ∷ 48 ∷ 10 ∷ []

-- stop 13
abbrev stop13 : List ℕ
stop13 = 115 ∷ 116 ∷ 111 ∷ 112 ∷ 32 ∷ 49 ∷ 51 ∷ 10 ∷ []

-- stop 20
abbrev stop20 : List ℕ
stop20 = 115 ∷ 116 ∷ 111 ∷ 112 ∷ 32 ∷ 50 ∷ 48 ∷ 10 ∷ []

-- 1 3 00000002 00000002
abbrev filled_line : List ℕ
filled_line = 49 ∷ 32 ∷ 51 ∷ 32 ∷ 48 ∷ 48 ∷ 48 ∷ 48 ∷ 48 ∷ 48 ∷ 48 ∷ 50 ∷ 32 ∷ 48 ∷ 48 ∷ 48 ∷ 48 ∷ 48 ∷ 48 ∷ 48 ∷ 50 ∷ 10 ∷ []

-- 1 -10 00000002 00000002
abbrev not_filled : List ℕ
not_filled = 49 ∷ 32 ∷ 45 ∷ 49 ∷ 48 ∷ 32 ∷ 48 ∷ 48 ∷ 48 ∷ 48 ∷ 48 ∷ 48 ∷ 48 ∷ 50 ∷ 32 ∷ 48 ∷ 48 ∷ 48 ∷ 48 ∷ 48 ∷ 48 ∷ 48 ∷ 50 ∷ 10 ∷ []

-- 2 3 00000002 00000003
abbrev wrote3 : List ℕ
wrote3 = 50 ∷ 32 ∷ 51 ∷ 32 ∷ 48 ∷ 48 ∷ 48 ∷ 48 ∷ 48 ∷ 48 ∷ 48 ∷ 50 ∷ 32 ∷ 48 ∷ 48 ∷ 48 ∷ 48 ∷ 48 ∷ 48 ∷ 48 ∷ 51 ∷ 10 ∷ []

-- 3 0 00000002 00000003 1 8 3 3 8 0
abbrev datagram_info : List ℕ
datagram_info = 51 ∷ 32 ∷ 48 ∷ 32 ∷ 48 ∷ 48 ∷ 48 ∷ 48 ∷ 48 ∷ 48 ∷ 48 ∷ 50 ∷ 32 ∷ 48 ∷ 48 ∷ 48 ∷ 48 ∷ 48 ∷ 48 ∷ 48 ∷ 51 ∷ 32 ∷ 49 ∷ 32 ∷ 56 ∷ 32 ∷ 51 ∷ 32 ∷ 51 ∷ 32 ∷ 56 ∷ 32 ∷ 48 ∷ 10 ∷ []

-- 3 3 00000002 00000003 616263
abbrev peeked : List ℕ
peeked = 51 ∷ 32 ∷ 51 ∷ 32 ∷ 48 ∷ 48 ∷ 48 ∷ 48 ∷ 48 ∷ 48 ∷ 48 ∷ 50 ∷ 32 ∷ 48 ∷ 48 ∷ 48 ∷ 48 ∷ 48 ∷ 48 ∷ 48 ∷ 51 ∷ 32 ∷ 54 ∷ 49 ∷ 54 ∷ 50 ∷ 54 ∷ 51 ∷ 10 ∷ []

-- 4 3 00000002 00000002 616263
abbrev read_all : List ℕ
read_all = 52 ∷ 32 ∷ 51 ∷ 32 ∷ 48 ∷ 48 ∷ 48 ∷ 48 ∷ 48 ∷ 48 ∷ 48 ∷ 50 ∷ 32 ∷ 48 ∷ 48 ∷ 48 ∷ 48 ∷ 48 ∷ 48 ∷ 48 ∷ 50 ∷ 32 ∷ 54 ∷ 49 ∷ 54 ∷ 50 ∷ 54 ∷ 51 ∷ 10 ∷ []

-- 5 -22 00000002 00000002
abbrev read_again : List ℕ
read_again = 53 ∷ 32 ∷ 45 ∷ 50 ∷ 50 ∷ 32 ∷ 48 ∷ 48 ∷ 48 ∷ 48 ∷ 48 ∷ 48 ∷ 48 ∷ 50 ∷ 32 ∷ 48 ∷ 48 ∷ 48 ∷ 48 ∷ 48 ∷ 48 ∷ 48 ∷ 50 ∷ 10 ∷ []

-- 1 0 00000004 -
abbrev closed2 : List ℕ
closed2 = 49 ∷ 32 ∷ 48 ∷ 32 ∷ 48 ∷ 48 ∷ 48 ∷ 48 ∷ 48 ∷ 48 ∷ 48 ∷ 52 ∷ 32 ∷ 45 ∷ 10 ∷ []

-- 2 1 00000002 00000002
abbrev cancelled_one : List ℕ
cancelled_one = 50 ∷ 32 ∷ 49 ∷ 32 ∷ 48 ∷ 48 ∷ 48 ∷ 48 ∷ 48 ∷ 48 ∷ 48 ∷ 50 ∷ 32 ∷ 48 ∷ 48 ∷ 48 ∷ 48 ∷ 48 ∷ 48 ∷ 48 ∷ 50 ∷ 10 ∷ []

-- 3 -25 00000002 00000002
abbrev cancelled_none : List ℕ
cancelled_none = 51 ∷ 32 ∷ 45 ∷ 50 ∷ 53 ∷ 32 ∷ 48 ∷ 48 ∷ 48 ∷ 48 ∷ 48 ∷ 48 ∷ 48 ∷ 50 ∷ 32 ∷ 48 ∷ 48 ∷ 48 ∷ 48 ∷ 48 ∷ 48 ∷ 48 ∷ 50 ∷ 10 ∷ []

-- a wait for PEER_CLOSED; a cancel
abbrev wait : (handle key : ℕ) → List ℕ
wait h key = entry 9 (n4 h ++ (n8 key ++ (n4 4 ++ (0 ∷ []))))

abbrev cancel : (handle key : ℕ) → List ℕ
cancel h key = entry 12 (n4 h ++ n8 key)

unfoldable pub cases : List Case
cases =
    lists example (line0 ++ (line1 ++ (line2 ++ (line3 ++ (line4 ++ (line5 ++ (line6 ++ line7)))))))
    -- empty input
    ∷ lists [] []
    -- a refused create ends the script, whatever follows
    ∷ lists (creates 2 ++ take) refused_create
    -- a first record that is not create, a second create, a tag of 13, a wrong length, a cut record: the offset of its tag
    ∷ lists (take ++ creates 0) stop0
    ∷ lists (creates 0 ++ (creates 0 ++ take)) (line0 ++ stop13)
    ∷ lists (creates 0 ++ (entry 13 (n4 1 ++ n8 5) ++ take)) (line0 ++ stop13)
    ∷ lists (creates 0 ++ (entry 8 (2 ∷ []) ++ take)) (line0 ++ stop13)
    ∷ lists (creates 0 ++ (entry 8 (n4 2) ++ (1 ∷ 32 ∷ []))) (line0 ++ (closed2 ++ stop20))
    -- a fill below memory; a fill, a write, and info of the end that it went to
    ∷ lists (creates 0 ++ fill 65535 abc) (line0 ++ not_filled)
    ∷ lists (creates 1 ++ (fill 65536 abc ++ (write 1 3 ++ entry 7 (n4 2)))) (line0 ++ (filled_line ++ (wrote3 ++ datagram_info)))
    -- a wait, its cancel, and a cancel that finds nothing: the key has two halves; the handle is the record's
    ∷ lists (creates 0 ++ (wait 1 0x700000005 ++ (cancel 1 0x700000005 ++ cancel 1 0x700000005))) (line0 ++ (line1 ++ (cancelled_one ++ cancelled_none)))
    ∷ lists (creates 0 ++ (wait 2 5 ++ (cancel 2 5 ++ cancel 1 5))) (line0 ++ (line1 ++ (cancelled_one ++ cancelled_none)))
    -- a peek, and a read whose count lands over its bytes; then nothing is queued
    ∷ lists (creates 0 ++ (fill 65536 abc ++ (write 1 3 ++ (moves 2 2 8 65600 3 0 ++ (moves 2 2 0 65600 8 65601 ++ moves 2 2 0 65600 8 0)))))
    (line0 ++ (filled_line ++ (wrote3 ++ (peeked ++ (read_all ++ read_again)))))
    ∷ []

pub record Listings : Type 0 where
  pub listings : map (λ (c : Case). listing c.script) cases ≡ map (λ (c : Case). header ++ c.text) cases
