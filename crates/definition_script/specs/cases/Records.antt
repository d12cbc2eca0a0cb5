-- Records at the edges of their tags and lengths, and numbers as text. 01 "Script program", tag and body; line.
use Rattle.std.specs.Prelude.{ℕ, Bool, true, false, List, [], ◌∷◌, map, ◌≡◌, pos, neg_ℤ, replicate}
use Rattle.definition_script.specs.declared.Decoded.TheVariants.{Whole, Bad, Cut}
use Rattle.definition_script.specs.Record.{is_body, record_of, eight}
use Rattle.definition_script.specs.Line.{decimal_of, hex_of, hex_bytes_of, signed_of, stop_of}

-- a tag and a length
pub record Body : Type 0 where
  pub tag : ℕ
  pub length : ℕ

abbrev body : (tag length : ℕ) → Body
body tag n = record { tag = tag; length = n }

-- the lengths that each tag takes
abbrev right : List Body
right =
    body 0 10 ∷ body 1 32 ∷ body 2 32 ∷ body 3 12 ∷ body 4 8 ∷ body 5 12 ∷ body 6 12 ∷ body 7 4 ∷ body 8 4 ∷ body 9 17 ∷ body 10 0 ∷ body 11 9
    ∷ body 11 4104 ∷ body 12 12
    ∷ []

-- others beside them; tags of 13 and more take none
abbrev wrong : List Body
wrong =
    body 0 9 ∷ body 0 11 ∷ body 1 31 ∷ body 2 33 ∷ body 3 8 ∷ body 4 12 ∷ body 5 8 ∷ body 6 16 ∷ body 7 0 ∷ body 8 8 ∷ body 9 16 ∷ body 10 1 ∷ body 11 8
    ∷ body 11 4105 ∷ body 12 8 ∷ body 12 17 ∷ body 13 0 ∷ body 13 4 ∷ body 13 8 ∷ body 13 9 ∷ body 13 10 ∷ body 13 12 ∷ body 13 17 ∷ body 13 32 ∷ body 255 9
    ∷ []

abbrev takes : List Body → List Bool
takes bs = map (λ (b : Body). is_body b.tag b.length) bs

pub record Records : Type 0 where
  pub right : takes right ≡ replicate 14 true
  pub wrong : takes wrong ≡ replicate 25 false
  -- a whole record, cut ones, and one that no further bytes make good
  pub whole : record_of (8 ∷ 4 ∷ 0 ∷ 2 ∷ 0 ∷ 0 ∷ 0 ∷ 9 ∷ []) ≡ Whole 8 4
  pub cut : record_of (8 ∷ 4 ∷ 0 ∷ 2 ∷ 0 ∷ 0 ∷ []) ≡ Cut
  pub cut_length : record_of (13 ∷ 4 ∷ []) ≡ Cut
  pub bad : record_of (13 ∷ 4 ∷ 0 ∷ []) ≡ Bad
  -- a length of two bytes, and a field of eight, the lowest first
  pub long : record_of (11 ∷ 9 ∷ 1 ∷ []) ≡ Cut
  pub field : eight (0 ∷ 1 ∷ 2 ∷ 0 ∷ 0 ∷ 3 ∷ 0 ∷ 0 ∷ 128 ∷ []) 1 ≡ 9223372049739678209

pub record Texts : Type 0 where
  -- 0, 10, 99 and 100, and the largest number of 64 bits
  pub zero : decimal_of 0 ≡ 48 ∷ []
  pub ten : decimal_of 10 ≡ 49 ∷ 48 ∷ []
  pub ninety_nine : decimal_of 99 ≡ 57 ∷ 57 ∷ []
  pub hundred : decimal_of 100 ≡ 49 ∷ 48 ∷ 48 ∷ []
  pub largest : decimal_of 18446744073709551615 ≡ 49 ∷ 56 ∷ 52 ∷ 52 ∷ 54 ∷ 55 ∷ 52 ∷ 52 ∷ 48 ∷ 55 ∷ 51 ∷ 55 ∷ 48 ∷ 57 ∷ 53 ∷ 53 ∷ 49 ∷ 54 ∷ 49 ∷ 53 ∷ []
  -- −1 and −24
  pub minus_one : signed_of (neg_ℤ (pos 1)) ≡ 45 ∷ 49 ∷ []
  pub minus24 : signed_of (neg_ℤ (pos 24)) ≡ 45 ∷ 50 ∷ 52 ∷ []
  -- hexadecimal digits are small letters, as many as asked for
  pub hex : hex_of 8 0x9fa0c13 ≡ 48 ∷ 57 ∷ 102 ∷ 97 ∷ 48 ∷ 99 ∷ 49 ∷ 51 ∷ []
  pub hex_bytes : hex_bytes_of (10 ∷ 255 ∷ []) ≡ 48 ∷ 97 ∷ 102 ∷ 102 ∷ []
  -- `stop 45` and a newline
  pub stop : stop_of 45 ≡ 115 ∷ 116 ∷ 111 ∷ 112 ∷ 32 ∷ 52 ∷ 53 ∷ 10 ∷ []
