-- Create at the edges of its arguments. 01 "Status and answer word", create.
use Rattle.std.specs.Prelude.{List, [], ◌∷◌, map, ◌≡◌, ℤ, pos, neg_ℤ, replicate}
use Rattle.definition.specs.Status.{answer_word}
use Rattle.definition.specs.Create.{create_answer}
use Rattle.definition.specs.cases.Lines.{lines_of}

-- each line: kind, C, the rights of end 1 and of end 2, then the lengths of the ring and the table of end 1 and of end 2

unfoldable pub done_words : List ℤ
unfolding lines_of
done_words =
    map answer_word
    -- the kinds, the smallest and the largest C, rights, slices of C entries and longer ones; streams need no table
    (create_answer 0 8 7 7 8 0 8 0
    ∷ create_answer 1 8 7 7 8 8 8 8
    ∷ create_answer 0 1 0 7 1 0 1 0
    ∷ create_answer 1 1 7 0 1 1 1 1
    ∷ create_answer 0 262144 7 7 262144 0 262144 0
    ∷ create_answer 1 262144 7 7 262144 262144 262144 262144
    ∷ create_answer 1 8 0 0 9 9 9 9
    ∷ [])

unfoldable pub refused_words : List ℤ
unfolding lines_of
refused_words =
    map answer_word
    -- the kind
    (create_answer 2 8 7 7 8 8 8 8
    -- C
    ∷ create_answer 0 0 7 7 8 8 8 8
    ∷ create_answer 1 0 7 7 8 8 8 8
    ∷ create_answer 0 262145 7 7 262145 0 262145 0
    ∷ create_answer 1 262145 7 7 262145 262145 262145 262145
    -- the rights
    ∷ create_answer 0 8 8 7 8 8 8 8
    ∷ create_answer 0 8 7 8 8 8 8 8
    -- a short ring, at either end
    ∷ create_answer 0 8 7 7 7 8 8 8
    ∷ create_answer 0 8 7 7 8 8 7 8
    ∷ create_answer 1 8 7 7 7 8 8 8
    ∷ create_answer 1 8 7 7 8 8 7 8
    -- a short table, at either end
    ∷ create_answer 1 8 7 7 8 7 8 8
    ∷ create_answer 1 8 7 7 8 8 8 7
    ∷ [])

pub record CreateArguments : Type 0 where
  pub done : done_words ≡ replicate 7 (pos 0)
  pub refused : refused_words ≡ replicate 13 (neg_ℤ (pos 10))
