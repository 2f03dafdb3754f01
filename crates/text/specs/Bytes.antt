-- Bytes: where a byte comes first, whether two lists of them are the same, and the fixed byte strings of a text.
use Rattle.std.specs.Prelude.{Bool, not, ◌&&◌, List, [], ◌∷◌, ℕ, eqb, length, get_or}
use Rattle.ground.specs.Least.{least, some}

-- "Every line .. ends with byte 10."
abbrev pub newline : ℕ
newline = 10

-- "one space"
abbrev pub space : ℕ
space = 32

-- the place of the first byte b in xs, or the length of xs where there is none
unfoldable pub seek : ℕ → List ℕ → ℕ
seek b xs = least (λ i. eqb (get_or xs i 0) b) (length xs)

-- xs and ys are as long as each other, and differ at no place
unfoldable pub same : List ℕ → List ℕ → Bool
same xs ys = eqb (length xs) (length ys) && not (some (λ i. not (eqb (get_or xs i 0) (get_or ys i 0))) (length xs))

-- `pma 1`
abbrev pub title_word : List ℕ
title_word = 112 ∷ 109 ∷ 97 ∷ 32 ∷ 49 ∷ []

-- `end` and a space
abbrev pub end_word : List ℕ
end_word = 101 ∷ 110 ∷ 100 ∷ 32 ∷ []
