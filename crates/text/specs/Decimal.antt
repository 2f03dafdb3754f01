-- Decimal numbers: "Numbers are decimal, 1 to 8 digits, with no leading zero but `0` itself."
use Rattle.std.specs.Prelude.{Bool, not, ◌&&◌, List, [], ◌∷◌, ℕ, ◌+◌, ◌-◌, ◌*◌, ltb, eqb, length, get_or}
use Rattle.ground.specs.Least.{some}
use Rattle.ground.specs.Judging.{outside}

-- "1 to 8 digits"
abbrev pub max_digits : ℕ
max_digits = 8

-- the digits `0` and `9`
abbrev pub naught : ℕ
naught = 48

abbrev pub nine : ℕ
nine = 57

-- b is no digit
unfoldable pub is_other : ℕ → Bool
is_other b = outside naught nine b

-- each byte is a digit
unfoldable pub all_digits : List ℕ → Bool
all_digits bs = not (some (λ i. is_other (get_or bs i 0)) (length bs))

-- `0` before another digit
unfoldable pub leading_zero : List ℕ → Bool
leading_zero bs = ltb 1 (length bs) && eqb (get_or bs 0 0) naught

-- "decimal, 1 to 8 digits, with no leading zero but `0` itself"
unfoldable pub is_decimal : List ℕ → Bool
is_decimal bs = not (outside 1 max_digits (length bs)) && (not (leading_zero bs) && all_digits bs)

-- the value of digits that stand behind those of n
unfoldable pub value_from : ℕ → List ℕ → ℕ
value_from n [] = n
value_from n (b ∷ bs) = value_from (n * 10 + (b - naught)) bs

-- the value of all of them
abbrev pub value : List ℕ → ℕ
value bs = value_from 0 bs
