-- How many have a property: of the numbers below n, and of a list. And the sum of numbers.
use Rattle.std.specs.Prelude.{Bool, cond, List, [], ◌∷◌, ℕ, zero, suc, ◌+◌}

-- how many numbers below n have q
unfoldable pub count : (ℕ → Bool) → ℕ → ℕ
count q zero = zero
count q (suc n) = cond (q n) 1 0 + count q n

-- how many of a list have f
unfoldable pub count_in : {A : Type 0} → (A → Bool) → List A → ℕ
count_in f [] = 0
count_in f (x ∷ xs) = cond (f x) 1 0 + count_in f xs

-- f 0 + f 1 + .. + f (n-1)
unfoldable pub sum : (ℕ → ℕ) → ℕ → ℕ
sum f zero = zero
sum f (suc n) = f n + sum f n
