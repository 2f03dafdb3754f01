-- "Ceilings, a number that tests never passes (the sum over s = 1 .. n-1 of the product over k = 1 .. s of 2k(n-k))"
use Rattle.std.specs.Prelude.{cond, ℕ, zero, suc, ◌+◌, ◌-◌, ◌*◌, leb}
use Rattle.search.specs.Limits.{max_exact_rows}

-- f a * f (a + 1) * .., s factors
unfoldable pub product : (ℕ → ℕ) → ℕ → ℕ → ℕ
product f a zero = 1
product f a (suc s) = f a * product f (suc a) s

-- the products of 1 .. m factors, summed
unfoldable pub products : (ℕ → ℕ) → ℕ → ℕ → ℕ
products f a zero = 0
products f a (suc m) = products f a m + product f a (suc m)

unfoldable pub choices : ℕ → ℕ → ℕ
choices n k = 2 * k * (n - k)

unfoldable pub ceiling_of : ℕ → ℕ
ceiling_of n = products (choices n) 1 (n - 1)

-- 0 where the planner has no ceiling
unfoldable pub ceiling_up_to : ℕ → ℕ
ceiling_up_to n = cond (leb n max_exact_rows) (ceiling_of n) 0
