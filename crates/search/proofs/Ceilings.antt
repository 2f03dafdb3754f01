-- The ceilings. Assumes nothing.
use mathlib.Core.Path.{◌≡◌, refl, ap, ◌∙◌}
use mathlib.Core.List.{[], ◌∷◌}
use Prim.Native.Nat.{ℕ, zero, suc, ◌+◌, ◌*◌, ◌<◌}
use native.Mathlib.Omega.{arith}
use native.Mathlib.Nat.{mul-add}
use mathlib.Core.Bool.{cond}
use lib.Dec.{leb}
use lib.ListN.{get_or}
use borrow.Author.Tests.{lt-leb}
use Rattle.search.specs.Limits.{max_exact_rows}
use Rattle.search.specs.Ceilings.{product, products, choices, ceiling_of, ceiling_up_to}

-- "ceiling 0, 2, 20, 342, 10472, 509930, 36086652, 3493657790" for 1 to 8 rows, and 0 for more
pub table : (n : ℕ) → get_or (0 ∷ 0 ∷ 2 ∷ 20 ∷ 342 ∷ 10472 ∷ 509930 ∷ 36086652 ∷ 3493657790 ∷ []) n 0 ≡ ceiling_up_to n
unfolding ceiling_up_to ceiling_of choices products product
table zero = refl
table (suc zero) = refl
table (suc (suc zero)) = refl
table (suc (suc (suc zero))) = refl
table (suc (suc (suc (suc zero)))) = refl
table (suc (suc (suc (suc (suc zero))))) = refl
table (suc (suc (suc (suc (suc (suc zero)))))) = refl
table (suc (suc (suc (suc (suc (suc (suc zero))))))) = refl
table (suc (suc (suc (suc (suc (suc (suc (suc zero)))))))) = refl
table (suc (suc (suc (suc (suc (suc (suc (suc (suc n))))))))) = past (suc (suc (suc (suc (suc (suc (suc (suc (suc n))))))))) (omega arith)
  where
    past : (m : ℕ) → max_exact_rows < m → 0 ≡ cond (leb m max_exact_rows) (ceiling_of m) 0
    past m h = rw (lt-leb m max_exact_rows h)

-- the same number from the last factor on: the choices of a row, and after each the rest
unfoldable pub nested : (ℕ → ℕ) → ℕ → ℕ → ℕ
nested f a zero = 0
nested f a (suc m) = f a * (1 + nested f (suc a) m)

products_step : (f : ℕ → ℕ) (a m : ℕ) → products f a (suc m) ≡ f a * (1 + products f (suc a) m)
unfolding products product
products_step f a zero = omega arith
products_step f a (suc m) =
    rw (products_step f a m, ← mul-add (f a) (1 + products f (suc a) m) (f (suc a) * product f (suc (suc a)) m))
    (ap (◌*◌ (f a)) (omega arith))

pub products_nested : (f : ℕ → ℕ) (a m : ℕ) → products f a m ≡ nested f a m
unfolding nested products
products_nested f a zero = refl
products_nested f a (suc m) = products_step f a m ∙ ap (λ (x : ℕ). f a * (1 + x)) (products_nested f (suc a) m)
