-- How the code numbers steps: a number stands for a step, in the order of the steps. proofs/Numbers shows that, and nothing above it
-- looks at the numbers.
use Rattle.std.specs.Prelude.{◌≡◌, true, false, List, ℕ, zero, suc, ◌*◌, ◌<◌, ◌≤◌, ◌/◌, ◌%◌}
use Rattle.link.specs.Limits.{max_rows}
use Rattle.link.specs.Rows.{Crossing, one, two}
use Rattle.search.specs.Steps.{Step, is_step}

abbrev pub crossing_at : ℕ → Crossing
crossing_at zero = one
crossing_at (suc n) = two

-- two numbers for each other row, so many for each row
unfoldable pub step_at : ℕ → Step
step_at k = record { row = k / (2 * max_rows); beside = k / 2 % max_rows; crossing = crossing_at (k % 2) }

-- m is the first number from k on that stands for a step; it is past all of them where there is none
pub record Next (p n : ℕ) (s : List ℕ) (k m : ℕ) : Type 0 where
  pub low : k ≤ m
  pub high : m ≤ n * (2 * max_rows)
  pub skipped : (i : ℕ) → k ≤ i → i < m → is_step p n s (step_at i) ≡ false
  pub lands : m < n * (2 * max_rows) → is_step p n s (step_at m) ≡ true
