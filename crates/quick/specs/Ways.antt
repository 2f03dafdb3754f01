-- What the inner functions go by: candidates below the period, and the code's test of one.
use Rattle.std.specs.Prelude.{◌≡◌, Bool, List, ℕ, ◌*◌, ◌≤◌, ◌<◌, Option, Some, None}
use Rattle.ground.specs.Least.{least_from}
use Rattle.link.specs.Limits.{max_period}
use Rattle.link.specs.Rows.{second, first_near, is_nobody}

pub record Ways (p l step count : ℕ) : Type 0 where
  pub period : p ≤ max_period
  pub some_period : 0 < p
  pub span_high : l ≤ p
  pub low : count * step ≤ p
  pub some_step : 0 < step

-- no row with the starts xs and ys is near a row of delay d at the candidate c
unfoldable pub open_to : ℕ → ℕ → ℕ → List ℕ → List ℕ → ℕ → ℕ → Bool
open_to p l d xs ys step c = is_nobody (first_near p l xs ys (c * step) (second p d (c * step)))

-- the least of from, .., count-1 that has q, or that there is none
abbrev pub FirstOpen : (ℕ → Bool) → ℕ → ℕ → Option ℕ → Type 0
FirstOpen q from count (Some c) = (c ≡ least_from q from count) × (c < count)
FirstOpen q from count None = count ≡ least_from q from count
