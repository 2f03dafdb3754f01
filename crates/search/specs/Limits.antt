-- The exact planner's row limit and its own refusal numbers, by name.
use Rattle.std.specs.Prelude.{ℕ}

-- "rows n: 1 to 64; exact planner 1 to 8"
abbrev pub max_exact_rows : ℕ
max_exact_rows = 8

-- "Refusal numbers"
abbrev pub too_many_rows : ℕ
too_many_rows = 12

abbrev pub no_build : ℕ
no_build = 14

abbrev pub budget_spent : ℕ
budget_spent = 15
