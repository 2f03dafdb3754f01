-- Tables, plans and lent lists whose values are in range: what the judging lets through.
use Rattle.std.specs.Prelude.{◌≡◌, List, ℕ, ◌≤◌, ◌<◌, length, get_or}
use Rattle.link.specs.Limits.{max_period, max_delay, max_rows}
use Rattle.link.specs.Rows.{span_of}
use Rattle.link.specs.declared.Link.{Link}

-- the link of an answer that has none: "Fields of an answer that don't apply are 0"
abbrev pub no_link : Link
no_link = record { period = 0; size = 0 }

pub record GoodTable (k : Link) (ds : List ℕ) : Type 0 where
  pub period_low : 1 ≤ k.period
  pub period_high : k.period ≤ max_period
  pub span_low : 1 ≤ span_of k
  pub span_high : span_of k ≤ k.period
  pub rows_low : 1 ≤ length ds
  pub rows_high : length ds ≤ max_rows
  pub delays : (i : ℕ) → i < length ds → get_or ds i 0 ≤ max_delay

pub record GoodPlan (k : Link) (ds os : List ℕ) : Type 0 where
  pub table : GoodTable k ds
  pub as_many : length os ≡ length ds
  pub offsets : (i : ℕ) → i < length os → get_or os i 0 < k.period

-- what is left of it below the entry points, over the period p and the distance l
pub record InRange (p l : ℕ) (ds os : List ℕ) : Type 0 where
  pub some_period : 0 < p
  pub span_high : l ≤ p
  pub rows_high : length ds ≤ max_rows
  pub as_many : length os ≡ length ds
  pub offsets : (i : ℕ) → i < length os → get_or os i 0 < p
