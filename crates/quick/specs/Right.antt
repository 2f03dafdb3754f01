-- What it is for rows to be placed right, said without the planner: the laws in proofs/Sound say that `placed` is this.
use Rattle.std.specs.Prelude.{◌≡◌, true, false, List, ℕ, ◌*◌, ◌≤◌, ◌<◌, length, get_or}
use Rattle.ground.specs.Lent.{on_front}
use Rattle.link.specs.Range.{GoodTable}
use Rattle.link.specs.Rows.{span_of, free, Clear}
use Rattle.link.specs.declared.Link.{Link}
use Rattle.quick.specs.Plan.{free_at}

module _ (p l : ℕ) (ds : List ℕ) (step count : ℕ) where
  -- c step is the least of the planner's offsets that is free for row j
  pub record LeastFree (os : List ℕ) (j c : ℕ) : Type 0 where
    pub candidate : c < count
    pub is_free : free_at p l ds os j step c ≡ true
    pub least : (i : ℕ) → i < c → free_at p l ds os j step i ≡ false

  -- the first n rows have the offsets os, each its least free one
  pub record Placed (n : ℕ) (os : List ℕ) : Type 0 where
    pub as_many : length os ≡ n
    pub each : (j : ℕ) → j < n → (c : ℕ) × (get_or os j 0 ≡ c * step) × LeastFree os j c

  -- the rows before j have their least free offsets, and row j has none
  pub record Stuck (j : ℕ) : Type 0 where
    pub offsets : List ℕ
    pub before : Placed j offsets
    pub none : (c : ℕ) → c < count → free_at p l ds offsets j step c ≡ false

-- a plan that was given: the values are in range, each row has its least free offset, the offsets stand in the front of the
-- lent list and its tail is kept, and they are clear
pub record GivenPlan (k : Link) (ds old : List ℕ) (step count : ℕ) (new : List ℕ) : Type 0 where
  pub table : GoodTable k ds
  pub room : length ds ≤ length old
  pub offsets : List ℕ
  pub right : Placed k.period (span_of k) ds step count (length ds) offsets
  pub written : new ≡ on_front offsets old
  pub clear : Clear k.period (span_of k) ds offsets

-- a row that has no offset, in a table in range
pub record NoOffset (k : Link) (ds old : List ℕ) (step count j : ℕ) : Type 0 where
  pub table : GoodTable k ds
  pub room : length ds ≤ length old
  pub row : j < length ds
  pub stuck : Stuck k.period (span_of k) ds step count j

-- First Fit in its own words: the offset of row j is free, and no smaller one is
pub record LeastFreeOffset (p l : ℕ) (ds os : List ℕ) (j : ℕ) : Type 0 where
  pub low : get_or os j 0 < p
  pub is_free : free p l ds os j (get_or ds j 0) (get_or os j 0) ≡ true
  pub least : (a : ℕ) → a < get_or os j 0 → free p l ds os j (get_or ds j 0) a ≡ false
