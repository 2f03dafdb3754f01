-- How a quick planner places the rows of a table ds: p is the period, l the least distance of two starts. It looks at the
-- offsets 0, step, 2 step, .., (count-1) step.
use Rattle.std.specs.Prelude.{Bool, cond, List, [], ◌∷◌, ◌++◌, ℕ, zero, suc, ◌*◌, length, get_or}
use Rattle.ground.specs.Least.{least, some}
use Rattle.link.specs.Rows.{free}

-- the offset c step is free for row j, where os has the offsets of the rows before
unfoldable pub free_at : ℕ → ℕ → List ℕ → List ℕ → ℕ → ℕ → ℕ → Bool
free_at p l ds os j step c = free p l ds os j (get_or ds j 0) (c * step)

-- the offsets of the rows so far, or the first row with none
pub data Progress : Type 0 where
  rows : List ℕ → Progress
  stuck : ℕ → Progress

-- "It gives the least free one." "If a row has no such offset the planner refuses with 13 and that row."
unfoldable pub place : ℕ → ℕ → List ℕ → ℕ → ℕ → ℕ → Progress → Progress
place p l ds step count j (rows os) =
    cond (some (free_at p l ds os j step) count) (rows (os ++ (least (free_at p l ds os j step) count * step ∷ []))) (stuck j)
place p l ds step count j (stuck i) = stuck i

-- "Rows are taken in table order."
unfoldable pub placed : ℕ → ℕ → List ℕ → ℕ → ℕ → ℕ → Progress
placed p l ds step count zero = rows []
placed p l ds step count (suc j) = place p l ds step count j (placed p l ds step count j)

-- all rows
abbrev pub all_placed : ℕ → ℕ → List ℕ → ℕ → ℕ → Progress
all_placed p l ds step count = placed p l ds step count (length ds)
