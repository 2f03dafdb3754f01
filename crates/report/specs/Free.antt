-- Which slots of a crossing are free, and the three numbers of a crossing. p is the period, t the size.
use Rattle.std.specs.Prelude.{Bool, not, List, ℕ, length}
use Rattle.ground.specs.Least.{some}
use Rattle.link.specs.Slots.{uses}
use Rattle.link.specs.Rows.{Crossing, start}
use Rattle.ground.specs.Count.{count}
use Rattle.report.specs.Runs.{runs, widest_of}
use Rattle.report.specs.declared.Stretch.{Stretch}

-- one of the first n messages, of size t and with these starts, uses the slot s
unfoldable pub used_of : ℕ → ℕ → (ℕ → ℕ) → ℕ → ℕ → Bool
used_of p t starts n s = some (λ i. uses p t (starts i) s) n

-- no message uses the slot
unfoldable pub free_of : ℕ → ℕ → (ℕ → ℕ) → ℕ → ℕ → Bool
free_of p t starts n s = not (used_of p t starts n s)

-- the slot s is free in the crossing c of the plan os of the table ds
abbrev pub is_free : ℕ → ℕ → List ℕ → List ℕ → Crossing → ℕ → Bool
is_free p t ds os c = free_of p t (start p ds os c) (length ds)

-- "the number of free slots, the number of free stretches, and the length of the widest", of a circle of p slots: q says which are free
unfoldable pub stretch_of : (ℕ → Bool) → ℕ → Stretch
stretch_of q p = record { free = count q p; stretches = length (runs q p); widest = widest_of (runs q p) }
