-- The walk over the rows, with the starts of both crossings in one list. Assumes nothing.
use mathlib.Core.Path.{◌≡◌}
use mathlib.Core.List.{List}
use Prim.Native.Nat.{ℕ, ◌+◌, ◌*◌, ◌≤◌, ◌<◌}
use lib.ListN.{get_or, take, set}
use Rattle.ground.specs.Least.{least_from}
use Rattle.link.specs.Limits.{max_rows}
use Rattle.link.specs.Rows.{second}
use Rattle.link.specs.Starts.{firsts, seconds}
use Rattle.link.specs.declared.Start.{Start}
use Rattle.link.proofs.Columns.{firsts_take, seconds_take, firsts_set, seconds_set}
use Rattle.quick.specs.Plan.{stuck, placed}
use Rattle.quick.specs.Ways.{Ways, open_to}
use Rattle.quick.proofs.Placing.{State, blocked, onward}

module _
    (p l : ℕ) (ds : List ℕ) (step count : ℕ) (w : Ways p l step count) (j : ℕ) (hj : j < max_rows) (ss : List Start)
    (s : State p l ds step count j (firsts ss) (seconds ss)) (c : ℕ)
    (e : c ≡ least_from (open_to p l (get_or ds j 0) (firsts (take j ss)) (seconds (take j ss)) step) 0 count)
  where
    found : c ≡ least_from (open_to p l (get_or ds j 0) (take j (firsts ss)) (take j (seconds ss)) step) 0 count
    found = rw (firsts_take j ss, seconds_take j ss) at e

    pub row_blocked : count ≤ c → (n : ℕ) → j < n → placed p l ds step count n ≡ stuck j
    row_blocked = blocked p l ds step count w j hj (firsts ss) (seconds ss) s c found

    pub row_onward : c < count → (t : Start) → (t.first ≡ c * step) × (t.second ≡ second p (get_or ds j 0) (c * step))
        → State p l ds step count (j + 1) (firsts (set ss j t)) (seconds (set ss j t))
    row_onward h t f =
        rw (firsts_set, seconds_set, f.0) (onward p l ds step count w j hj (firsts ss) (seconds ss) s c found t.second h f.1)
