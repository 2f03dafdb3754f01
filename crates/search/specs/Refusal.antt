-- What the exact planner refuses: a planner's faults, and then its own.
use Rattle.std.specs.Prelude.{List, [], ◌∷◌, ℕ, ltb, length}
use Rattle.ground.specs.Judging.{Cause, when, and_then}
use Rattle.link.specs.Refusal.{planner_faults}
use Rattle.link.specs.declared.Link.{Link}
use Rattle.search.specs.Limits.{max_exact_rows, too_many_rows}

-- "judge 5, 6, 8, 7 (least row), 11, 12": "12 exact planner, 9 to 64 rows"
unfoldable pub exact_faults : Link → List ℕ → ℕ → List Cause
exact_faults k ds room = and_then (planner_faults k ds room) (when (ltb max_exact_rows (length ds)) too_many_rows 0 ∷ [])
