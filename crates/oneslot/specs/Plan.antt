-- How the rows of a table ds get their offsets, one after the other: p is the period, l the least distance of two starts.
use Rattle.std.specs.Prelude.{List, [], ℕ, zero, suc, length}
use Rattle.quick.specs.Plan.{Progress, rows, stuck, place}
use Rattle.oneslot.specs.Moves.{Move, None, Row, moved, serves, least_move}

-- row j has no place, or the move gives it one
abbrev pub made : List ℕ → ℕ → Move → Progress
made os j None = stuck j
made os j (Row i x y) = rows (moved os i x y)

-- "If it has none, consider moving one earlier row": what First Fit says of row j decides
unfoldable pub or_moved : ℕ → ℕ → List ℕ → List ℕ → ℕ → Progress → Progress
or_moved p l ds os j (rows ps) = rows ps
or_moved p l ds os j (stuck i) = made os j (least_move p (serves p l ds os) j)

-- "A row takes the least free offset."
unfoldable pub settle : ℕ → ℕ → List ℕ → ℕ → Progress → Progress
settle p l ds j (rows os) = or_moved p l ds os j (place p l ds 1 p j (rows os))
settle p l ds j (stuck i) = stuck i

-- "Rows go in table order."
unfoldable pub settled : ℕ → ℕ → List ℕ → ℕ → Progress
settled p l ds zero = rows []
settled p l ds (suc j) = settle p l ds j (settled p l ds j)

-- all rows
abbrev pub all_settled : ℕ → ℕ → List ℕ → Progress
all_settled p l ds = settled p l ds (length ds)
