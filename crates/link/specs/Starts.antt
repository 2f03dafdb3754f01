-- Lists of starts, crossing by crossing, and whom a row meets, as the code says it.
use Rattle.std.specs.Prelude.{List, map, ℕ, Option, Some, None}
use Rattle.link.specs.Rows.{Met, Nobody, Row}
use Rattle.link.specs.declared.Start.{Start}
use Rattle.link.specs.declared.Crossing.{Crossing}
use Rattle.link.specs.declared.Crossing.TheVariants.{First, Second}
use Rattle.link.specs.declared.Met.{Met as RowMet}

-- where rows start in crossing 1, which are their offsets
unfoldable pub firsts : List Start → List ℕ
firsts ss = map (λ (s : Start). s.first) ss

-- and in crossing 2
unfoldable pub seconds : List Start → List ℕ
seconds ss = map (λ (s : Start). s.second) ss

-- a crossing's number
abbrev pub crossing_number : Crossing → ℕ
crossing_number First = 1
crossing_number Second = 2

-- the row that is met, and the crossing's number
abbrev pub met : Option RowMet → Met
met None = Nobody
met (Some m) = Row m.row (crossing_number m.crossing)
