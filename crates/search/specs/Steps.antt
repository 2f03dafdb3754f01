-- Steps of a build. s has the offsets of the rows; a row that is not placed has a number at or above the period p.
use Rattle.std.specs.Prelude.{Bool, ◌&&◌, not, cond, List, [], ◌∷◌, ℕ, ◌+◌, ◌-◌, ◌%◌, ltb, get_or, set}
use Rattle.ground.specs.Least.{some}
use Rattle.ground.specs.Series.{from}
use Rattle.link.specs.Rows.{Crossing, one, two, start, hits, either}
use Rattle.link.specs.Slots.{after}

-- "A step names a row j not yet placed, a placed row i, and a crossing (1 or 2)."
pub record Step : Type 0 where
  pub row : ℕ
  pub beside : ℕ
  pub crossing : Crossing

abbrev pub step : ℕ → ℕ → Crossing → Step
step j i c = record { row = j; beside = i; crossing = c }

unfoldable pub placed : ℕ → List ℕ → ℕ → Bool
placed p s i = ltb (get_or s i 0) p

-- k is such a step, of n rows
unfoldable pub is_step : ℕ → ℕ → List ℕ → Step → Bool
is_step p n s k = (ltb k.row n && ltb k.beside n) && (not (placed p s k.row) && placed p s k.beside)

-- "Steps are ordered by j, then i, then crossing.": the steps beside the row i, those of the row j, and all, of n rows
unfoldable pub besides : ℕ → List ℕ → ℕ → ℕ → List Step
besides p s j i = cond (placed p s i) (step j i one ∷ step j i two ∷ []) []

unfoldable pub row_steps : ℕ → ℕ → List ℕ → ℕ → List Step
row_steps p n s j = cond (placed p s j) [] (from (besides p s j) 0 n)

unfoldable pub steps : ℕ → ℕ → List ℕ → List Step
steps p n s = from (row_steps p n s) 0 n

-- the offset of a row of delay d that starts at x in the crossing
unfoldable pub offset_of : ℕ → Crossing → ℕ → ℕ → ℕ
offset_of p one d x = x
offset_of p two d x = (x + (p - d % p)) % p

-- "It puts j so that in this crossing j starts in the slot right after i's last slot."
unfoldable pub puts : ℕ → ℕ → List ℕ → List ℕ → Step → ℕ
puts p l ds s k = offset_of p k.crossing (get_or ds k.row 0) (after p l (start p ds s k.crossing k.beside))

-- the placed row i meets a row of delay d at the offset a
unfoldable pub in_the_way : ℕ → ℕ → List ℕ → List ℕ → ℕ → ℕ → ℕ → Bool
in_the_way p l ds s d a i = placed p s i && either (hits p l ds s d a) i

-- "A step is good when j then meets no placed row in either crossing."
unfoldable pub good : ℕ → ℕ → List ℕ → ℕ → List ℕ → Step → Bool
good p l ds n s k = not (some (in_the_way p l ds s (get_or ds k.row 0) (puts p l ds s k)) n)

-- the offsets after a step
unfoldable pub put : ℕ → ℕ → List ℕ → List ℕ → Step → List ℕ
put p l ds s k = set s k.row (puts p l ds s k)

-- what a build goes by: the steps there are, in their order; which of them are good; where one leads
pub record Rules : Type 0 where
  pub steps : List ℕ → List Step
  pub good : List ℕ → Step → Bool
  pub put : List ℕ → Step → List ℕ

abbrev pub rules : ℕ → ℕ → List ℕ → ℕ → Rules
rules p l ds n = record { steps = steps p n; good = good p l ds n; put = put p l ds }
