-- Judging: faults in the order in which they are judged, each with its number and its place.
use Rattle.std.specs.Prelude.{Bool, cond, ◌||◌, List, [], ◌∷◌, ◌++◌, ℕ, ltb}
use Rattle.ground.specs.Least.{least, some}

-- what judging says: nothing is wrong, or the first fault, by its number and its place
pub data Judged : Type 0 where
  Fine : Judged
  Fault : ℕ → ℕ → Judged

-- a line of the table of refusals: whether it applies, its number and its place
pub record Cause : Type 0 where
  pub applies : Bool
  pub number : ℕ
  pub place : ℕ

abbrev pub when : Bool → ℕ → ℕ → Cause
when b n p = record { applies = b; number = n; place = p }

-- the least row below n that has q
abbrev pub at_row : (ℕ → Bool) → ℕ → ℕ → Cause
at_row q n number = when (some q n) number (least q n)

-- "the first fault deciding"
unfoldable pub first : List Cause → Judged
first [] = Fine
first (c ∷ cs) = cond c.applies (Fault c.number c.place) (first cs)

-- first the one list, then the other
unfoldable pub and_then : List Cause → List Cause → List Cause
and_then xs ys = xs ++ ys

-- x is not one of lo .. hi
unfoldable pub outside : ℕ → ℕ → ℕ → Bool
outside lo hi x = ltb x lo || ltb hi x
