-- One earlier row moved to let a new one in: which moves serve, and which of them is taken. The period is p, the least distance of two
-- starts l. os has the offsets of the rows so far; the new row is the one after them.
use Rattle.std.specs.Prelude.{Bool, not, cond, List, [], ◌∷◌, ◌++◌, ℕ, length, set, Option, Some, None as Nothing}
use Rattle.ground.specs.Least.{least, some}
use Rattle.link.specs.Rows.{blocked}
use Rattle.oneslot.specs.declared.Move.{Move as RowMove}

-- an earlier row that gives way, its new offset, and the new row's
pub data Move : Type 0 where
  None : Move
  Row : ℕ → ℕ → ℕ → Move

-- the code's form of it
abbrev pub as_move : Option RowMove → Move
as_move Nothing = None
as_move (Some m) = Row m.row m.to m.offset

-- row i goes to x, and the new row gets y: no other row is moved
abbrev pub moved : List ℕ → ℕ → ℕ → ℕ → List ℕ
moved os i x y = set os i x ++ (y ∷ [])

-- the rows with the offsets os are clear: none of them meets an earlier one
unfoldable pub all_clear : ℕ → ℕ → List ℕ → List ℕ → Bool
all_clear p l ds os = not (some (blocked p l ds os) (length os))

-- "so that all rows so far are clear"
unfoldable pub serves : ℕ → ℕ → List ℕ → List ℕ → ℕ → ℕ → ℕ → Bool
serves p l ds os i x y = all_clear p l ds (moved os i x y)

-- One row may go to x and let the new row in at y where q x y says so; both offsets are below p.
module _ (p : ℕ) (q : ℕ → ℕ → Bool) where
  -- with the row at x some offset is left for the new one
  unfoldable pub opens : ℕ → Bool
  opens x = some (q x) p

  -- "its least new offset, then the least offset for the new row": the row is row i
  unfoldable pub move_of : ℕ → Move
  move_of i = cond (some opens p) (Row i (least opens p) (least (q (least opens p)) p)) None

-- Each row i has such a test, q i.
module _ (p : ℕ) (q : ℕ → ℕ → ℕ → Bool) where
  -- some pair of offsets serves for row i
  unfoldable pub gives_way : ℕ → Bool
  gives_way i = some (opens p (q i)) p

  -- "the least such row, then its least new offset, then the least offset for the new row", of n rows
  unfoldable pub least_move : ℕ → Move
  least_move n = cond (some gives_way n) (move_of p (q (least gives_way n)) (least gives_way n)) None
