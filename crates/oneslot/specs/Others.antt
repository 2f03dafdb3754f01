-- What the inner functions go by: lists of starts, xs in crossing 1 and ys in crossing 2, and the code's tests over them.
use Rattle.std.specs.Prelude.{Bool, ◌&&◌, List, [], ◌∷◌, ◌++◌, ℕ, ◌-◌, length, get_or, take, set}
use Rattle.link.specs.Rows.{second}
use Rattle.quick.specs.Ways.{open_to}

-- the last of a list
abbrev pub last_of : List ℕ → ℕ
last_of zs = get_or zs (length zs - 1) 0

-- what the rows but row i have, the last one in its place
unfoldable pub without : ℕ → List ℕ → List ℕ
without i zs = take (length zs - 1) (set zs i (last_of zs))

-- open to a row of delay d at y: rows with the starts xs and ys, and one of delay e at x
unfoldable pub open_beside : ℕ → ℕ → ℕ → ℕ → List ℕ → List ℕ → ℕ → ℕ → Bool
open_beside p l e d xs ys x y = open_to p l d (xs ++ (x ∷ [])) (ys ++ (second p e x ∷ [])) 1 y

-- rows of the delays e and d have room at x and y: clear of those with the starts xs and ys, and of each other
unfoldable pub fits : ℕ → ℕ → ℕ → ℕ → List ℕ → List ℕ → ℕ → ℕ → Bool
fits p l e d xs ys x y = open_to p l e xs ys 1 x && open_beside p l e d xs ys x y

-- row i, of those with the starts xs and ys, can go to x to let a new row of delay d in at y
unfoldable pub can_move : ℕ → ℕ → List ℕ → ℕ → List ℕ → List ℕ → ℕ → ℕ → ℕ → Bool
can_move p l ds d xs ys i x y = fits p l (get_or ds i 0) d (without i xs) (without i ys) x y
