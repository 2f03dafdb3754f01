-- Collisions, and the order in which document 01 names them.
use Rattle.std.specs.Prelude.{◌≡◌, ◌⊎◌, List, ℕ, ◌≤◌, ◌<◌, length}
use Rattle.link.specs.Slots.{Meet}
use Rattle.link.specs.Rows.{Crossing, numbered, start}

-- rows i and j of a plan, i the earlier one, meet in the crossing c
pub record Collides (p l : ℕ) (ds os : List ℕ) (i j : ℕ) (c : Crossing) : Type 0 where
  pub earlier : i < j
  pub later : j < length ds
  pub meet : Meet p l (start p ds os c i) (start p ds os c j)

-- rows i and j in crossing c are not after rows i' and j' in crossing c':
-- "the least later row, then the least earlier row, then crossing 1 before 2"
abbrev pub NotAfter : ℕ → ℕ → Crossing → ℕ → ℕ → Crossing → Type 0
NotAfter i j c i' j' c' = (j < j') ⊎ ((j ≡ j') × ((i < i') ⊎ ((i ≡ i') × (numbered c ≤ numbered c'))))

-- rows i and j are the collision to name, in the crossing with the number n: they meet there, and no collision comes before
pub record FirstCollision (p l : ℕ) (ds os : List ℕ) (i j n : ℕ) : Type 0 where
  pub crossing : Crossing
  pub number : n ≡ numbered crossing
  pub collides : Collides p l ds os i j crossing
  pub least : (i' j' : ℕ) (c' : Crossing) → Collides p l ds os i' j' c' → NotAfter i j crossing i' j' c'
