-- Fixed byte strings, and bytes that begin with one.
use Rattle.std.specs.Prelude.{◌≡◌, Bool, true, false, ◌&&◌, List, [], ◌∷◌, ℕ, ◌<◌, eqb, length, get_or}

-- the bytes begin with those of the word
unfoldable pub begins : List ℕ → List ℕ → Bool
begins [] bs = true
begins (w ∷ ws) [] = false
begins (w ∷ ws) (b ∷ bs) = eqb b w && begins ws bs

-- a byte that both have is not the same
abbrev pub Differ : List ℕ → List ℕ → Type 0
Differ bs ws = (i : ℕ) × (i < length bs) × (i < length ws) × (get_or bs i 0 ≡ get_or ws i 0 → ⊥)
