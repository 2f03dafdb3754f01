-- What the steps over a crossing's messages answer. p is the period, t the size, xs the starts.
use Rattle.std.specs.Prelude.{◌≡◌, Bool, List, ℕ, ◌+◌, ◌%◌, ◌≤◌, ◌<◌, length, get_or}
use Rattle.link.specs.Slots.{Meet}
use Rattle.report.specs.Free.{free_of}

-- the start of row i
abbrev pub at : List ℕ → ℕ → ℕ
at xs i = get_or xs i 0

-- starts on the period, of messages that fit it and do not meet
pub record Placed (p t : ℕ) (xs : List ℕ) : Type 0 where
  pub size_low : 0 < t
  pub size_high : t ≤ p
  pub low : (i : ℕ) → i < length xs → at xs i < p
  pub apart : (i j : ℕ) → i < j → j < length xs → Meet p t (at xs i) (at xs j) → ⊥

-- the slots with no message, of those with these starts
abbrev pub free_at : ℕ → ℕ → List ℕ → ℕ → Bool
free_at p t xs = free_of p t (at xs) (length xs)

-- r slots on from the slot x is the next of the first n starts; r is the period where there is none
pub record NextStart (p : ℕ) (xs : List ℕ) (n x r : ℕ) : Type 0 where
  pub high : r ≤ p
  pub start : r < p → (i : ℕ) × (i < n) × (at xs i ≡ (x + r) % p)
  pub before : (k : ℕ) → k < r → (i : ℕ) → i < n → at xs i ≡ (x + k) % p → ⊥
