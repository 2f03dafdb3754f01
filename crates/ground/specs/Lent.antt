-- What a call leaves in a list that it was lent.
use Rattle.std.specs.Prelude.{◌≡◌, List, ◌++◌, ℕ, ◌+◌, ◌*◌, length, take, drop}

-- xs stands in front: "A lent buffer longer than needed keeps its tail."
abbrev pub on_front : {A : Type 0} → List A → List A → List A
on_front xs old = xs ++ drop (length xs) old

-- the w places that the i-th of many has in a list, from 0: those from w * i on
abbrev pub block : ℕ → ℕ → List ℕ → List ℕ
block w i xs = take w (drop (w * i) xs)

-- the list `new` is `old` with xs from the place `at` on, and `next` is the place behind them
pub record Adds (old : List ℕ) (at : ℕ) (xs : List ℕ) (next : ℕ) (new : List ℕ) : Type 0 where
  pub end : next ≡ at + length xs
  pub written : new ≡ take at old ++ (xs ++ drop (at + length xs) old)
