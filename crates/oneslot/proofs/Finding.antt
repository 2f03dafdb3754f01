-- How the code's walk over the rows finds the least move: row by row, each left out of the lists of starts. Assumes nothing.
use Rattle.std.specs.Prelude.{Option, Some, None as Nothing, MatchOption}
use Rattle.oneslot.specs.declared.Move.{Move as RowMove}
use mathlib.Core.Path.{◌≡◌, refl}
use mathlib.Core.Bool.{Bool, true, false, cond}
use mathlib.Core.List.{List, ◌++◌}
use Prim.Native.Nat.{ℕ, ◌-◌, ◌<◌}
use native.Mathlib.Omega.{arith}
use lib.ListN.{length, get_or, take, set, length-set}
use lib.Seq.{set-append_left, take-append-le}
use Rattle.ground.specs.Least.{least, some}
use Rattle.ground.proofs.Bools.{never}
use Rattle.ground.proofs.Minimum.{least_at, some_at, some_none}
use Rattle.link.specs.Starts.{firsts, seconds}
use Rattle.link.specs.declared.Start.{Start}
use Rattle.link.proofs.Columns.{firsts_length, seconds_length, first_at, second_at, firsts_take, seconds_take, firsts_set, seconds_set}
use Rattle.oneslot.specs.Moves.{Move, None, Row, as_move, opens, move_of, gives_way, least_move}
use Rattle.oneslot.specs.Others.{without}

module _ (p : ℕ) (q : ℕ → ℕ → ℕ → Bool) where
  -- a row gives way exactly where a pair of offsets is found for it
  pub data Found (i : ℕ) : Move → Type 0 where
    gives : (x y : ℕ) → gives_way p q i ≡ true → Found i (Row i x y)
    stays : gives_way p q i ≡ false → Found i None

  found : (i : ℕ) → Found i (move_of p (q i) i)
  unfolding move_of gives_way
  found i = go (some (opens p (q i)) p) refl
    where
      go : (b : Bool) → some (opens p (q i)) p ≡ b
          → Found i (cond b (Row i (least (opens p (q i)) p) (least (q i (least (opens p (q i)) p)) p)) None)
      go true e = gives _ _ e
      go false e = stays e

  not_this_row : (i : ℕ) → None ≡ move_of p (q i) i → gives_way p q i ≡ false
  not_this_row i e = go (found i) e
    where
      go : {m : Move} → Found i m → None ≡ m → gives_way p q i ≡ false
      go (gives x y w) f = never (cc)
      go (stays w) f = w

  -- the first of n rows that gives way is the least one
  this_row : (n i : ℕ) → i < n → ((k : ℕ) → k < i → gives_way p q k ≡ false) → (r x y : ℕ) → Row r x y ≡ move_of p (q i) i
      → Row r x y ≡ least_move p q n
  unfolding least_move
  this_row n i h before r x y e =
      let way = go (found i) e in
      rw (some_at (gives_way p q) n i h way, least_at (gives_way p q) n i (omega arith) before (λ _. way)) e
    where
      go : {m : Move} → Found i m → Row r x y ≡ m → gives_way p q i ≡ true
      go (gives x' y' w) f = w
      go (stays w) f = never (cc)

  no_row : (n : ℕ) → ((k : ℕ) → k < n → gives_way p q k ≡ false) → None ≡ least_move p q n
  unfolding least_move
  no_row n h = rw (some_none (gives_way p q) n h)

  -- the code asks one row after the other: none gives way, or the first that does is the answer
  pub asked : (n : ℕ) (r : Option RowMove)
      → MatchOption r ((k : ℕ) → k < n → None ≡ move_of p (q k) k)
      (λ m. (i : ℕ) × (i < n) × (Row m.row m.to m.offset ≡ move_of p (q i) i) × ((k : ℕ) → k < i → None ≡ move_of p (q k) k))
      → as_move r ≡ least_move p q n
  asked n Nothing t = no_row n (λ k h. not_this_row k (t k h))
  asked n (Some m) t = this_row n t.0 t.1 (λ k h. not_this_row k (t.3 k h)) m.row m.to m.offset t.2

-- row i left out of an array that begins with the starts ss: the last one stands in its place
module _ (ss rest : List Start) (i : ℕ) (d : Start) (h : i < length ss) where
  abbrev last : Start
  last = get_or ss (length ss - 1) d

  front : take (length ss - 1) (set (ss ++ rest) i last) ≡ take (length ss - 1) (set ss i last)
  front =
      rw (set-append_left ss rest i last h) (take-append-le (length ss - 1) (set ss i last) rest (rw length-set (omega arith)))

  pub firsts_without : firsts (take (length ss - 1) (set (ss ++ rest) i last)) ≡ without i (firsts ss)
  unfolding without
  firsts_without = rw (front, firsts_take, firsts_set, firsts_length, first_at ss (length ss - 1) d (omega arith))

  pub seconds_without : seconds (take (length ss - 1) (set (ss ++ rest) i last)) ≡ without i (seconds ss)
  unfolding without
  seconds_without = rw (front, seconds_take, seconds_set, seconds_length, second_at ss (length ss - 1) d (omega arith))
