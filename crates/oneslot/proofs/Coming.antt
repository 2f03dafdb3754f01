-- The walk over the rows, with the starts of both crossings in one list. Assumes nothing.
use mathlib.Core.Path.{◌≡◌, sym}
use mathlib.Core.Bool.{Bool}
use mathlib.Core.List.{List}
use Prim.Native.Nat.{ℕ, ◌+◌, ◌≤◌, ◌<◌}
use native.Mathlib.Omega.{arith}
use lib.ListN.{length, get_or, take, set}
use lib.Seq.{length-take-le}
use Rattle.ground.specs.Least.{least_from}
use Rattle.link.specs.Limits.{max_rows}
use Rattle.link.specs.Rows.{second}
use Rattle.link.specs.Starts.{firsts, seconds}
use Rattle.link.specs.declared.Start.{Start}
use Rattle.link.proofs.Columns.{firsts_length, firsts_take, seconds_take, firsts_set, seconds_set}
use Rattle.quick.specs.Plan.{stuck}
use Rattle.quick.specs.Ways.{Ways, open_to}
use Rattle.oneslot.specs.Moves.{Move, None, Row, least_move}
use Rattle.oneslot.specs.Others.{can_move}
use Rattle.oneslot.specs.Plan.{settled}
use Rattle.oneslot.proofs.Choosing.{taken}
use Rattle.oneslot.proofs.Settling.{State, free_onward, no_way, move_onward}

-- a row that is found to give way is one of the j rows
pub row_low : (p : ℕ) (q : ℕ → ℕ → ℕ → Bool) (j : ℕ) (ss : List Start) {i x y : ℕ} → j ≤ length ss
    → Row i x y ≡ least_move p q (length (take j ss)) → i < j
row_low p q j ss {i} {x} {y} h e = omega (arith, length-take-le j ss h, (taken p q (length (take j ss)) (Row i x y) (sym e)).row)

module _
    (p l : ℕ) (ds : List ℕ) (w : Ways p l 1 p) (j : ℕ) (hj : j < max_rows) (more : j < length ds) (ss : List Start)
    (s : State p l ds j (firsts ss) (seconds ss)) (a : ℕ)
    (e : a ≡ least_from (open_to p l (get_or ds j 0) (firsts (take j ss)) (seconds (take j ss)) 1) 0 p)
  where
    least : a ≡ least_from (open_to p l (get_or ds j 0) (take j (firsts ss)) (take j (seconds ss)) 1) 0 p
    least = rw (firsts_take j ss, seconds_take j ss) at e

    -- row j comes to its least free offset
    pub comes_free : a < p → (t : Start) → (t.first ≡ a) × (t.second ≡ second p (get_or ds j 0) a)
        → State p l ds (j + 1) (firsts (set ss j t)) (seconds (set ss j t))
    comes_free h t f =
        rw (firsts_set, seconds_set, f.0) (free_onward p l ds w j hj more (firsts ss) (seconds ss) s a least t.second h f.1)

    -- or there is none, and `find_move` answers
    module _ (full : p ≤ a) (m : Move)
        (f : m ≡ least_move p (can_move p l (take j ds) (get_or ds j 0) (firsts (take j ss)) (seconds (take j ss))) (length (take j ss)))
      where
        answer : m ≡ least_move p (can_move p l (take j ds) (get_or ds j 0) (take j (firsts ss)) (take j (seconds ss)))
            (length (take j (firsts ss)))
        answer = rw (← firsts_length (take j ss), firsts_take j ss, seconds_take j ss) at f

        pub stays_out : m ≡ None → (n : ℕ) → j < n → settled p l ds n ≡ stuck j
        stays_out = no_way p l ds w j hj more (firsts ss) (seconds ss) s a least full m answer

        pub comes_moving : (i x y : ℕ) → m ≡ Row i x y → (t u : Start) → (t.first ≡ x) × (t.second ≡ second p (get_or ds i 0) x)
            → (u.first ≡ y) × (u.second ≡ second p (get_or ds j 0) y)
            → State p l ds (j + 1) (firsts (set (set ss i t) j u)) (seconds (set (set ss i t) j u))
        comes_moving i x y g t u h k =
            rw (firsts_set, seconds_set, firsts_set, seconds_set, h.0, k.0)
            (move_onward p l ds w j hj more (firsts ss) (seconds ss) s a least full m answer i x y g t.second u.second h.1 k.1)
