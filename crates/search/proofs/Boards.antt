-- The board, place by place: where a row starts, as the code reads it and as the definitions do. Assumes nothing.
use mathlib.Core.Path.{◌≡◌, refl, sym}
use mathlib.Core.List.{List, ◌∷◌}
use Prim.Native.Nat.{ℕ, ◌-◌, ◌<◌, ◌≤◌}
use native.Mathlib.Omega.{arith}
use lib.ListN.{length, get_or, get_or-map, set, take, replicate}
use lib.Seq.{get_or-take, length-take-le}
use Rattle.link.specs.Limits.{max_rows}
use Rattle.link.specs.Starts.{firsts, seconds}
use Rattle.link.specs.declared.Start.{Start}
use Rattle.search.specs.Builds.{begin}
use Rattle.search.specs.Search.{blocked}

-- what is read where there is no row
abbrev nowhere : Start
nowhere = record { first = 0; second = 0 }

pub first_on : (ss : List Start) (i : ℕ) → (get_or ss i nowhere).first ≡ get_or (firsts ss) i 0
unfolding firsts
first_on ss i = sym (get_or-map (λ (s : Start). s.first) ss i nowhere)

pub second_on : (ss : List Start) (i : ℕ) → (get_or ss i nowhere).second ≡ get_or (seconds ss) i 0
unfolding seconds
second_on ss i = sym (get_or-map (λ (s : Start). s.second) ss i nowhere)

-- a row in front of the board, as a row to be met
module _ (n : ℕ) (ss : List Start) (few : n ≤ length ss) (i : ℕ) (h : i < length (take n ss)) where
  pub in_front : i < n
  in_front = omega (arith, length-take-le n ss few)

  pub met_on : (p l a b : ℕ)
      → blocked p l a b (get_or (take n ss) i nowhere).first (get_or (take n ss) i nowhere).second
      ≡ blocked p l a b (get_or (firsts ss) i 0) (get_or (seconds ss) i 0)
  met_on p l a b = rw (get_or-take n ss i nowhere in_front, first_on ss i, second_on ss i)

-- the board that the search starts from
module _ (p d : ℕ) where
  abbrev first_board : List Start
  first_board = set (replicate max_rows (record { first = p; second = 0 })) 0 (record { first = 0; second = d })

  pub first_firsts : firsts first_board ≡ begin p
  unfolding firsts
  first_firsts = refl

  pub first_seconds : seconds first_board ≡ d ∷ replicate (max_rows - 1) 0
  unfolding seconds
  first_seconds = refl
