-- The two crossings of a list of starts, place by place, in front, and after one more row. Assumes nothing.
use mathlib.Core.Path.{◌≡◌, refl}
use mathlib.Core.Bool.{Bool, not, cond}
use mathlib.Core.List.{List, [], ◌∷◌}
use Prim.Native.Nat.{ℕ, zero, suc, ◌<◌}
use Rattle.std.proofs.lemmas.List.{get_or-map}
use lib.Dec.{eqb}
use lib.ListN.{length, length-map, get_or, set, take}
use Rattle.link.specs.Slots.{apartb}
use Rattle.link.specs.Rows.{one, two, near}
use Rattle.link.specs.Starts.{firsts, seconds, crossing_number}
use Rattle.link.specs.declared.Crossing.{Crossing}
use Rattle.link.specs.declared.Crossing.TheVariants.{First, Second}
use Rattle.link.specs.declared.Start.{Start}

pub firsts_length : (ss : List Start) → length (firsts ss) ≡ length ss
unfolding firsts
firsts_length ss = length-map ss _

pub seconds_length : (ss : List Start) → length (seconds ss) ≡ length ss
unfolding seconds
seconds_length ss = length-map ss _

pub first_at : (ss : List Start) (i : ℕ) (d : Start) → i < length ss → get_or (firsts ss) i 0 ≡ (get_or ss i d).first
unfolding firsts
first_at ss i d h = get_or-map (λ (s : Start). s.first) ss i d 0 h

pub second_at : (ss : List Start) (i : ℕ) (d : Start) → i < length ss → get_or (seconds ss) i 0 ≡ (get_or ss i d).second
unfolding seconds
second_at ss i d h = get_or-map (λ (s : Start). s.second) ss i d 0 h

pub firsts_take : (j : ℕ) (ss : List Start) → firsts (take j ss) ≡ take j (firsts ss)
unfolding firsts
firsts_take zero ss = refl
firsts_take (suc j) [] = refl
firsts_take (suc j) (s ∷ ss) = rw (firsts_take j ss)

pub seconds_take : (j : ℕ) (ss : List Start) → seconds (take j ss) ≡ take j (seconds ss)
unfolding seconds
seconds_take zero ss = refl
seconds_take (suc j) [] = refl
seconds_take (suc j) (s ∷ ss) = rw (seconds_take j ss)

pub firsts_set : (ss : List Start) (i : ℕ) (s : Start) → firsts (set ss i s) ≡ set (firsts ss) i s.first
unfolding firsts
firsts_set [] i s = refl
firsts_set (t ∷ ss) zero s = refl
firsts_set (t ∷ ss) (suc i) s = rw (firsts_set ss i s)

pub seconds_set : (ss : List Start) (i : ℕ) (s : Start) → seconds (set ss i s) ≡ set (seconds ss) i s.second
unfolding seconds
seconds_set [] i s = refl
seconds_set (t ∷ ss) zero s = refl
seconds_set (t ∷ ss) (suc i) s = rw (seconds_set ss i s)

-- the code's test of row i, in either crossing
module _ (p l : ℕ) (ss : List Start) (a b i : ℕ) (d : Start) (x : Bool) (h : i < length ss) where
  pub near_first : x ≡ apartb p l (get_or ss i d).first a → near p l (firsts ss) (seconds ss) a b one i ≡ not x
  unfolding near
  near_first e = rw (first_at ss i d h, e)

  pub near_second : x ≡ apartb p l (get_or ss i d).second b → near p l (firsts ss) (seconds ss) a b two i ≡ not x
  unfolding near
  near_second e = rw (second_at ss i d h, e)

-- the crossing with a number: no second one has the same
abbrev pub crossing_of : ℕ → Crossing
crossing_of n = cond (eqb n 1) First Second

pub crossing_again : (c : Crossing) → crossing_of (crossing_number c) ≡ c
crossing_again First = refl
crossing_again Second = refl
