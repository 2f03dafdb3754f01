-- What holds of each fault that applies in a list, of its number and its place, holds of the first fault. Assumes nothing.
use mathlib.Core.Path.{◌≡◌, refl, sym, ◌∙◌}
use mathlib.Core.Bool.{Bool, true, false}
use mathlib.Core.List.{List, [], ◌∷◌}
use Prim.Native.Nat.{ℕ}
use Rattle.ground.specs.Judging.{Cause, when, first, and_then}
use Rattle.ground.proofs.Bools.{never}
use Rattle.ground.proofs.Faults.{or_else, first_append}
use Rattle.ground.specs.Judging.{Judged}
use Rattle.ground.specs.Judging.{Fine, Fault}

-- the first fault of the list, if there is one, has P
pub record Only (P : ℕ → ℕ → Type 0) (cs : List Cause) : Type 0 where
  pub fault : (n p : ℕ) → first cs ≡ Fault n p → P n p

module _ (P : ℕ → ℕ → Type 0) where
  pub only_none : Only P []
  unfolding first
  only_none = record { fault = λ n p e. never (cc) }

  pub only_more : (b : Bool) (number place : ℕ) {cs : List Cause} → (b ≡ true → P number place) → Only P cs
      → Only P (when b number place ∷ cs)
  unfolding first
  only_more true number place f g =
      record { fault = λ n p e. let a : number ≡ n = cc in let b : place ≡ p = cc in rw (← a, ← b) (f refl) }
  only_more false number place f g = record { fault = g.fault }

  -- the second list is judged where the first has none
  pub only_then : (xs ys : List Cause) → Only P xs → (first xs ≡ Fine → Only P ys) → Only P (and_then xs ys)
  unfolding and_then
  only_then xs ys f g = record { fault = λ n p e. go n p (first xs) refl (sym (first_append xs ys) ∙ e) }
    where
      go : (n p : ℕ) (j : Judged) → first xs ≡ j → or_else j (first ys) ≡ Fault n p → P n p
      go n p Fine h e = (g h).fault n p e
      go n p (Fault a b) h e = f.fault n p (h ∙ e)
