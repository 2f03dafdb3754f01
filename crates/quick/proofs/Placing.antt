-- How the code's walk over the rows is the definition's. Assumes nothing.
use mathlib.Core.Path.{◌≡◌, refl, subst}
use mathlib.Core.List.{List}
use mathlib.Core.Logic.{⊎_elim}
use Prim.Native.Nat.{ℕ, zero, suc, ◌+◌, ◌*◌, ◌≤◌, ◌<◌}
use native.Mathlib.Omega.{arith}
use native.Mathlib.Numerals.{add-one}
use lib.ListN.{length, get_or, take, set}
use lib.Seq.{take-suc-set}
use borrow.Author.Tests.{lt-ltb, le-ltb}
use Rattle.ground.specs.Least.{least, least_from}
use Rattle.link.specs.Limits.{max_rows}
use Rattle.link.specs.Rows.{second}
use Rattle.ground.proofs.Bools.{lt_or_ge}
use Rattle.quick.specs.Plan.{free_at, rows, stuck, place, placed}
use Rattle.quick.specs.Ways.{Ways, open_to}
use Rattle.quick.proofs.Candidates.{candidate_low}
use Rattle.quick.proofs.Standing.{Standing, none_stands, put, least_free}

-- j rows are placed, with the starts xs and ys
pub record State (p l : ℕ) (ds : List ℕ) (step count j : ℕ) (xs ys : List ℕ) : Type 0 where
  pub standing : Standing p ds j xs ys
  pub done : placed p l ds step count j ≡ rows (take j xs)

module _ (p l : ℕ) (ds : List ℕ) (step count : ℕ) where
  pub none_yet : (xs ys : List ℕ) → length xs ≡ max_rows → length ys ≡ max_rows → State p l ds step count 0 xs ys
  unfolding placed
  none_yet xs ys e f = record { standing = none_stands p ds xs ys e f; done = refl }

  -- a row that has no offset ends it
  pub stays : (j i m : ℕ) → placed p l ds step count j ≡ stuck i → j ≤ m → placed p l ds step count m ≡ stuck i
  unfolding placed place
  stays j i zero e h = let z : j ≡ 0 = omega arith in subst (λ (x : ℕ). placed p l ds step count x ≡ stuck i) z e
  stays j i (suc m) e h =
      ⊎_elim (λ q. rw (stays j i m e (omega arith)))
      (λ g. let z : j ≡ suc m = omega arith in subst (λ (x : ℕ). placed p l ds step count x ≡ stuck i) z e) (lt_or_ge j (suc m))

module _
    (p l : ℕ) (ds : List ℕ) (step count : ℕ) (w : Ways p l step count) (j : ℕ) (hj : j < max_rows) (xs ys : List ℕ)
    (s : State p l ds step count j xs ys) (c : ℕ)
    (e : c ≡ least_from (open_to p l (get_or ds j 0) (take j xs) (take j ys) step) 0 count)
  where
    found : c ≡ least (free_at p l ds (take j xs) j step) count
    found = least_free p l ds j hj xs ys s.standing step count w c e

    pub blocked : count ≤ c → (n : ℕ) → j < n → placed p l ds step count n ≡ stuck j
    unfolding placed place
    blocked h n q =
        stays p l ds step count (suc j) j n (rw (s.done, le-ltb _ count (subst (λ (x : ℕ). count ≤ x) found h))) (omega arith)

    -- one row more
    pub onward : (b : ℕ) → c < count → b ≡ second p (get_or ds j 0) (c * step)
        → State p l ds step count (j + 1) (set xs j (c * step)) (set ys j b)
    unfolding placed place
    onward b h f =
        record {
          standing =
              put p ds j xs ys s.standing j (c * step) b hj (candidate_low p l step count w c h) f (j + 1) (λ k q n. omega arith);
          done =
              let low = subst (λ (x : ℕ). x < count) found h in
              let room : j < length xs = omega (arith, s.standing.xs_length) in
              rw (add-one, s.done, take-suc-set xs j (c * step) room, lt-ltb _ count low, ← found);
        }
