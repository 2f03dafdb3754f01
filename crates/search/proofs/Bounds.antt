-- There are never more step sequences than the ceiling. Assumes nothing.
use mathlib.Core.Path.{◌≡◌, refl}
use mathlib.Core.Bool.{Bool, true, false, not, cond}
use mathlib.Core.List.{List, [], ◌∷◌, map, Memᴰ}
use Prim.Native.Nat.{ℕ, zero, suc, ◌+◌, ◌-◌, ◌*◌, ◌<◌, ◌≤◌}
use native.Mathlib.Omega.{arith}
use native.Mathlib.Nat.{le_trans, le_refl, suc-mul}
use lib.ListN.{length, length-append, length-map}
use Rattle.ground.specs.Count.{count}
use Rattle.ground.specs.Series.{from}
use Rattle.ground.proofs.Counting.{count_not}
use Rattle.ground.proofs.Series.{length_from}
use Rattle.link.specs.Limits.{max_rows}
use Rattle.link.specs.Rows.{one, two}
use Rattle.search.specs.Steps.{Step, step, Rules, rules, placed, besides, row_steps, steps}
use Rattle.search.specs.Builds.{behind, sequences, begin}
use Rattle.search.specs.Ceilings.{choices, ceiling_of}
use Rattle.search.proofs.Ceilings.{nested, products_nested}
use Rattle.search.proofs.Listing.{steps_are}
use Rattle.search.proofs.States.{At, put_at, begin_at}

-- each candidate is one sequence, and has at most b behind it
behind_most : (r : Rules) (d : List ℕ → List (List Step)) (s : List ℕ) (b : ℕ) (ks : List Step)
    → ((k : Step) → Memᴰ k ks → length (d (r.put s k)) ≤ b)
    → length (behind r d s ks) ≤ length ks * (1 + b)
unfolding behind
behind_most r d s b [] h = omega arith
behind_most r d s b (k ∷ ks) h =
    let n = behind_most r d s b ks (λ x m. h x (Memᴰ.tail m)) in
    let e = length-append (map (◌∷◌ k) ([] ∷ cond (r.good s k) (d (r.put s k)) [])) (behind r d s ks) in
    let f : suc (length ks) * (1 + b) ≡ length ks * (1 + b) + (1 + b) = suc-mul (length ks) (1 + b) in
    let g = length-map ([] ∷ cond (r.good s k) (d (r.put s k)) []) (◌∷◌ k) in
    let w = few (r.good s k) (h k (Memᴰ.head refl)) in
    omega arith
  where
    few : (x : Bool) → length (d (r.put s k)) ≤ b → length ([] ∷ cond x (d (r.put s k)) []) ≤ 1 + b
    few true m = omega arith
    few false m = omega arith

module _ (p n : ℕ) (s : List ℕ) where
  beside_two : (j i : ℕ) → length (besides p s j i) ≡ cond (placed p s i) 2 0
  unfolding besides
  beside_two j i = go (placed p s i)
    where
      go : (b : Bool) → length (cond b (step j i one ∷ step j i two ∷ []) []) ≡ cond b 2 0
      go true = refl
      go false = refl

  row_length : (j : ℕ) → length (row_steps p n s j) ≡ cond (not (placed p s j)) (2 * count (placed p s) n) 0
  unfolding row_steps
  row_length j = go (placed p s j)
    where
      go : (b : Bool) → length (cond b [] (from (besides p s j) 0 n)) ≡ cond (not b) (2 * count (placed p s) n) 0
      go true = refl
      go false = length_from (besides p s j) (placed p s) 2 (beside_two j) n

  -- two for each row that is placed and each that is not
  pub steps_length : length (steps p n s) ≡ 2 * count (placed p s) n * count (λ i. not (placed p s i)) n
  unfolding steps
  steps_length = length_from (row_steps p n s) (λ i. not (placed p s i)) (2 * count (placed p s) n) row_length n

module _ (p l : ℕ) (ds : List ℕ) (n : ℕ) (some : 0 < p) where
  choices_at : (b u : ℕ) (s : List ℕ) → b + u ≡ n → At p n u s → length (steps p n s) ≡ choices n b
  unfolding choices
  choices_at b u s e a =
      let f = count_not (placed p s) n in
      let x : count (placed p s) n ≡ b = omega (arith, a.left) in
      let y : n - b ≡ u = omega arith in
      rw (steps_length p n s, x, y, a.left)

  pub sequences_most : (u b : ℕ) (s : List ℕ) → b + u ≡ n → At p n u s → length (sequences (rules p l ds n) u s) ≤ nested (choices n) b u
  unfolding sequences nested
  sequences_most zero b s e a = omega arith
  sequences_most (suc u) b s e a =
      le_trans
      (behind_most (rules p l ds n) (sequences (rules p l ds n) u) s (nested (choices n) (suc b) u) (steps p n s)
      (λ k m. sequences_most u (suc b) _ (omega arith) (put_at p l ds s k n u some (steps_are p n s k m) a)))
      (rw (choices_at b (suc u) s e a) (le_refl _))

  pub below_ceiling : 0 < n → n ≤ max_rows → length (sequences (rules p l ds n) (n - 1) (begin p)) ≤ ceiling_of n
  unfolding ceiling_of
  below_ceiling hn few = rw (products_nested (choices n) 1 (n - 1))
      (sequences_most (n - 1) 1 (begin p) (omega arith) (begin_at p n some hn few))
