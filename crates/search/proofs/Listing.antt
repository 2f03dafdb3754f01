-- The list of steps holds just the steps, in their order. Assumes nothing.
use mathlib.Core.Path.{◌≡◌, refl}
use mathlib.Core.Logic.{⊎_elim}
use mathlib.Core.Bool.{Bool, true, false, ◌&&◌, not, cond}
use mathlib.Core.List.Memᴰ
use mathlib.Core.List.{List, [], ◌∷◌, Memᴰ}
use Prim.Native.Nat.{ℕ, ◌<◌}
use native.Mathlib.Omega.{arith}
use lib.Dec.{ltb}
use borrow.Author.Tests.{lt-ltb, ltb-true, not-true}
use Rattle.link.specs.Rows.{Crossing, one, two}
use Rattle.ground.specs.Series.{from, Increasing}
use Rattle.ground.proofs.Bools.{and_parts}
use Rattle.ground.proofs.Series.{in_from, from_in, increasing_one, from_increasing}
use Rattle.search.specs.Steps.{Step, step, placed, besides, row_steps, steps, is_step}
use Rattle.search.specs.Builds.{earlier_step}
use Rattle.search.proofs.Orders.{row_first, beside_first, crossing_first}

module _ (p : ℕ) (s : List ℕ) (j : ℕ) where
  beside_in : (i : ℕ) (c : Crossing) → placed p s i ≡ true → Memᴰ (step j i c) (besides p s j i)
  unfolding besides
  beside_in i one e = rw e (Memᴰ.head refl)
  beside_in i two e = rw e (Memᴰ.tail (Memᴰ.head refl))

  -- what stands beside the row i
  record Beside (i : ℕ) (k : Step) : Type 0 where
    crossed : Crossing
    is : k ≡ step j i crossed
    there : placed p s i ≡ true

  in_beside : (i : ℕ) (k : Step) → Memᴰ k (besides p s j i) → Beside i k
  unfolding besides
  in_beside i k m = go (placed p s i) refl m
    where
      go : (b : Bool) → placed p s i ≡ b → Memᴰ k (cond b (step j i one ∷ step j i two ∷ []) []) → Beside i k
      go true e h =
          ⊎_elim (λ q. record { crossed = one; is = q; there = e })
          (λ q. ⊎_elim (λ r. record { crossed = two; is = r; there = e }) (λ r. absurd (Memᴰ.not-nil r)) (Memᴰ.cases_cons q))
          (Memᴰ.cases_cons h)
      go false e h = absurd (Memᴰ.not-nil h)

  beside_increasing : (i : ℕ) → Increasing earlier_step (besides p s j i)
  unfolding besides
  beside_increasing i = go (placed p s i)
    where
      go : (b : Bool) → Increasing earlier_step (cond b (step j i one ∷ step j i two ∷ []) [])
      go true = (
        λ y m. ⊎_elim (λ q. rw q (crossing_first j i)) (λ q. absurd (Memᴰ.not-nil q)) (Memᴰ.cases_cons m),
        increasing_one earlier_step (step j i two),
      )
      go false = tt

  besides_apart : (i l : ℕ) → i < l → (x y : Step) → Memᴰ x (besides p s j i) → Memᴰ y (besides p s j l)
      → earlier_step x y ≡ true
  besides_apart i l h x y a b =
      let u = in_beside i x a in
      let v = in_beside l y b in
      rw (u.is, v.is) (beside_first j i l u.crossed v.crossed h)

module _ (p n : ℕ) (s : List ℕ) where
  -- what a row's steps are
  record OfRow (j : ℕ) (k : Step) : Type 0 where
    free : placed p s j ≡ false
    other : ℕ
    low : other < n
    at : Beside p s j other k

  in_row : (j : ℕ) (k : Step) → Memᴰ k (row_steps p n s j) → OfRow j k
  unfolding row_steps
  in_row j k m = go (placed p s j) refl m
    where
      go : (b : Bool) → placed p s j ≡ b → Memᴰ k (cond b [] (from (besides p s j) 0 n)) → OfRow j k
      go true e h = absurd (Memᴰ.not-nil h)
      go false e h =
          let w = from_in (besides p s j) 0 n k h in
          record { free = e; other = w.0; low = omega (arith, w.2); at = in_beside p s j w.0 k w.3 }

  row_increasing : (j : ℕ) → Increasing earlier_step (row_steps p n s j)
  unfolding row_steps
  row_increasing j = go (placed p s j)
    where
      go : (b : Bool) → Increasing earlier_step (cond b [] (from (besides p s j) 0 n))
      go true = tt
      go false = from_increasing (besides p s j) earlier_step (beside_increasing p s j) (besides_apart p s j) 0 n

  rows_apart : (i l : ℕ) → i < l → (x y : Step) → Memᴰ x (row_steps p n s i) → Memᴰ y (row_steps p n s l) → earlier_step x y ≡ true
  rows_apart i l h x y a b = let u = in_row i x a in let v = in_row l y b in rw (u.at.is, v.at.is) (row_first _ _ h)

  -- "Steps are ordered by j, then i, then crossing."
  pub steps_increasing : Increasing earlier_step (steps p n s)
  unfolding steps
  steps_increasing = from_increasing (row_steps p n s) earlier_step row_increasing rows_apart 0 n

  -- "A step names a row j not yet placed, a placed row i, and a crossing (1 or 2).": each such step is in the list, and nothing else
  pub steps_have : (k : Step) → is_step p n s k ≡ true → Memᴰ k (steps p n s)
  unfolding steps is_step row_steps
  steps_have k e =
      let w = and_parts (ltb k.row n && ltb k.beside n) (not (placed p s k.row) && placed p s k.beside) e in
      let u = and_parts (ltb k.row n) (ltb k.beside n) w.0 in
      let v = and_parts (not (placed p s k.row)) (placed p s k.beside) w.1 in
      let a : k.row < n = ltb-true _ _ u.0 in
      let b : k.beside < n = ltb-true _ _ u.1 in
      in_from (row_steps p n s) 0 n k.row k (omega arith) (omega arith)
      (rw (not-true (placed p s k.row) v.0) (in_from (besides p s k.row) 0 n k.beside k (omega arith) (omega arith)
      (beside_in p s k.row k.beside k.crossing v.1)))

  pub steps_are : (k : Step) → Memᴰ k (steps p n s) → is_step p n s k ≡ true
  unfolding steps is_step
  steps_are k m =
      let w = from_in (row_steps p n s) 0 n k m in
      let r = in_row w.0 k w.3 in
      rw (r.at.is, lt-ltb w.0 n (omega (arith, w.2)), lt-ltb r.other n r.low, r.free, r.at.there)
