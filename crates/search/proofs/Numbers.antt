-- A number stands for a step, and the numbers keep the order of the steps: the steps there are, in their order, are those of the
-- numbers 0, 1, .. Nothing above this file looks at the numbers. Assumes nothing.
use mathlib.Core.Path.{◌≡◌, refl, sym, ap, ◌∙◌}
use mathlib.Core.Logic.{⊎_elim}
use mathlib.Core.Bool.{Bool, true, false, ◌&&◌, not, cond, and-false}
use mathlib.Core.List.{List, [], ◌∷◌, ◌++◌, append-nil}
use Prim.Native.Nat.{ℕ, zero, suc, ◌+◌, ◌-◌, ◌*◌, ◌<◌, ◌≤◌, ◌/◌, ◌%◌}
use native.Mathlib.Omega.{arith}
use native.Mathlib.Numerals.{add-one}
use lib.Dec.{ltb}
use lib.ListN.{get_or}
use native.Mathlib.Nat.{mod-eq_of_lt}
use borrow.Author.Tests.{lt-ltb, le-ltb, ltb-true, ltb-false, not-true}
use Rattle.link.specs.Limits.{max_rows}
use Rattle.link.specs.Rows.{one, two, second, start}
use Rattle.link.specs.Slots.{after}
use Rattle.ground.specs.Series.{from}
use Rattle.ground.proofs.Bools.{lt_or_ge, and_parts}
use Rattle.ground.proofs.Series.{from_cong, from_nothing, from_append, from_shift, from_blocks}
use Rattle.search.specs.Steps.{Step, step, placed, besides, row_steps, steps, puts, offset_of, is_step}
use Rattle.search.specs.Numbering.{step_at, Next}

module _ (p n : ℕ) (s : List ℕ) (k : ℕ) where
  row_placed : get_or s (k / (2 * max_rows)) 0 < p → is_step p n s (step_at k) ≡ false
  unfolding is_step step_at placed
  row_placed h = rw (lt-ltb _ p h, and-false)

  beside_out : n ≤ k / 2 % max_rows → is_step p n s (step_at k) ≡ false
  unfolding is_step step_at
  beside_out h = rw (le-ltb _ n h, and-false)

  beside_free : p ≤ get_or s (k / 2 % max_rows) 0 → is_step p n s (step_at k) ≡ false
  unfolding is_step step_at placed
  beside_free h = simp (le-ltb (get_or s (k / 2 % max_rows) 0) p h, and-false)

  pub is_step_lem : k / (2 * max_rows) < n → k / 2 % max_rows < n → p ≤ get_or s (k / (2 * max_rows)) 0 → get_or s (k / 2 % max_rows) 0 < p
      → is_step p n s (step_at k) ≡ true
  unfolding is_step step_at placed
  is_step_lem a b c d = rw (lt-ltb _ n a, lt-ltb _ n b, le-ltb _ p c, lt-ltb _ p d)

-- no step from k to m
abbrev pub Skipped : ℕ → ℕ → List ℕ → ℕ → ℕ → Type 0
Skipped p n s k m = (i : ℕ) → k ≤ i → i < m → is_step p n s (step_at i) ≡ false

module _ (p n : ℕ) (s : List ℕ) (f k : ℕ) (old : Skipped p n s f k) where
  further : (m : ℕ) → Skipped p n s k m → Skipped p n s f m
  further m new i a b = ⊎_elim (λ l. old i a l) (λ l. new i l b) (lt_or_ge i k)

  pub skip_row : get_or s (k / (2 * max_rows)) 0 < p → Skipped p n s f ((k / (2 * max_rows) + 1) * (2 * max_rows))
  skip_row h = further _ (λ i a b. let e : i / (2 * max_rows) ≡ k / (2 * max_rows) = omega arith in row_placed p n s i (rw e h))

  pub skip_rest : n ≤ k / 2 % max_rows → Skipped p n s f ((k / (2 * max_rows) + 1) * (2 * max_rows))
  skip_rest h = further _ (λ i a b. let e : k / 2 % max_rows ≤ i / 2 % max_rows = omega arith in beside_out p n s i (omega arith))

  pub skip_pair : p ≤ get_or s (k / 2 % max_rows) 0 → Skipped p n s f (k + (2 - k % 2))
  skip_pair h = further _ (λ i a b. let e : i / 2 ≡ k / 2 = omega arith in beside_free p n s i (rw e h))

-- what a step names
pub record Names (p n : ℕ) (s : List ℕ) (j i : ℕ) : Type 0 where
  pub row_low : j < n
  pub beside_low : i < n
  pub row_free : p ≤ get_or s j 0
  pub beside_placed : get_or s i 0 < p

pub names : (p n : ℕ) (s : List ℕ) (k : Step) → is_step p n s k ≡ true → Names p n s k.row k.beside
unfolding is_step placed
names p n s k e =
    let w = and_parts (ltb k.row n && ltb k.beside n) (not (ltb (get_or s k.row 0) p) && ltb (get_or s k.beside 0) p) e in
    let u = and_parts (ltb k.row n) (ltb k.beside n) w.0 in
    let v = and_parts (not (ltb (get_or s k.row 0) p)) (ltb (get_or s k.beside 0) p) w.1 in
    record {
      row_low = ltb-true _ _ u.0;
      beside_low = ltb-true _ _ u.1;
      row_free = ltb-false _ _
          (not-true _ v.0);
      beside_placed = ltb-true _ _ v.1;
    }

pub names_at : (p n : ℕ) (s : List ℕ) (k : ℕ) → is_step p n s (step_at k) ≡ true → Names p n s (k / (2 * max_rows)) (k / 2 % max_rows)
unfolding step_at
names_at p n s k e = names p n s (step_at k) e

module _ (p l : ℕ) (ds s : List ℕ) (k : ℕ) where
  pub puts_one : k % 2 ≡ 0 → puts p l ds s (step_at k) ≡ second p l (get_or s (k / 2 % max_rows) 0)
  unfolding puts offset_of after start second step_at
  puts_one e = rw e

  pub puts_two : (k % 2 ≡ 0 → ⊥) → get_or ds (k / (2 * max_rows)) 0 < p → (x y z : ℕ)
      → x ≡ second p (get_or ds (k / 2 % max_rows) 0) (get_or s (k / 2 % max_rows) 0)
      → y ≡ second p l x → z ≡ second p (p - get_or ds (k / (2 * max_rows)) 0) y → z ≡ puts p l ds s (step_at k)
  unfolding puts offset_of after start second step_at
  puts_two o h x y z ex ey ez = let e : k % 2 ≡ 1 = omega arith in rw (e, mod-eq_of_lt h, ← ex, ← ey) ez

-- the steps from a number on
step_of : ℕ → ℕ → List ℕ → ℕ → List Step
step_of p n s k = cond (is_step p n s (step_at k)) (step_at k ∷ []) []

pub steps_from : ℕ → ℕ → List ℕ → ℕ → List Step
steps_from p n s k = from (step_of p n s) k (n * (2 * max_rows) - k)

module _ (p n : ℕ) (s : List ℕ) where
  pub none_from : (k : ℕ) → n * (2 * max_rows) ≤ k → steps_from p n s k ≡ []
  unfolding steps_from from
  none_from k h = let e : n * (2 * max_rows) - k ≡ 0 = omega arith in rw (e, from)

  one_from : (k : ℕ) → k < n * (2 * max_rows) → steps_from p n s k ≡ step_of p n s k ++ steps_from p n s (suc k)
  unfolding steps_from from
  one_from k h = let e : n * (2 * max_rows) - k ≡ suc (n * (2 * max_rows) - suc k) = omega arith in rw (e, from)

  pub step_from : (k : ℕ) → k < n * (2 * max_rows) → is_step p n s (step_at k) ≡ true
      → steps_from p n s k ≡ step_at k ∷ steps_from p n s (k + 1)
  unfolding step_of
  step_from k h e = rw (one_from k h, e, add-one)

  skip_from : (k d : ℕ) → k + d ≤ n * (2 * max_rows) → Skipped p n s k (k + d) → steps_from p n s k ≡ steps_from p n s (k + d)
  unfolding step_of
  skip_from k zero h f = let e : k + 0 ≡ k = omega arith in rw e
  skip_from k (suc d) h f =
      let e : suc k + d ≡ k + suc d = omega arith in
      rw (one_from k (omega arith), f k (omega arith) (omega arith), ← e)
      (skip_from (suc k) d (omega arith) (λ i a b. f i (omega arith) (omega arith)))

  pub next_from : (k m : ℕ) → Next p n s k m → steps_from p n s k ≡ steps_from p n s m
  next_from k m x =
      let e : k + (m - k) ≡ m = omega (arith, x.low) in
      rw e at (skip_from k (m - k) (omega (arith, x.low, x.high)) (λ i a b. x.skipped i a (omega (arith, x.low))))

module _ (p n : ℕ) (few : n ≤ max_rows) (s : List ℕ) where
  number_one : (j i : ℕ) → i < max_rows → step_at ((j * max_rows + i) * 2) ≡ step j i one
  unfolding step_at
  number_one j i h =
      let a : (j * max_rows + i) * 2 / (2 * max_rows) ≡ j = omega arith in
      let b : (j * max_rows + i) * 2 / 2 % max_rows ≡ i = omega arith in
      let c : (j * max_rows + i) * 2 % 2 ≡ 0 = omega arith in
      rw (a, b, c)

  number_two : (j i : ℕ) → i < max_rows → step_at (suc ((j * max_rows + i) * 2)) ≡ step j i two
  unfolding step_at
  number_two j i h =
      let a : suc ((j * max_rows + i) * 2) / (2 * max_rows) ≡ j = omega arith in
      let b : suc ((j * max_rows + i) * 2) / 2 % max_rows ≡ i = omega arith in
      let c : suc ((j * max_rows + i) * 2) % 2 ≡ 1 = omega arith in
      rw (a, b, c)

  -- the steps of the row j beside the row i, if both are among the n rows
  pair : ℕ → ℕ → List Step
  pair j i = cond (ltb i n) (cond (placed p s j) [] (besides p s j i)) []

  pair_from : (j i : ℕ) → j < n → i < max_rows → from (step_of p n s) ((j * max_rows + i) * 2) 2 ≡ pair j i
  unfolding from step_of pair besides is_step
  pair_from j i h k = rw (number_one j i k, number_two j i k, lt-ltb j n h) (go (ltb i n) (placed p s j) (placed p s i))
    where
      go : (x y z : Bool) → cond (x && (not y && z)) (step j i one ∷ []) [] ++ (cond (x && (not y && z)) (step j i two ∷ []) [] ++ [])
          ≡ cond x (cond y [] (cond z (step j i one ∷ step j i two ∷ []) [])) []
      go true true z = refl
      go true false true = refl
      go true false false = refl
      go false y z = refl

  row_from : (j : ℕ) → j < n → from (step_of p n s) (j * (2 * max_rows)) (2 * max_rows) ≡ row_steps p n s j
  unfolding row_steps pair
  row_from j h =
      let e : j * (2 * max_rows) ≡ j * max_rows * 2 = omega arith in
      let q : j * max_rows ≡ j * max_rows + 0 = omega arith in
      rw e
      (from_blocks (step_of p n s) 2 (j * max_rows) max_rows
      ∙ ap (λ (x : ℕ). from (λ i. from (step_of p n s) (i * 2) 2) x max_rows) q
      ∙ from_shift (λ i. from (step_of p n s) (i * 2) 2) (j * max_rows) 0 max_rows
      ∙ from_cong _ (pair j) 0 max_rows (λ i a b. pair_from j i h b)
      ∙ go (placed p s j) refl)
    where
      go : (x : Bool) → placed p s j ≡ x → from (pair j) 0 max_rows ≡ cond x [] (from (besides p s j) 0 n)
      go true e = from_nothing (pair j) 0 max_rows (λ i a. empty i (ltb i n))
        where
          empty : (i : ℕ) (y : Bool) → cond y (cond (placed p s j) [] (besides p s j i)) [] ≡ []
          empty i true = rw e
          empty i false = refl
      go false e =
          let w : n + (max_rows - n) ≡ max_rows = omega arith in
          rw (
            ← w,
            from_append (pair j) 0 n (max_rows - n),
            from_cong (pair j) (besides p s j) 0 n (λ i a b. rw (lt-ltb i n (omega arith), e)),
            from_nothing (pair j) (0 + n) (max_rows - n) (λ i a. rw (le-ltb i n (omega arith))),
          ) (append-nil _)

  -- the steps, in their order
  pub all_from : steps p n s ≡ steps_from p n s 0
  unfolding steps steps_from
  all_from =
      let e : n * (2 * max_rows) - 0 ≡ n * (2 * max_rows) = omega arith in
      rw e (sym (from_blocks (step_of p n s) (2 * max_rows) 0 n ∙ from_cong _ (row_steps p n s) 0 n (λ j a b. row_from j (omega arith))))
