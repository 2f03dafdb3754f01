-- Both bounds are sharp: one below them there is a table whose last row gets 13, for each number of rows from 2 on and each size, of
-- Meta-Offset's from 2 on. Assumes nothing.
use mathlib.Core.Path.{◌≡◌, refl, ap, ◌∙◌}
use mathlib.Core.Logic.{inl, inr, ⊎_elim}
use mathlib.Core.List.{List}
use Prim.Native.Nat.{ℕ, suc, ◌+◌, ◌-◌, ◌*◌, ◌/◌, ◌%◌, ◌≤◌, ◌<◌}
use native.Mathlib.Omega.{arith}
use native.Mathlib.Nat.{mod-lt, add-mul, one-mul, mul-one, mul-suc, suc-mul, mul-add, mul-le-mul_right, div-add-mod}
use native.Mathlib.Nat.{le_of_mul-le-mul_right, div-mul-le_self, lt-div-mul-add, div-lt_iff_lt-mul}
use lib.ListN.{length}
use Rattle.ground.specs.Protocol.{gives}
use Rattle.ground.proofs.Bools.{lt_or_ge}
use Rattle.link.specs.Limits.{max_period, max_rows}
use Rattle.link.specs.Slots.{gap}
use Rattle.quick.specs.Answer.{Planned, thirteen, said, first_fit, meta_offset}
use Rattle.quick.specs.Loads.{full_for_meta_offset, full_for_first_fit}
use Rattle.quick.proofs.Candidates.{next_low}
use Rattle.quick.proofs.Enough.{messages}
use Rattle.quick.proofs.Full.{Spread, Covered, last_refused}

-- Meta-Offset: every period, size from 2 on and number of rows from 2 on where P divided by T is 3n-3; n is u + 1
module _ (p t u : ℕ) (rows : 1 ≤ u) (many : u < max_rows) (wide : 2 ≤ t) (low : p ≤ max_period) (short : p / t ≡ 3 * u) where
  pub meta_offset_sharp : (old : List ℕ) → u < length old → (r : Planned) (new : List ℕ)
      → gives (said r) new ≡ meta_offset (record { period = p; size = t }) (full_for_meta_offset p t u) old → r ≡ thirteen u
  meta_offset_sharp =
      last_refused d p t u spread t (p / t) (λ i. i) (λ i h. refl) (λ i h. omega arith) (omega arith)
      (λ c h. omega (arith, next_low c (p / t) t h, div-mul-le_self p t)) cover many low
    where
      d : ℕ → ℕ
      d i = i * t + 1

      room_for_three : u * t + (u * t + u * t) ≤ p
      room_for_three =
          let e : 3 * u ≡ u + (u + u) = omega arith in
          let f : 3 * u * t ≡ u * t + (u * t + u * t) = rw (e, add-mul, add-mul) in
          let g : p / t * t ≡ 3 * u * t = ap (λ (n : ℕ). n * t) short in
          omega (arith, div-mul-le_self p t)

      spread : Spread d p t u
      spread =
          record {
            rows = rows;
            some = omega arith;
            fits = omega (arith, room_for_three);
            next = λ i j h k. omega (arith, next_low i j t h);
            high = λ i h. omega (arith, next_low i u t h, room_for_three);
          }

      -- the multiples u + 2i and u + 2i + 1 are on either side of row i's second start
      cover : (c : ℕ) → c < p / t → u * t ≤ c * t → Covered d p t u (c * t)
      cover c h l =
          let i = (c - u) / 2 in
          let q : u ≤ c = le_of_mul-le-mul_right l (omega arith) in
          let e = div-add-mod (c - u) 2 in
          let s : (c - u) % 2 < 2 = mod-lt (c - u) (omega arith) in
          let from : u + (i + i) ≤ c = omega arith in
          let to : c ≤ u + (i + i) + 1 = omega arith in
          let f : (u + (i + i)) * t ≡ u * t + (i * t + i * t) = rw (add-mul, add-mul) in
          let g : (u + (i + i) + 1) * t ≡ u * t + (i * t + i * t) + t = rw (add-mul, f, one-mul) in
          inl (i, omega arith, omega (arith, mul-le-mul_right t from, mul-le-mul_right t to))

-- First Fit: every size and number of rows from 2 on, P being (3n-2)T - n
module _ (p t u : ℕ) (rows : 1 ≤ u) (many : u < max_rows) (some : 1 ≤ t) (low : p ≤ max_period)
    (short : p + (u + 1) ≡ (3 * (u + 1) - 2) * t) where
  pub first_fit_sharp : (old : List ℕ) → u < length old → (r : Planned) (new : List ℕ)
      → gives (said r) new ≡ first_fit (record { period = p; size = t }) (full_for_first_fit p t u) old → r ≡ thirteen u
  first_fit_sharp =
      last_refused d p t u spread 1 p (λ i. i * t) (λ i h. mul-one (i * t)) (λ i h. omega (arith, spread.high i h)) (omega arith)
      (λ c h. omega (arith, mul-one c)) cover many low
    where
      -- t slots are s and one more
      s : ℕ
      s = t - 1

      times : (i : ℕ) → i * t ≡ i * s + i
      times i = let e : t ≡ suc s = omega arith in ap (λ (n : ℕ). i * n) e ∙ mul-suc i s

      d : ℕ → ℕ
      d i = suc i * s

      second_at : (i : ℕ) → i * t + d i ≡ i * s + i * s + i + s
      second_at i = omega (arith, times i, suc-mul i s)

      whole : p ≡ u * s + (u * s + u * s) + (u + u) + s
      whole = omega (arith, short, messages u t, times u)

      spread : Spread d p t u
      spread =
          record {
            rows = rows;
            some = some;
            fits = omega (arith, whole, times u);
            next = λ i j h k. omega (arith, second_at i, second_at j, next_low i j s h);
            high = λ i h. omega (arith, second_at i, next_low i u s h, whole);
          }

      -- w offsets for each row, and the last s of the period for row 0
      w : ℕ
      w = s + s + 1

      by_w : (i : ℕ) → i * w ≡ i * s + i * s + i
      by_w i = rw (mul-add, mul-add, mul-one)

      within : (y : ℕ) → y < u * w → (i : ℕ) × (i < u) × (gap (i * t + d i) y < t)
      within y q =
          let i = y / w in
          let some_w : 0 < w = omega arith in
          (i, (div-lt_iff_lt-mul some_w).1 q, omega (arith, second_at i, by_w i, div-mul-le_self y w, lt-div-mul-add {a = y} some_w))

      cover : (c : ℕ) → c < p → u * t ≤ c * 1 → Covered d p t u (c * 1)
      cover c h l =
          ⊎_elim (λ q. inl (within (c * 1 - u * t) q)) (λ q. inr (omega (arith, whole, times u, by_w u))) (lt_or_ge (c * 1 - u * t) (u * w))
