-- Lists: an element with a test, or none; lists that strictly increase; what a function gives for one number after the other.
-- Assumes nothing.
use mathlib.Core.Path.{◌≡◌, refl, sym, ap, ◌∙◌}
use mathlib.Core.Logic.{◌⊎◌, inl, inr, ⊎_elim}
use mathlib.Core.Bool.{Bool, true, false, cond}
use mathlib.Core.List.Memᴰ
use mathlib.Core.List.{List, [], ◌∷◌, ◌++◌, append_assoc, append-nil, Memᴰ}
use Prim.Native.Nat.{ℕ, zero, suc, ◌+◌, ◌*◌, ◌<◌, ◌≤◌}
use native.Mathlib.Omega.{arith}
use native.Mathlib.Nat.{zero-mul, mul-zero, mul-suc, suc-mul, add_comm, zero-add}
use native.Mathlib.Numerals.{add-one}
use lib.ListN.{length, get_or, length-append}
use Rattle.ground.specs.Count.{count}
use Rattle.ground.specs.Series.{from, listed, Before, Increasing}
use Rattle.ground.proofs.Bools.{lt_or_ge}

module _ {A : Type 0} where
  -- some element has the test, or none has
  pub look : (f : A → Bool) (xs : List A) → ((x : A) × Memᴰ x xs × (f x ≡ true)) ⊎ ((x : A) → Memᴰ x xs → f x ≡ false)
  look f [] = inr (λ x m. absurd (Memᴰ.not-nil m))
  look f (y ∷ xs) = go (f y) refl (look f xs)
    where
      go : (b : Bool) → f y ≡ b → ((x : A) × Memᴰ x xs × (f x ≡ true)) ⊎ ((x : A) → Memᴰ x xs → f x ≡ false)
          → ((x : A) × Memᴰ x (y ∷ xs) × (f x ≡ true)) ⊎ ((x : A) → Memᴰ x (y ∷ xs) → f x ≡ false)
      go true e w = inl (y, Memᴰ.head refl, e)
      go false e (inl w) = inl (w.0, Memᴰ.tail w.1, w.2)
      go false e (inr w) = inr (λ x m. ⊎_elim (λ z. ap f z ∙ e) (w x) (Memᴰ.cases_cons m))

module _ {A : Type 0} (lt : A → A → Bool) where
  pub increasing_append : (xs ys : List A) → Increasing lt xs → Increasing lt ys → ((x : A) → Memᴰ x xs → Before lt x ys)
      → Increasing lt (xs ++ ys)
  increasing_append [] ys a b h = b
  increasing_append (x ∷ xs) ys a b h = (
    λ y m. ⊎_elim (λ l. a.0 y l) (λ r. h x (Memᴰ.head refl) y r) (Memᴰ.append_cases xs m),
    increasing_append xs ys a.1 b (λ z m. h z (Memᴰ.tail m)),
  )

  pub increasing_one : (x : A) → Increasing lt (x ∷ [])
  increasing_one x = (λ y m. absurd (Memᴰ.not-nil m), tt)

module _ {A : Type 0} where
  pub from_cong : (f g : ℕ → List A) (a m : ℕ) → ((i : ℕ) → a ≤ i → i < a + m → f i ≡ g i) → from f a m ≡ from g a m
  unfolding from
  from_cong f g a zero h = refl
  from_cong f g a (suc m) h = rw (h a (omega arith) (omega arith), from_cong f g (suc a) m (λ i l k. h i (omega arith) (omega arith)))

  pub from_nothing : (f : ℕ → List A) (a m : ℕ) → ((i : ℕ) → a ≤ i → f i ≡ []) → from f a m ≡ []
  unfolding from
  from_nothing f a zero h = refl
  from_nothing f a (suc m) h = rw (h a (omega arith), from_nothing f (suc a) m (λ i l. h i (omega arith)))

  pub from_append : (f : ℕ → List A) (a m k : ℕ) → from f a (m + k) ≡ from f a m ++ from f (a + m) k
  unfolding from
  from_append f a zero k = let e : 0 + k ≡ k = omega arith in let q : a + 0 ≡ a = omega arith in rw (e, q)
  from_append f a (suc m) k =
      let e : suc m + k ≡ suc (m + k) = omega arith in
      let q : a + suc m ≡ suc a + m = omega arith in
      rw (e, q, append_assoc) (ap (◌++◌ (f a)) (from_append f (suc a) m k))

  pub from_shift : (f : ℕ → List A) (b a m : ℕ) → from f (b + a) m ≡ from (λ i. f (b + i)) a m
  unfolding from
  from_shift f b a zero = refl
  from_shift f b a (suc m) = let e : suc (b + a) ≡ b + suc a = omega arith in rw e (ap (◌++◌ (f (b + a))) (from_shift f b (suc a) m))

  -- w numbers at a time
  pub from_blocks : (f : ℕ → List A) (w a m : ℕ) → from f (a * w) (m * w) ≡ from (λ i. from f (i * w) w) a m
  unfolding from
  from_blocks f w a zero = rw (zero-mul w)
  from_blocks f w a (suc m) =
      rw (suc-mul m w, add_comm (m * w) w, from_append f (a * w) w (m * w), ← suc-mul a w)
      (ap (◌++◌ (from f (a * w) w)) (from_blocks f w (suc a) m))

  from_one : (f : ℕ → List A) (a : ℕ) → from f a 1 ≡ f a
  unfolding from
  from_one f a = append-nil (f a)

  from_last : (f : ℕ → List A) (m : ℕ) → from f 0 (suc m) ≡ from f 0 m ++ f m
  from_last f m =
      let e : 0 + m ≡ m = omega arith in
      ap (from f 0) (sym (add-one m)) ∙ from_append f 0 m 1 ∙ rw e (ap (◌++◌ (from f 0 m)) (from_one f m))

  -- w elements for each number that has q
  pub length_from : (f : ℕ → List A) (q : ℕ → Bool) (w : ℕ) → ((i : ℕ) → length (f i) ≡ cond (q i) w 0) → (m : ℕ)
      → length (from f 0 m) ≡ w * count q m
  unfolding from count
  length_from f q w h zero = sym (mul-zero w)
  length_from f q w h (suc m) =
      ap length (from_last f m) ∙ length-append (from f 0 m) (f m) ∙ rw (length_from f q w h m, h m) (go (q m))
    where
      go : (b : Bool) → w * count q m + cond b w 0 ≡ w * (cond b 1 0 + count q m)
      go true = rw (add_comm 1 (count q m), add-one) (sym (mul-suc w (count q m)))
      go false = let e : 0 + count q m ≡ count q m = omega arith in rw e (omega arith)

module _ {A : Type 0} (f : ℕ → A) where
  length_ones : (a m : ℕ) → length (from (λ i. f i ∷ []) a m) ≡ m
  unfolding from
  length_ones a zero = refl
  length_ones a (suc m) = ap suc (length_ones (suc a) m)

  get_or_ones : (d : A) (a m i : ℕ) → i < m → get_or (from (λ j. f j ∷ []) a m) i d ≡ f (a + i)
  unfolding from
  get_or_ones d a zero i h = absurd (omega arith)
  get_or_ones d a (suc m) zero h = let e : a + 0 ≡ a = omega arith in rw e
  get_or_ones d a (suc m) (suc i) h = let e : a + suc i ≡ suc a + i = omega arith in rw e (get_or_ones d (suc a) m i (omega arith))

  pub length_listed : (m : ℕ) → length (listed f m) ≡ m
  length_listed m = length_ones 0 m

  pub get_or_listed : (d : A) (m i : ℕ) → i < m → get_or (listed f m) i d ≡ f i
  get_or_listed d m i h = get_or_ones d 0 m i h ∙ ap f (zero-add i)

module _ {A : Type 0} (f : ℕ → List A) where
  pub in_from : (a m i : ℕ) (x : A) → a ≤ i → i < a + m → Memᴰ x (f i) → Memᴰ x (from f a m)
  unfolding from
  in_from a zero i x h l e = absurd (omega arith)
  in_from a (suc m) i x h l e =
      ⊎_elim (λ q. Memᴰ.append_right (f a) (in_from (suc a) m i x (omega arith) (omega arith) e))
      (λ q. let z : i ≡ a = omega arith in Memᴰ.append_left (from f (suc a) m) (rw z at e)) (lt_or_ge a i)

  pub from_in : (a m : ℕ) (x : A) → Memᴰ x (from f a m) → (i : ℕ) × (a ≤ i) × (i < a + m) × Memᴰ x (f i)
  unfolding from
  from_in a zero x e = absurd (Memᴰ.not-nil e)
  from_in a (suc m) x e =
      ⊎_elim (λ q. (a, omega arith, omega arith, q))
      (λ q. let w = from_in (suc a) m x q in (w.0, omega (arith, w.1), omega (arith, w.2), w.3)) (Memᴰ.append_cases (f a) e)

  pub from_increasing : (lt : A → A → Bool) → ((i : ℕ) → Increasing lt (f i))
      → ((i j : ℕ) → i < j → (x y : A) → Memᴰ x (f i) → Memᴰ y (f j) → lt x y ≡ true)
      → (a m : ℕ) → Increasing lt (from f a m)
  unfolding from
  from_increasing lt s h a zero = tt
  from_increasing lt s h a (suc m) =
      increasing_append lt (f a) (from f (suc a) m) (s a) (from_increasing lt s h (suc a) m)
      (λ x e y g. let w = from_in (suc a) m y g in h a w.0 (omega (arith, w.1)) x y e w.3)
