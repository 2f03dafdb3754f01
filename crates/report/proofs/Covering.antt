-- Which slots a message uses, said with no remainder: those from its start on, and, if it goes over the period's end, those before its end;
-- and which slots are free of all messages. Assumes nothing.
use mathlib.Core.Path.{◌≡◌, ◌∙◌, ap}
use mathlib.Core.Bool.{true, false, not}
use mathlib.Core.Logic.{◌⊎◌, inl, inr, ⊎_elim}
use Prim.Native.Nat.{ℕ, ◌+◌, ◌-◌, ◌%◌, ◌≤◌, ◌<◌}
use native.Mathlib.Omega.{arith}
use native.Mathlib.Nat.{mod-eq_of_lt}
use borrow.Author.Tests.{ltb-true, not-false}
use Rattle.ground.specs.Least.{least}
use Rattle.link.specs.Slots.{uses, Uses}
use Rattle.ground.proofs.Bools.{is_false}
use Rattle.ground.proofs.Minimum.{some_at, some_none, some_has}
use Rattle.link.proofs.OnCircle.{Turned, turned, uses_true, uses_slot}
use Rattle.report.specs.Free.{used_of, free_of}

abbrev pub Covers : ℕ → ℕ → ℕ → ℕ → Type 0
Covers p t a s = ((a ≤ s) × (s < a + t)) ⊎ (s + p < a + t)

module _ (p t a s : ℕ) (ha : a < p) (ht : t ≤ p) (hs : s < p) where
  covers : Uses p t a s → Covers p t a s
  covers u = go u.0 u.1 (rw u.2 at (turned p (a + u.0) (omega arith)))
    where
      go : (k : ℕ) → k < t → Turned p (a + k) s → Covers p t a s
      go k h (inl w) = inl (omega arith)
      go k h (inr w) = inr (omega arith)

  -- the slot is neither in the part from the start on nor in the part before the end
  pub outside : (a ≤ s → a + t ≤ s) → a + t ≤ s + p → Uses p t a s → ⊥
  outside f g u = ⊎_elim (λ w. let h = f w.0 in omega arith) (λ w. omega arith) (covers u)

  pub covered : Covers p t a s → Uses p t a s
  covered (inl w) =
      let e : a + (s - a) ≡ s = omega arith in
      (s - a, omega arith, ap (λ (x : ℕ). x % p) e ∙ mod-eq_of_lt hs)
  covered (inr w) =
      let e : a + (s + p - a) ≡ s + p = omega arith in
      (s + p - a, omega arith, ap (λ (x : ℕ). x % p) e ∙ back (turned p (s + p) (omega arith)))
    where
      back : {r : ℕ} → Turned p (s + p) r → r ≡ s
      back (inl u) = omega arith
      back (inr u) = omega arith

module _ (p t : ℕ) (starts : ℕ → ℕ) (n s : ℕ) where
  pub used_by : (i : ℕ) → i < n → Uses p t (starts i) s → free_of p t starts n s ≡ false
  unfolding free_of used_of
  used_by i l u = ap not (some_at _ n i l (uses_true _ _ _ _ u))

  pub free_of_all : ((i : ℕ) → i < n → Uses p t (starts i) s → ⊥) → free_of p t starts n s ≡ true
  unfolding free_of used_of
  free_of_all f = ap not (some_none _ n (λ i l. is_false _ (λ e. f i l (uses_slot _ _ _ _ e))))

  pub used_some : free_of p t starts n s ≡ false → (i : ℕ) × (i < n) × Uses p t (starts i) s
  unfolding free_of used_of
  used_some e =
      let f = not-false (used_of p t starts n s) e in
      (least (λ i. uses p t (starts i) s) n, ltb-true _ _ f, uses_slot _ _ _ _ (some_has (λ i. uses p t (starts i) s) n f))
