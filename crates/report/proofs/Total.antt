-- A clear plan of n messages of t slots leaves p - n t slots free in each crossing: a message uses t slots, and no slot is used twice.
-- Assumes nothing.
use mathlib.Core.Path.{◌≡◌, sym, ◌∙◌}
use mathlib.Core.Bool.{true, false, ◌||◌}
use mathlib.Core.Logic.{inl, inr, ⊎_elim}
use mathlib.Core.List.{List}
use Prim.Native.Nat.{ℕ, zero, suc, ◌+◌, ◌-◌, ◌*◌, ◌≤◌, ◌<◌}
use native.Mathlib.Omega.{arith}
use native.Mathlib.Nat.{zero-mul, suc-mul}
use lib.ListN.{length}
use borrow.Author.Tests.{ltb-true}
use Rattle.ground.specs.Least.{least}
use Rattle.link.specs.Range.{InRange}
use Rattle.link.specs.Rows.{Crossing, start, Clear}
use Rattle.link.specs.Slots.{uses}
use Rattle.ground.proofs.Bools.{is_false, lt_or_ge}
use Rattle.link.proofs.OnCircle.{uses_true, uses_slot}
use Rattle.link.proofs.Meeting.{start_low}
use Rattle.ground.proofs.Minimum.{some_none, some_has, some_more}
use Rattle.ground.specs.Count.{count}
use Rattle.report.specs.Free.{used_of, free_of, is_free}
use Rattle.ground.proofs.Counting.{count_gap, count_run, count_cong, count_or, count_not}
use Rattle.report.proofs.Covering.{Covers, covered, outside}
use Rattle.link.proofs.Clearness.{clear_in, narrower}

module _ (p t a : ℕ) (ha : a < p) (ht : t ≤ p) where
  used : (s : ℕ) → s < p → Covers p t a s → uses p t a s ≡ true
  used s l h = uses_true p t a s (covered p t a s ha ht l h)

  unused : (s : ℕ) → s < p → (a ≤ s → a + t ≤ s) → a + t ≤ s + p → uses p t a s ≡ false
  unused s l f h = is_false _ (λ e. outside p t a s ha ht l f h (uses_slot p t a s e))

  -- "it uses T slots"
  pub count_uses : count (uses p t a) p ≡ t
  unfolding count
  count_uses = ⊎_elim over within (lt_or_ge p (a + t))
    where
      within : a + t ≤ p → count (uses p t a) p ≡ t
      within h =
          let e = count_gap (uses p t a) 0 a (omega arith) (λ s l m. unused s (omega arith) (λ h. omega arith) (omega arith)) in
          let f = count_run (uses p t a) a (a + t) (omega arith) (λ s l m. used s (omega arith) (inl (l, m))) in
          let g = count_gap (uses p t a) (a + t) p h (λ s l m. unused s m (λ h. omega arith) (omega arith)) in
          omega arith

      over : p < a + t → count (uses p t a) p ≡ t
      over h =
          let e = count_run (uses p t a) 0 (a + t - p) (omega arith) (λ s l m. used s (omega arith) (inr (omega arith))) in
          let f = count_gap (uses p t a) (a + t - p) a (omega arith) (λ s l m. unused s (omega arith) (λ h. omega arith) (omega arith)) in
          let g = count_run (uses p t a) a p (omega arith) (λ s l m. used s m (inl (omega arith))) in
          omega arith

-- the messages of rows that pairwise use no common slot
module _ (p t : ℕ) (starts : ℕ → ℕ) (n : ℕ) (ht : t ≤ p) (low : (i : ℕ) → i < n → starts i < p)
    (apart : (i j s : ℕ) → i < j → j < n → uses p t (starts i) s ≡ true → uses p t (starts j) s ≡ true → ⊥) where
  used_more : (k s : ℕ) → used_of p t starts (suc k) s ≡ (used_of p t starts k s || uses p t (starts k) s)
  unfolding used_of
  used_more k s = some_more (λ i. uses p t (starts i) s) k

  used_before : (k s : ℕ) → k < n → used_of p t starts k s ≡ true → uses p t (starts k) s ≡ true → ⊥
  unfolding used_of
  used_before k s l e f = apart (least (λ i. uses p t (starts i) s) k) k s (ltb-true _ _ e) l (some_has (λ i. uses p t (starts i) s) k e) f

  none_used : (s : ℕ) → used_of p t starts 0 s ≡ false
  unfolding used_of
  none_used s = some_none _ 0 (λ i l. absurd (omega arith))

  count_used : (k : ℕ) → k ≤ n → count (used_of p t starts k) p ≡ k * t
  unfolding count
  count_used zero l = count_gap (used_of p t starts 0) 0 p (omega arith) (λ s _ _. none_used s) ∙ sym (zero-mul t)
  count_used (suc k) l =
      let e = count_cong (used_of p t starts (suc k)) (λ s. used_of p t starts k s || uses p t (starts k) s) p (λ s _. used_more k s) in
      let f = count_or (used_of p t starts k) (uses p t (starts k)) p (λ s _. used_before k s l) in
      omega (arith, count_used k (omega arith), count_uses p t (starts k) (low k l) ht, suc-mul k t)

  pub count_free : count (free_of p t starts n) p + n * t ≡ p
  unfolding free_of
  count_free = omega (arith, count_not (used_of p t starts n) p, count_used n (omega arith))

-- "and P - nT are all equal": of a plan that is clear at the distance l, which the size does not pass
module _ (p l t : ℕ) (ds os : List ℕ) (r : InRange p l ds os) (h : t ≤ l) (k : Clear p l ds os) where
  pub free_total : (c : Crossing) → count (is_free p t ds os c) p + length ds * t ≡ p
  unfolding start
  free_total c =
      count_free p t (start p ds os c) (length ds) (omega (arith, r.span_high))
      (λ i m. start_low p c _ _ (r.offsets i (omega (arith, r.as_many))))
      (λ i j s a b u v. (clear_in (narrower p l t ds os h k) c).apart i j a b (s, uses_slot p t _ s u, uses_slot p t _ s v))
