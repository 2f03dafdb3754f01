-- The next start from a slot on, round the period, of one more row at a time. Assumes nothing.
use mathlib.Core.Path.{◌≡◌, sym, ◌∙◌, ap}
use mathlib.Core.Logic.{⊎_elim}
use mathlib.Core.List.{List}
use Prim.Native.Nat.{ℕ, ◌+◌, ◌-◌, ◌%◌, ◌<◌, min}
use native.Mathlib.Omega.{arith}
use native.Mathlib.Nat.{mod-eq_of_lt, mod-add-mod, add-mod-mod, add-mod_right}
use borrow.Author.Count.{below_more}
use Rattle.ground.proofs.Bools.{lt_or_ge}
use Rattle.link.specs.Rows.{second}
use Rattle.report.specs.Steps.{at, NextStart}

-- the start of row n turned back by x is a
module _ (p : ℕ) (xs : List ℕ) (n x a b : ℕ) (hx : x < p) (hn : at xs n < p) (w : NextStart p xs n x b)
    (e : a ≡ second p (p - x) (at xs n)) where
  back : a ≡ (at xs n + (p - x)) % p
  unfolding second
  back = e

  -- so it is a slots on from x, and not fewer
  there : at xs n ≡ (x + a) % p
  there =
      let d : x + (at xs n + (p - x)) ≡ at xs n + p = omega arith in
      sym (rw back (add-mod-mod x (at xs n + (p - x)) p ∙ rw d (add-mod_right (at xs n) p ∙ mod-eq_of_lt hn)))

  not_before : (k : ℕ) → k < a → k < p → at xs n ≡ (x + k) % p → ⊥
  not_before k l m f =
      let d : x + k + (p - x) ≡ k + p = omega arith in
      let same : (x + k + (p - x)) % p ≡ k = rw d (add-mod_right k p ∙ mod-eq_of_lt m) in
      omega (arith, back, ap (λ (z : ℕ). (z + (p - x)) % p) f ∙ mod-add-mod (x + k) p (p - x) ∙ same)

  pub one_start_more : NextStart p xs (n + 1) x (min b a)
  one_start_more =
      record {
        high = omega (arith, w.high);
        start = λ l. ⊎_elim (λ m. old (omega arith) (omega arith)) (λ m. this (omega arith)) (lt_or_ge b a);
        before = λ k l.
            below_more (λ i. at xs i ≡ (x + k) % p → ⊥) n (λ i m. w.before k (omega arith) i m)
            (not_before k (omega arith) (omega (arith, w.high)));
      }
    where
      old : min b a ≡ b → b < p → (i : ℕ) × (i < n + 1) × (at xs i ≡ (x + min b a) % p)
      old f l = let s = w.start l in rw f (s.0, omega (arith, s.1), s.2)

      this : min b a ≡ a → (i : ℕ) × (i < n + 1) × (at xs i ≡ (x + min b a) % p)
      this f = rw f (n, omega arith, there)
