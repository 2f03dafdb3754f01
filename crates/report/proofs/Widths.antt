-- Where a run of a test begins on a circle, how wide it is, and what one more slot makes of the list of runs. Assumes nothing.
use mathlib.Core.Path.{◌≡◌, refl, sym, ◌∙◌, ap}
use mathlib.Core.Bool.{Bool, true, false, not}
use mathlib.Core.Logic.{⊎_elim}
use mathlib.Core.List.{◌∷◌}
use Prim.Native.Nat.{ℕ, zero, suc, ◌+◌, ◌-◌, ◌%◌, ◌≤◌, ◌<◌}
use native.Mathlib.Omega.{arith}
use native.Mathlib.Nat.{mod-lt, mod-mod, mod-eq_of_lt, mod-add-mod, add-mod_right, add_comm}
use lib.ListN.{length}
use borrow.Author.Tests.{not-true, not-false}
use Rattle.ground.proofs.Bools.{clash, is_false, and_parts, lt_or_ge, true_or_false}
use Rattle.ground.proofs.Minimum.{least_at, least_is, least_cong}
use Rattle.ground.proofs.Remainders.{back_and_there}
use Rattle.ground.specs.Count.{count}
use Rattle.report.specs.Runs.{around, run_begins, width, runs_below}
use Rattle.ground.proofs.Counting.{count_in_lem, count_out}

-- a slot without the test
abbrev pub Ends : (ℕ → Bool) → ℕ → Type 0
Ends q p = (u : ℕ) × (u < p) × (q u ≡ false)

module _ (q : ℕ → Bool) (p : ℕ) where
  -- once round comes to the same slot, and so does a slot's number in place of a way to it
  pub around_again : (x : ℕ) → around q p (x + p) ≡ around q p x
  around_again x = ap q (add-mod_right x p)

  pub around_from : (x k : ℕ) → around q p (x % p + k) ≡ around q p (x + k)
  around_from x k = ap q (mod-add-mod x p k)

  -- the slot before suc x is x
  pub around_before : (x : ℕ) → 0 < p → around q p (suc x + (p - 1)) ≡ around q p x
  around_before x h = let e : suc x + (p - 1) ≡ x + p = omega arith in ap (around q p) e ∙ around_again x

  pub around_low : (s : ℕ) → s < p → around q p s ≡ q s
  around_low s l = ap q (mod-eq_of_lt l)

  pub begins_here : (a : ℕ) → around q p a ≡ true → around q p (a + (p - 1)) ≡ false → run_begins q p a ≡ true
  unfolding run_begins
  begins_here a e f = rw (e, f)

  pub begins_has : (a : ℕ) → run_begins q p a ≡ true → (around q p a ≡ true) × (around q p (a + (p - 1)) ≡ false)
  unfolding run_begins
  begins_has a e = let w = and_parts (around q p a) (not (around q p (a + (p - 1)))) e in (w.0, not-true _ w.1)

  pub begins_not : (a : ℕ) → around q p a ≡ false → run_begins q p a ≡ false
  begins_not a e = is_false _ (λ t. clash (begins_has a t).0 e)

  pub goes_on : (a : ℕ) → around q p (a + (p - 1)) ≡ true → run_begins q p a ≡ false
  goes_on a e = is_false _ (λ t. clash e (begins_has a t).1)

  pub begins_again : (a : ℕ) → run_begins q p (a + p) ≡ run_begins q p a
  unfolding run_begins
  begins_again a = let e : a + p + (p - 1) ≡ a + (p - 1) + p = omega arith in rw (around_again a, e, around_again (a + (p - 1)))

  pub begins_from : (a : ℕ) → run_begins q p (a % p) ≡ run_begins q p a
  unfolding run_begins
  begins_from a = rw (mod-mod a p, mod-add-mod a p (p - 1))

  -- what a width says
  pub width_each : (a k : ℕ) → k < width q p a → around q p (a + k) ≡ true
  unfolding width
  width_each a k l = not-false _ ((least_is (λ k. not (around q p (a + k))) p).before k l)

  pub width_end : (a : ℕ) → width q p a < p → around q p (a + width q p a) ≡ false
  unfolding width
  width_end a l = not-true _ ((least_is (λ k. not (around q p (a + k))) p).here l)

  -- and what says that it is the width
  pub width_at : (a w : ℕ) → w ≤ p → ((k : ℕ) → k < w → around q p (a + k) ≡ true) → (w < p → around q p (a + w) ≡ false) → width q p a ≡ w
  unfolding width
  width_at a w l f g = least_at _ p w l (λ k b. ap not (f k b)) (λ b. ap not (g b))

  pub width_none : (a : ℕ) → around q p a ≡ false → width q p a ≡ 0
  width_none a e = let i : a + 0 ≡ a = omega arith in width_at a 0 (omega arith) (λ k b. absurd (omega arith)) (λ b. rw i e)

  pub width_some : (a : ℕ) → 0 < p → around q p a ≡ true → 0 < width q p a
  width_some a h e = ⊎_elim (λ l. l) (λ l. clash e (stops (omega arith))) (lt_or_ge 0 (width q p a))
    where
      stops : width q p a ≡ 0 → around q p a ≡ false
      stops z = let i : a + width q p a ≡ a = omega arith in rw i at (width_end a (omega arith))

  pub width_upto : (a k : ℕ) → around q p (a + k) ≡ false → width q p a ≤ k
  width_upto a k e = ⊎_elim (λ l. clash (width_each a k l) e) (λ l. l) (lt_or_ge k (width q p a))

  pub width_again : (a : ℕ) → width q p (a + p) ≡ width q p a
  unfolding width
  width_again a =
      least_cong _ _ p (λ k l. let e : a + p + k ≡ a + k + p = omega arith in ap not (ap (around q p) e ∙ around_again (a + k)))

  pub width_from : (a : ℕ) → width q p (a % p) ≡ width q p a
  unfolding width
  width_from a = least_cong _ _ p (λ k l. ap not (around_from a k))

  -- where some slot has not the test, every run ends
  module _ (u : Ends q p) where
    pub width_short : (a : ℕ) → width q p a < p
    width_short a =
        let some : 0 < p = omega (arith, u.1) in
        let k = (u.0 + (p - a % p)) % p in
        let e : around q p (a + k) ≡ false =
        ap (λ (x : ℕ). q (x % p)) (add_comm a k) ∙ ap q (back_and_there p some a u.0) ∙ around_low u.0 u.1 ∙ u.2 in
        omega (arith, width_upto a k e, mod-lt (u.0 + (p - a % p)) some)

    pub width_more : (a : ℕ) → around q p a ≡ true → width q p a ≡ suc (width q p (suc a))
    width_more a e =
        let w = width q p (suc a) in
        let f : a + suc w ≡ suc a + w = omega arith in
        width_at a (suc w) (width_short (suc a)) each (λ _. rw f (width_end (suc a) (width_short (suc a))))
      where
        each : (k : ℕ) → k < suc (width q p (suc a)) → around q p (a + k) ≡ true
        each zero l = let f : a + 0 ≡ a = omega arith in rw f e
        each (suc k) l = let f : a + suc k ≡ suc a + k = omega arith in rw f (width_each (suc a) k (omega arith))

  -- one more slot: a run begins there, or not
  pub runs_in : (m : ℕ) → run_begins q p m ≡ true → runs_below q p (suc m) ≡ record { first = m; wide = width q p m } ∷ runs_below q p m
  unfolding runs_below
  runs_in m e = rw e

  pub runs_out : (m : ℕ) → run_begins q p m ≡ false → runs_below q p (suc m) ≡ runs_below q p m
  unfolding runs_below
  runs_out m e = rw e

  -- as many runs as there are slots where one begins
  pub runs_number : (m : ℕ) → length (runs_below q p m) ≡ count (run_begins q p) m
  unfolding runs_below count
  runs_number zero = refl
  runs_number (suc m) =
      ⊎_elim (λ e. ap length (runs_in m e) ∙ ap suc (runs_number m) ∙ sym (count_in_lem (run_begins q p) m e))
      (λ e. ap length (runs_out m e) ∙ runs_number m ∙ sym (count_out (run_begins q p) m e)) (true_or_false (run_begins q p m))
