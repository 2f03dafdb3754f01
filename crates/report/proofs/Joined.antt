-- "a run at the end and a run at the start are one stretch". Assumes nothing.
use mathlib.Core.Path.{◌≡◌, refl, sym, ◌∙◌, ap}
use mathlib.Core.Bool.{Bool, true, false, not, cond, ◌&&◌}
use mathlib.Core.Logic.{inl, inr}
use Prim.Native.Nat.{ℕ, zero, suc, ◌+◌, ◌-◌, ◌%◌, ◌<◌}
use native.Mathlib.Omega.{arith}
use native.Mathlib.Nat.{mod_self, mod-eq_of_lt, add-mod_right}
use Rattle.ground.specs.Count.{count}
use Rattle.ground.proofs.Counting.{count_front, count_cong}
use Rattle.link.proofs.OnCircle.{Turned, turned}
use Rattle.report.specs.Runs.{around, run_begins, width, run_begins_on_line, Run, Within, Longest}
use Rattle.report.proofs.Widths.{around_again, around_low, width_at, width_some}
use Rattle.report.proofs.Stretches.{short}

abbrev one_if : Bool → ℕ
one_if b = cond b 1 0

split : (x y : Bool) → one_if (x && not y) + one_if (x && y) ≡ one_if x
split true true = refl
split true false = refl
split false y = refl

module _ (q : ℕ → Bool) where
  -- a run with the last slot
  module _ (p : ℕ) (r : Run) (w : Longest q p r) (u : Within p (p - 1) r) where
    at_the_end : r.first + u.0 ≡ p - 1
    at_the_end = go (turned p (r.first + u.0) (omega (arith, w.inside, u.1, short q p r w))) u.2
      where
        go : {s : ℕ} → Turned p (r.first + u.0) s → s ≡ p - 1 → r.first + u.0 ≡ p - 1
        go (inl v) e = omega arith
        go (inr v) e = omega (arith, w.inside, u.1, short q p r w)

    -- goes up to it, and on from slot 0 as far as the test goes there
    pub both_parts : r.wide ≡ (p - r.first) + width q p 0
    both_parts =
        let rest = r.wide - (p - r.first) in
        omega (arith, at_the_end, u.1, width_at q p 0 rest (omega (arith, short q p r w)) each (λ _. after))
      where
        there : (k : ℕ) → around q p (0 + k) ≡ around q p (r.first + ((p - r.first) + k))
        there k =
            let e : r.first + ((p - r.first) + k) ≡ 0 + k + p = omega (arith, w.inside) in
            sym (ap (around q p) e ∙ around_again q p (0 + k))

        each : (k : ℕ) → k < r.wide - (p - r.first) → around q p (0 + k) ≡ true
        each k l = there k ∙ w.each ((p - r.first) + k) (omega arith)

        after : around q p (0 + (r.wide - (p - r.first))) ≡ false
        after =
            let e : (p - r.first) + (r.wide - (p - r.first)) ≡ r.wide = omega (arith, at_the_end, u.1) in
            there (r.wide - (p - r.first)) ∙ rw e w.after

    pub over_the_end : q 0 ≡ true → Within p 0 r
    over_the_end e =
        let some : 0 < p = omega (arith, w.inside) in
        let more = width_some q p 0 some (around_low q p 0 some ∙ e) in
        let d : r.first + (p - r.first) ≡ p = omega (arith, w.inside) in
        (p - r.first, omega (arith, both_parts), rw d (mod_self p))

  -- behind slot 0 a run begins on the circle where it begins on the line
  later : (m i : ℕ) → i < m → run_begins q (suc m) (suc i) ≡ run_begins_on_line q (suc i)
  unfolding run_begins
  later m i l =
      let e : suc i + (suc m - 1) ≡ i + suc m = omega arith in
      let here : suc i % suc m ≡ suc i = mod-eq_of_lt (omega arith) in
      let before : i % suc m ≡ i = mod-eq_of_lt (omega arith) in
      rw (e, add-mod_right i (suc m), here, before)

  at_0 : (m : ℕ) → run_begins q (suc m) 0 ≡ (q 0 && not (q m))
  unfolding run_begins
  at_0 m =
      let e : 0 + (suc m - 1) ≡ m = omega arith in
      let here : 0 % suc m ≡ 0 = mod-eq_of_lt (omega arith) in
      let before : m % suc m ≡ m = mod-eq_of_lt (omega arith) in
      rw (e, here, before)

  -- so there is one less on the circle where the first slot and the last have the test
  pub one_less : (p : ℕ) → 0 < p → count (run_begins q p) p + cond (q 0 && q (p - 1)) 1 0 ≡ count (run_begins_on_line q) p
  one_less zero h = absurd (omega arith)
  one_less (suc m) h =
      let e : suc m - 1 ≡ m = omega arith in
      let circle = count_front (run_begins q (suc m)) m in
      let line = count_front (run_begins_on_line q) m in
      let same = count_cong (λ i. run_begins q (suc m) (suc i)) (λ i. run_begins_on_line q (suc i)) m (later m) in
      omega (arith, circle, line, same, ap one_if (at_0 m), split (q 0) (q m), ap (λ (i : ℕ). one_if (q 0 && q i)) e)
