-- The widths of the runs add up to the slots that have the test, counted. Assumes nothing.
-- From slot 0 up to any m, the runs that began there and what was left at slot 0 of a run under way add up to the count and to what is left
-- at m; and once round, what is left is what was left at slot 0.
use mathlib.Core.Path.{◌≡◌, ◌∙◌, ap}
use mathlib.Core.Bool.{Bool, true, false, cond}
use mathlib.Core.Logic.{⊎_elim}
use Prim.Native.Nat.{ℕ, zero, suc, ◌+◌, ◌-◌}
use native.Mathlib.Omega.{arith}
use Rattle.ground.proofs.Bools.{true_or_false}
use Rattle.ground.specs.Count.{count}
use Rattle.report.specs.Runs.{around, run_begins, width, runs_below, runs, widest_of, total_of}
use Rattle.report.specs.Free.{stretch_of}
use Rattle.report.specs.Answer.{no_stretch}
use Rattle.ground.proofs.Counting.{same_up, count_in_lem, count_out, count_none, count_cong}
use Rattle.report.proofs.Widths.{Ends, around_before, around_low, begins_here, begins_not, begins_again, goes_on}
use Rattle.report.proofs.Widths.{width_more, width_none, width_again, runs_in, runs_out}

module _ (q : ℕ → Bool) (p : ℕ) (u : Ends q p) where
  -- what is left at m of a run that began before m
  abbrev left : ℕ → ℕ
  left m = cond (run_begins q p m) 0 (width q p m)

  left_new : (m : ℕ) → run_begins q p m ≡ true → left m ≡ 0
  left_new m e = rw e

  left_on : (m : ℕ) → run_begins q p m ≡ false → left m ≡ width q p m
  left_on m e = rw e

  left_none : (m : ℕ) → around q p m ≡ false → left m ≡ 0
  left_none m e = left_on m (begins_not q p m e) ∙ width_none q p m e

  before : (m : ℕ) → around q p (suc m + (p - 1)) ≡ around q p m
  before m = around_before q p m (omega (arith, u.1))

  left_behind : (m : ℕ) → around q p m ≡ false → left (suc m) ≡ 0
  left_behind m e =
      ⊎_elim (λ t. left_new (suc m) (begins_here q p (suc m) t (before m ∙ e))) (left_none (suc m)) (true_or_false (around q p (suc m)))

  abbrev Summed : ℕ → Type 0
  Summed m = total_of (runs_below q p m) + left 0 ≡ count (around q p) m + left m

  module _ (m : ℕ) (h : Summed m) where
    -- m has the test: what is left at m is one more than what is left after it
    sum_in : around q p m ≡ true → Summed (suc m)
    unfolding total_of
    sum_in e =
        let w = width_more q p u m e in
        let after = left_on (suc m) (goes_on q p (suc m) (before m ∙ e)) in
        let more = count_in_lem (around q p) m e in
        ⊎_elim (λ f. omega (arith, h, w, after, more, ap total_of (runs_in q p m f), left_new m f))
        (λ f. omega (arith, h, w, after, more, ap total_of (runs_out q p m f), left_on m f)) (true_or_false (run_begins q p m))

    -- m has it not: nothing is left, before or after
    sum_out : around q p m ≡ false → Summed (suc m)
    sum_out e =
        omega (arith, h, left_none m e, left_behind m e, count_out (around q p) m e, ap total_of (runs_out q p m (begins_not q p m e)))

  summed : (m : ℕ) → Summed m
  unfolding total_of runs_below count
  summed zero = omega arith
  summed (suc m) = ⊎_elim (sum_in m (summed m)) (sum_out m (summed m)) (true_or_false (around q p m))

  again : left (0 + p) ≡ left 0
  again = rw (begins_again q p 0, width_again q p 0)

  -- "the lengths of the stretches summed" are the free slots counted
  pub total_count : total_of (runs q p) ≡ count q p
  total_count =
      let e : p ≡ 0 + p = omega arith in
      omega (arith, summed p, ap left e ∙ again, count_cong (around q p) q p (around_low q p))

-- with no free slot there is no stretch
pub nothing_free : (q : ℕ → Bool) (p : ℕ) → count q p ≡ 0 → stretch_of q p ≡ no_stretch
unfolding stretch_of widest_of runs_below
nothing_free q p h =
    rw (
      h,
      same_up (runs_below q p) 0 p (omega arith)
          (λ s _ l. runs_out q p s (begins_not q p s (around_low q p s l ∙ count_none q p h s l))),
    )
