-- "Planners use the widest stretch to see whether another service fits". Assumes nothing.
use mathlib.Core.Path.{◌≡◌, sym, ◌∙◌, ap}
use mathlib.Core.Bool.{Bool}
use mathlib.Core.Logic.{⊎_elim}
use mathlib.Core.List.{List, [], ◌∷◌}
use Prim.Native.Nat.{ℕ, ◌+◌, ◌-◌, ◌≤◌, ◌<◌}
use native.Mathlib.Omega.{arith}
use lib.ListN.{length}
use Rattle.ground.proofs.Bools.{clash, lt_or_ge}
use Rattle.report.specs.Runs.{around, Run, AllFrom, runs, widest_of}
use Rattle.report.proofs.Widths.{Ends, around_from, around_low}
use Rattle.report.proofs.Stretches.{exactly_longest, in_one, none_wider, one_as_wide}

some_run : (l : List Run) → 0 < widest_of l → 0 < length l
unfolding widest_of
some_run [] h = absurd (omega arith)
some_run (r ∷ l) h = omega arith

module _ (q : ℕ → Bool) (p : ℕ) where
  -- slots in a row lie in the run of their first one, which ends them
  pub in_a_run : Ends q p → (l a : ℕ) → 0 < l → a < p → AllFrom q p l a → l ≤ widest_of (runs q p)
  in_a_run u l a h low f =
      let i : a + 0 ≡ a = omega arith in
      let w = in_one q p u a low (sym (around_low q p a low) ∙ rw i at (f 0 h)) in
      let run = (exactly_longest q p w.0).0 w.1 in
      let rest = w.0.wide - w.2.0 in
      let j : w.0.first + w.2.0 + rest ≡ w.0.first + w.0.wide = omega (arith, w.2.1) in
      let ends = around_from q p (w.0.first + w.2.0) rest ∙ ap (around q p) j ∙ run.after in
      ⊎_elim (λ m. clash (f rest m) (rw w.2.2 at ends)) (λ m. omega (arith, none_wider (runs q p) w.0 w.1))
      (lt_or_ge rest l)

  pub run_has : (l : ℕ) → 0 < l → l ≤ widest_of (runs q p) → (a : ℕ) × (a < p) × AllFrom q p l a
  run_has l h m =
      let w = one_as_wide (runs q p) (some_run (runs q p) (omega arith)) in
      let run = (exactly_longest q p w.0).0 w.1 in
      (w.0.first, run.inside, λ k b. run.each k (omega (arith, w.2)))
