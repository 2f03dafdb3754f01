-- The circle turned by r slots: the same numbers of it. Assumes nothing.
use mathlib.Core.Path.{◌≡◌, sym, ◌∙◌, ap}
use mathlib.Core.Bool.{Bool, not}
use mathlib.Core.List.{List}
use Prim.Native.Nat.{ℕ, ◌+◌, ◌-◌, ◌%◌, ◌≤◌, ◌<◌}
use native.Mathlib.Omega.{arith}
use native.Mathlib.Nat.{mod-lt}
use lib.Dec.{ltb}
use lib.ListN.{length}
use Rattle.ground.specs.Count.{count}
use Rattle.ground.proofs.Counting.{count_cong, count_turn}
use Rattle.ground.proofs.Minimum.{least_cong}
use Rattle.ground.proofs.Remainders.{back_and_on}
use Rattle.link.specs.Rows.{Crossing, start, moved_on}
use Rattle.link.specs.Slots.{after}
use Rattle.link.proofs.Turning.{uses_moved, start_moved}
use Rattle.report.specs.Runs.{around, run_begins, Run, Longest, runs, widest_of}
use Rattle.report.specs.Free.{used_of, free_of, is_free, stretch_of}
use Rattle.report.proofs.Widths.{around_again, around_from, around_low, begins_again, runs_number}
use Rattle.report.proofs.Stretches.{exactly_longest, none_wider, widest_upto}

-- v is q, turned: what q has at a slot, v has r slots on
abbrev Turns : ℕ → ℕ → (ℕ → Bool) → (ℕ → Bool) → Type 0
Turns p r q v = (x : ℕ) → around q p x ≡ around v p (x + r)

module _ (p r : ℕ) (q v : ℕ → Bool) (some : 0 < p) (h : Turns p r q v) where
  -- and back again
  turned_back : Turns p (p - r % p) v q
  turned_back x = sym (h (x + (p - r % p)) ∙ ap v (back_and_on p some r x))

  begins_turned : (a : ℕ) → run_begins q p a ≡ run_begins v p (a + r)
  unfolding run_begins
  begins_turned a = let e : a + (p - 1) + r ≡ a + r + (p - 1) = omega arith in rw (h a, h (a + (p - 1)), e)

  same_number : length (runs q p) ≡ length (runs v p)
  same_number =
      runs_number q p p ∙ count_cong (run_begins q p) (λ a. run_begins v p (a + r)) p (λ a _. begins_turned a)
      ∙ count_turn (run_begins v p) p (begins_again v p) r ∙ sym (runs_number v p p)

  same_count : count q p ≡ count v p
  same_count =
      sym (count_cong (around q p) q p (around_low q p)) ∙ count_cong (around q p) (λ a. around v p (a + r)) p (λ a _. h a)
      ∙ count_turn (around v p) p (around_again v p) r ∙ count_cong (around v p) v p (around_low v p)

  longest_turned : (s : Run) → Longest q p s → Longest v p (record { first = (s.first + r) % p; wide = s.wide })
  longest_turned s w =
      record {
        some = w.some;
        inside = mod-lt (s.first + r) some;
        each = λ k l. there k ∙ w.each k l;
        before = there (p - 1) ∙ w.before;
        after = there s.wide ∙ w.after;
      }
    where
      there : (k : ℕ) → around v p ((s.first + r) % p + k) ≡ around q p (s.first + k)
      there k =
          let e : s.first + r + k ≡ s.first + k + r = omega arith in
          around_from v p (s.first + r) k ∙ ap (around v p) e ∙ sym (h (s.first + k))

  not_wider : widest_of (runs q p) ≤ widest_of (runs v p)
  not_wider =
      widest_upto (runs q p) (widest_of (runs v p))
      (λ s m. none_wider (runs v p) _ ((exactly_longest v p _).1 (longest_turned s ((exactly_longest q p s).0 m))))

same_turned : (p r : ℕ) (q v : ℕ → Bool) → 0 < p → Turns p r q v → stretch_of q p ≡ stretch_of v p
unfolding stretch_of
same_turned p r q v some h =
    let back = not_wider p (p - r % p) v q some (turned_back p r q v some h) in
    let w : widest_of (runs q p) ≡ widest_of (runs v p) = omega (arith, not_wider p r q v some h) in
    rw (same_count p r q v some h, same_number p r q v some h, w)

-- the free slots of a plan that is turned
module _ (p t : ℕ) (ds os : List ℕ) (r : ℕ) (some : 0 < p) (as_many : length os ≡ length ds) where
  free_turned : (c : Crossing) → Turns p r (is_free p t ds os c) (is_free p t ds (moved_on p r os) c)
  unfolding free_of used_of after
  free_turned c x =
      ap (λ (k : ℕ). not (ltb k (length ds))) (least_cong _ _ (length ds)
      (λ i l. rw (start_moved p r some ds os c i (omega arith)) (sym (uses_moved p r some t (start p ds os c i) x))))

  pub same_numbers : (c : Crossing) → stretch_of (is_free p t ds os c) p ≡ stretch_of (is_free p t ds (moved_on p r os) c) p
  same_numbers c = same_turned p r (is_free p t ds os c) (is_free p t ds (moved_on p r os) c) some (free_turned c)
