-- Rows so far that are clear, as a test and as a statement. Assumes nothing.
use mathlib.Core.Path.{◌≡◌, ap, ◌∙◌, sym}
use mathlib.Core.Bool.{true, not}
use mathlib.Core.List.{List}
use Prim.Native.Nat.{ℕ, ◌≤◌, ◌<◌}
use native.Mathlib.Omega.{arith}
use lib.ListN.{length, get_or, take}
use lib.Seq.{get_or-take, length-take-le}
use borrow.Author.Tests.{not-true, not-false}
use Rattle.ground.proofs.Minimum.{none_has, some_none}
use Rattle.link.specs.Rows.{free, blocked, Clear}
use Rattle.link.proofs.Clearness.{clear_rows, rows_clear, free_table}
use Rattle.oneslot.specs.Moves.{all_clear}

module _ (p l : ℕ) (ds os : List ℕ) where
  -- row j is free of the rows before it
  abbrev pub RowFree : ℕ → Type 0
  RowFree j = free p l ds os j (get_or ds j 0) (get_or os j 0) ≡ true

  pub each_free : all_clear p l ds os ≡ true → (j : ℕ) → j < length os → RowFree j
  unfolding all_clear blocked
  each_free e j h = not-false _ (none_has (blocked p l ds os) (length os) (not-true _ e) j h)

  pub free_each : ((j : ℕ) → j < length os → RowFree j) → all_clear p l ds os ≡ true
  unfolding all_clear blocked
  free_each f = ap not (some_none (blocked p l ds os) (length os) (λ j h. ap not (f j h)))

  -- the same of the first n rows of the table, by their own delays
  module _ (n : ℕ) (hn : n ≤ length ds) where
    same : (j : ℕ) → j < n
        → free p l (take n ds) os j (get_or (take n ds) j 0) (get_or os j 0) ≡ free p l ds os j (get_or ds j 0) (get_or os j 0)
    same j h =
        rw (get_or-take n ds j 0 h)
        (free_table p l (take n ds) ds os j (get_or ds j 0) (get_or os j 0) (λ i q. get_or-take n ds i 0 (omega arith)))

    pub rows_so_far : 0 < p → ((j : ℕ) → j < n → RowFree j) → Clear p l (take n ds) os
    rows_so_far h f =
        clear_rows p l (take n ds) os h (λ j q. let low : j < n = omega (arith, length-take-le n ds hn) in same j low ∙ f j low)

    pub so_far_rows : Clear p l (take n ds) os → (j : ℕ) → j < n → RowFree j
    so_far_rows c j q = sym (same j q) ∙ rows_clear p l (take n ds) os c j (omega (arith, length-take-le n ds hn))
