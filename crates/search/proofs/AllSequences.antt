-- The list of a table's step sequences has each of them, nothing else, and strictly increases. Assumes nothing.
use mathlib.Core.Path.{◌≡◌}
use mathlib.Core.Logic.{◌↔◌}
use mathlib.Core.Bool.{true}
use mathlib.Core.List.{List, Memᴰ}
use Prim.Native.Nat.{ℕ, zero, suc, ◌-◌, ◌<◌, ◌≤◌}
use native.Mathlib.Omega.{arith}
use lib.ListN.{length}
use Rattle.link.specs.Range.{GoodTable}
use Rattle.link.specs.Rows.{span_of}
use Rattle.link.specs.declared.Link.{Link}
use Rattle.search.specs.Steps.{Step, rules, is_step}
use Rattle.search.specs.Builds.{Sequence, last, onward, earlier, begin, rules_of, sequences_of}
use Rattle.search.proofs.Listing.{steps_are, steps_increasing}
use Rattle.search.proofs.Numbers.{names}
use Rattle.ground.specs.Series.{Increasing}
use Rattle.search.proofs.Sequences.{sequences_have, sequences_are, sequences_increasing}
use Rattle.search.proofs.Soundness.{all_placed}
use Rattle.search.proofs.States.{At, placed_low, put_at, begin_at}

-- no sequence has more steps than rows are left
module _ (p l : ℕ) (ds : List ℕ) (n : ℕ) (some_period : 0 < p) (lp : l ≤ p) where
  a_row_left : (u : ℕ) (s : List ℕ) (k : Step) → At p n u s → is_step p n s k ≡ true → 0 < u
  a_row_left zero s k a e =
      let w = names p n s k e in
      absurd (omega (arith, w.row_free, placed_low p s k.row (all_placed p l ds n some_period lp s a k.row w.row_low)))
  a_row_left (suc u) s k a e = omega arith

  short : (u : ℕ) {s : List ℕ} {q : List Step} → At p n u s → Sequence (rules p l ds n) s q → length q ≤ u
  short u a (last {s = s} {k = k} m) = omega (arith, a_row_left u s k a (steps_are p n s k m))
  short zero a (onward {s = s} {k = k} m g w) = absurd (omega (arith, a_row_left zero s k a (steps_are p n s k m)))
  short (suc u) a (onward {s = s} {k = k} m g w) = omega (arith, short u (put_at p l ds s k n u some_period (steps_are p n s k m) a) w)

-- the list of a table's sequences has each of them, and nothing else
pub sequences_exactly : (k : Link) (ds : List ℕ) → GoodTable k ds → (q : List Step)
    → Memᴰ q (sequences_of k ds) ↔ Sequence (rules_of k ds) (begin k.period) q
sequences_exactly k ds g q = (
  λ m. (sequences_are (rules_of k ds) (length ds - 1) (begin k.period) q m).0,
  λ w. sequences_have (rules_of k ds) (length ds - 1) w
      (short k.period (span_of k) ds (length ds) g.period_low g.span_high (length ds - 1)
      (begin_at k.period (length ds) g.period_low g.rows_low g.rows_high) w),
)

-- and it strictly increases
pub sequences_increase : (k : Link) (ds : List ℕ) → Increasing earlier (sequences_of k ds)
sequences_increase k ds =
    (sequences_increasing (rules_of k ds) (steps_increasing k.period (length ds)) (length ds - 1) (begin k.period)).1
