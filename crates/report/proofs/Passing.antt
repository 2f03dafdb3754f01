-- The numbers of a crossing, from message to message. Assumes nothing.
use mathlib.Core.Path.{◌≡◌, refl, sym, ◌∙◌, ap}
use mathlib.Core.Logic.{⊎_elim}
use mathlib.Core.List.{List, Memᴰ}
use Prim.Native.Nat.{ℕ, suc, ◌+◌, ◌-◌, ◌*◌, ◌≤◌, ◌<◌, max}
use native.Mathlib.Omega.{arith}
use native.Mathlib.Nat.{suc-mul, mul-le-mul_left, mul-le-mul_right}
use native.Mathlib.Numerals.{add-one}
use lib.Dec.{ltb}
use lib.ListN.{length}
use borrow.Author.Count.{below_none, below_more}
use borrow.Author.Tests.{lt-ltb, le-ltb}
use Rattle.ground.specs.Count.{count}
use Rattle.ground.proofs.Bools.{lt_or_ge}
use Rattle.ground.proofs.Counting.{count_in_lem, count_out, count_low}
use Rattle.link.specs.Rows.{second}
use Rattle.link.proofs.OnCircle.{uses_slot}
use Rattle.link.proofs.Meeting.{second_after}
use Rattle.report.specs.Runs.{width, Run, runs, widest_of}
use Rattle.report.specs.Free.{stretch_of}
use Rattle.report.specs.Steps.{Placed, at, free_at, NextStart}
use Rattle.report.proofs.Widths.{runs_number}
use Rattle.report.proofs.Stretches.{member_from, has_from, none_wider, widest_upto}
use Rattle.report.proofs.Total.{count_free}
use Rattle.report.proofs.Behind.{end_of, behind, end_low, behind_is, begins_behind, ends_here, stretches_behind}

-- the numbers are those of what lies behind the first i messages
pub record Passed (p t : ℕ) (xs : List ℕ) (i free stretches widest : ℕ) : Type 0 where
  pub row : i ≤ length xs
  pub left : free + i * t ≡ p
  pub number : stretches ≡ count (λ j. ltb 0 (behind p t xs j)) i
  pub none_wider : (j : ℕ) → j < i → behind p t xs j ≤ widest
  pub as_wide : 0 < widest → (j : ℕ) × (j < i) × (behind p t xs j ≡ widest)

pub setting_out : (p t : ℕ) (xs : List ℕ) → Passed p t xs 0 p 0 0
unfolding count
setting_out p t xs =
    record { row = omega arith; left = omega arith; number = refl; none_wider = below_none _; as_wide = λ l. absurd (omega arith) }

-- a message takes its slots
less : (p t i free : ℕ) → free + i * t ≡ p → t ≤ free → free - t + (i + 1) * t ≡ p
less p t i free e l = let d : (i + 1) * t ≡ i * t + t = rw (add-one i) (suc-mul i t) in omega arith

used_up : {p t : ℕ} {xs : List ℕ} → Placed p t xs → count (free_at p t xs) p + length xs * t ≡ p
used_up {p} {t} {xs} h =
    count_free p t (at xs) (length xs) h.size_high h.low
    (λ a b s l m u z. h.apart a b l m (s, uses_slot p t (at xs a) s u, uses_slot p t (at xs b) s z))

module _ {p t : ℕ} {xs : List ℕ} (h : Placed p t xs) {i free k w : ℕ} (v : Passed p t xs i free k w) where
  module _ (l : i < length xs) where
    pub fits : (t ≤ free) × (k < p)
    fits =
        let m = rw (suc-mul i t) at (mul-le-mul_right t l) in
        let some = count_low (λ j. ltb 0 (behind p t xs j)) i in
        let each = mul-le-mul_left i h.size_low in
        (omega (arith, v.left, used_up h), omega (arith, v.number, used_up h, h.size_low))

    -- r slots on from the message's end e is the next start
    module _ {e r : ℕ} (a : e ≡ second p t (at xs i)) (n : NextStart p xs (length xs) e r) where
      run : r ≡ behind p t xs i
      run = behind_is h i l (rw (a ∙ second_after p t (at xs i)) at n)

      -- nothing is free behind the message
      pub over_none : r ≡ 0 → Passed p t xs (i + 1) (free - t) k w
      over_none z =
          record {
            row = omega arith;
            left = less p t i free v.left fits.0;
            number = v.number ∙ sym (rw (add-one i) (count_out _ i (le-ltb 0 (behind p t xs i) (omega (arith, run)))));
            none_wider = below_more (λ j. behind p t xs j ≤ w) i v.none_wider (omega (arith, run));
            as_wide = λ s. let d = v.as_wide s in (d.0, omega (arith, d.1), d.2);
          }

      -- a stretch lies there
      pub over_run : 0 < r → Passed p t xs (i + 1) (free - t) (k + 1) (max w r)
      over_run s =
          record {
            row = omega arith;
            left = less p t i free v.left fits.0;
            number = add-one k ∙ ap suc v.number
                ∙ sym (rw (add-one i) (count_in_lem _ i (lt-ltb 0 (behind p t xs i) (omega (arith, run)))));
            none_wider = below_more (λ j. behind p t xs j ≤ max w r) i (λ j m. omega (arith, v.none_wider j m)) (omega (arith, run));
            as_wide = λ _.
                ⊎_elim (λ m. earlier (omega arith) (v.as_wide (omega arith))) (λ m. (i, omega arith, omega (arith, run))) (lt_or_ge r w);
          }
        where
          earlier : max w r ≡ w → (j : ℕ) × (j < i) × (behind p t xs j ≡ w) → (j : ℕ) × (j < i + 1) × (behind p t xs j ≡ max w r)
          earlier g d = (d.0, omega (arith, d.1), d.2 ∙ sym g)

  module _ (m : length xs ≤ i) where
    all : i ≡ length xs
    all = omega (arith, v.row)

    -- what lies behind a message is a run, and a run lies behind a message
    behind_one : (j : ℕ) → j < length xs → 0 < behind p t xs j → behind p t xs j ≤ widest_of (runs (free_at p t xs) p)
    unfolding behind
    behind_one j l s =
        none_wider (runs (free_at p t xs) p) _
        (has_from (free_at p t xs) p p (end_of p t xs j) (end_low h j l) (begins_behind h j l ∙ lt-ltb 0 (behind p t xs j) s))

    one_behind : (r : Run) → Memᴰ r (runs (free_at p t xs) p) → (j : ℕ) × (j < length xs) × (r.wide ≡ behind p t xs j)
    unfolding behind
    one_behind r d =
        let a = member_from (free_at p t xs) p p r d in
        let e = ends_here h a.0 a.1 a.2 in
        (e.0, e.1, ap (λ (x : Run). x.wide) a.3 ∙ ap (width (free_at p t xs) p) (sym e.2))

    not_above : w ≤ widest_of (runs (free_at p t xs) p)
    not_above =
        ⊎_elim (λ s. let d = v.as_wide s in omega (arith, d.2, behind_one d.0 (omega (arith, d.1, v.row)) (omega (arith, d.2))))
        (λ s. omega arith) (lt_or_ge 0 w)

    not_below : widest_of (runs (free_at p t xs) p) ≤ w
    not_below =
        widest_upto (runs (free_at p t xs) p) w
        (λ r d. let e = one_behind r d in omega (arith, e.2, v.none_wider e.0 (omega (arith, e.1))))

    pub arrived : record { free = free; stretches = k; widest = w } ≡ stretch_of (free_at p t xs) p
    unfolding stretch_of
    arrived =
        let f : free ≡ count (free_at p t xs) p = omega (arith, v.left, used_up h, ap (λ (x : ℕ). x * t) all) in
        let g : w ≡ widest_of (runs (free_at p t xs) p) = omega (arith, not_above, not_below) in
        rw (f, v.number, all, ← stretches_behind h, ← runs_number (free_at p t xs) p p, g)
