-- What it means that nothing is wrong with the lines of a text, and that it is then accepted. Assumes nothing.
use mathlib.Core.Path.{◌≡◌, sym, ap}
use mathlib.Core.Bool.{Bool, true, false, not}
use mathlib.Core.List.{List}
use mathlib.Core.Logic.{⊎_elim}
use Prim.Native.Nat.{ℕ, zero, suc, ◌≤◌, ◌<◌}
use native.Mathlib.Omega.{arith}
use Rattle.ground.specs.Judging.{Fine, first}
use Rattle.ground.proofs.Bools.{lt_or_ge}
use Rattle.ground.proofs.Minimum.{least_is, least_at}
use Rattle.ground.proofs.Faults.{pass, fine, front_pass, front_fine}
use Rattle.link.specs.Limits.{max_rows}
use Rattle.text.specs.Limits.{cut_line}
use Rattle.text.specs.Bytes.{same, title_word}
use Rattle.text.specs.Lines.{begin, line, ended}
use Rattle.text.specs.Faults.{is_last, own_faults, line_faults, lines_faults, rows_of, text_faults}
use Rattle.text.proofs.Walk.{not_cut, own_fine}
use Rattle.text.proofs.GoodLines.{GoodRow, GoodLast, GoodPair, row_parts, row_fine, last_parts, last_fine, pair_parts, pair_fine}
use Rattle.text.proofs.GoodLines.{title_parts, title_fine}

-- a text of n rows with nothing wrong
pub record Right (x : List ℕ) (n : ℕ) : Type 0 where
  pub whole : (k : ℕ) → k < suc (suc (suc n)) → ended x k ≡ true
  pub title : same title_word (line x 0) ≡ true
  pub pair : GoodPair (line x 1)
  pub row : (i : ℕ) → i < n → GoodRow (line x (suc (suc i))) × (is_last (line x (suc (suc i))) ≡ false)
  pub last : GoodLast n (line x (suc (suc n)))
  pub few : n ≤ max_rows

module _ (x : List ℕ) where
  pub each_fine : (m : ℕ) → first (lines_faults x m) ≡ Fine → (k : ℕ) → k < m → first (line_faults x k) ≡ Fine
  unfolding lines_faults
  each_fine zero e k l = absurd (omega arith)
  each_fine (suc m) e k l =
      let w = front_fine (lines_faults x m) (line_faults x m) e in
      ⊎_elim (λ h. each_fine m w.0 k h) (λ h. let z : k ≡ m = omega arith in rw z w.1) (lt_or_ge k m)

  pub all_fine : (m : ℕ) → ((k : ℕ) → k < m → Fine ≡ first (line_faults x k)) → Fine ≡ first (lines_faults x m)
  unfolding lines_faults
  all_fine zero h = fine
  all_fine (suc m) h = front_pass _ _ Fine (sym (all_fine m (λ k l. h k (omega arith)))) (h m (omega arith))

  later_row : (n : ℕ) → is_last (line x (suc (suc n))) ≡ false → first (line_faults x (suc (suc n))) ≡ Fine
      → GoodRow (line x (suc (suc n))) × (n < max_rows)
  unfolding own_faults
  later_row n l e = row_parts n _ _ (rw l at (own_fine x (suc (suc n)) e))

  later_last : (n : ℕ) → is_last (line x (suc (suc n))) ≡ true → first (line_faults x (suc (suc n))) ≡ Fine
      → GoodLast n (line x (suc (suc n)))
  unfolding own_faults
  later_last n l e = last_parts n _ _ l (rw l at (own_fine x (suc (suc n)) e))

  first_lines : first (line_faults x 0) ≡ Fine → first (line_faults x 1) ≡ Fine → (same title_word (line x 0) ≡ true) × GoodPair (line x 1)
  unfolding own_faults
  first_lines e f = (title_parts _ _ (own_fine x 0 e), pair_parts _ _ (own_fine x 1 f))

  row_test : ℕ → Bool
  row_test i = is_last (line x (suc (suc i)))

  pub right : first (text_faults x) ≡ Fine → Right x (rows_of x)
  unfolding text_faults rows_of row_test
  right e =
      let each = each_fine (suc (suc (suc (rows_of x)))) e in
      let rows = least_is row_test (suc max_rows) in
      let row : (i : ℕ) → i < rows_of x → GoodRow (line x (suc (suc i)))
      × (i < max_rows) = λ i l. later_row i (rows.before i l) (each (suc (suc i)) (omega arith)) in
      let few : rows_of x < suc max_rows = ⊎_elim (λ h. h) (λ h. absurd (omega (arith, (row max_rows (omega arith)).1)))
      (lt_or_ge (rows_of x) (suc max_rows)) in
      let w = first_lines (each 0 (omega arith)) (each 1 (omega arith)) in
      record {
        whole = λ k l. not_cut x k (each k l);
        title = w.0;
        pair = w.1;
        row = λ i l. ((row i l).0, rows.before i l);
        last = later_last (rows_of x) (rows.here few) (each (suc (suc (rows_of x))) (omega arith));
        few = omega arith;
      }

  line_fine : (k : ℕ) → ended x k ≡ true → Fine ≡ first (own_faults k (line x k) (begin x k)) → Fine ≡ first (line_faults x k)
  unfolding line_faults
  line_fine k e h = pass _ _ cut_line (begin x k) (ap not e) h

  pub rows_right : (n : ℕ) → Right x n → rows_of x ≡ n
  unfolding rows_of
  rows_right n r = least_at _ (suc max_rows) n (omega (arith, r.few)) (λ i l. (r.row i l).1) (λ _. r.last.last)

  own_right : (n : ℕ) → Right x n → (k : ℕ) → k < suc (suc (suc n)) → Fine ≡ first (own_faults k (line x k) (begin x k))
  unfolding own_faults
  own_right n r zero l = title_fine _ _ r.title
  own_right n r (suc zero) l = pair_fine _ _ r.pair
  own_right n r (suc (suc i)) l =
      ⊎_elim (λ h. rw (r.row i h).1 (row_fine i _ _ (r.row i h).0 (omega (arith, r.few))))
      (λ h. let z : i ≡ n = omega arith in rw (z, r.last.last) (last_fine n _ _ r.last)) (lt_or_ge i n)

  pub right_fine : (n : ℕ) → Right x n → Fine ≡ first (text_faults x)
  unfolding text_faults
  right_fine n r = rw (rows_right n r) (all_fine (suc (suc (suc n))) (λ k l. line_fine k (r.whole k l) (own_right n r k l)))
