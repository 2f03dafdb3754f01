-- A text with nothing wrong begins with the text of its table, and an accepted one is that text. Assumes nothing.
use mathlib.Core.Path.{◌≡◌, sym, ap, ◌∙◌}
use mathlib.Core.List.{List, [], ◌∷◌, ◌++◌, map, map-append}
use mathlib.Core.Logic.{⊎_elim}
use Prim.Native.Nat.{ℕ, zero, suc, ◌≤◌, ◌<◌}
use native.Mathlib.Omega.{arith}
use lib.Dec.{ltb}
use lib.ListN.{length, get_or, take, drop, get_or-append}
use lib.Seq.{get_or_at, take_all, take_at}
use borrow.Author.Tests.{ltb-false, le-ltb}
use Rattle.ground.specs.Judging.{Fine, first}
use Rattle.ground.specs.Lent.{on_front}
use Rattle.ground.proofs.Bools.{lt_or_ge}
use Rattle.ground.proofs.Minimum.{some_none}
use Rattle.ground.proofs.Faults.{pass, passed, fine, front_pass, front_fine, inside}
use Rattle.link.specs.Limits.{max_delay, max_rows, bad_length, bad_rows, bad_delay}
use Rattle.link.specs.Range.{GoodTable}
use Rattle.link.specs.Refusal.{link_faults, row_faults}
use Rattle.link.proofs.Accepted.{good_table}
use Rattle.text.specs.Limits.{max_text, long_text, bytes_after}
use Rattle.text.specs.Bytes.{title_word}
use Rattle.text.specs.Decimal.{value}
use Rattle.text.specs.Lines.{begin, line}
use Rattle.text.specs.Faults.{rows_of, text_faults, end_of, late_faults, read_faults}
use Rattle.text.specs.Answer.{table_link, delays_of}
use Rattle.text.specs.Meaning.{TableOf}
use Rattle.text.specs.Writing.{digits, glue, pair_line, last_line, table_lines, text_of}
use Rattle.text.proofs.Spelling.{decimal_digits}
use Rattle.text.proofs.Finding.{same_equal}
use Rattle.text.proofs.Gluing.{lines_to, lines_glued}
use Rattle.text.proofs.Forms.{pair_spelt, last_spelt}
use Rattle.text.proofs.Walk.{ended_low}
use Rattle.text.proofs.Right.{Right, right}
use Rattle.text.proofs.Values.{length_delays}

module _ (x : List ℕ) (n : ℕ) (r : Right x n) where
  lines_so_far : (i : ℕ) → i ≤ n → lines_to x (suc (suc i)) ≡ title_word ∷ pair_line (table_link x) ∷ map digits (delays_of x i)
  unfolding delays_of
  lines_so_far zero h =
      ap {B = List (List ℕ)} (λ l. l ∷ line x 1 ∷ []) (sym (same_equal title_word (line x 0) r.title))
      ∙ ap {B = List (List ℕ)} (λ l. title_word ∷ l ∷ []) (pair_spelt (line x 1) r.pair.pair)
  lines_so_far (suc i) h =
      ap {B = List (List ℕ)} (λ ls. ls ++ line x (suc (suc i)) ∷ []) (lines_so_far i (omega arith))
      ∙ ap {B = List (List ℕ)} (λ l. title_word ∷ pair_line (table_link x) ∷ (map digits (delays_of x i) ++ l ∷ []))
      (sym (decimal_digits (line x (suc (suc i))) (r.row i h).0.decimal))
      ∙ ap {B = List (List ℕ)} (λ ls. title_word ∷ pair_line (table_link x) ∷ ls)
      (sym (map-append digits (delays_of x i) (value (line x (suc (suc i))) ∷ [])))

  all_lines : lines_to x (suc (suc (suc n))) ≡ table_lines (table_link x) (delays_of x n)
  all_lines =
      ap {B = List (List ℕ)} (λ ls. ls ++ line x (suc (suc n)) ∷ []) (lines_so_far n (omega arith))
      ∙ ap {B = List (List ℕ)} (λ l. title_word ∷ pair_line (table_link x) ∷ (map digits (delays_of x n) ++ l ∷ []))
      (last_spelt n (line x (suc (suc n))) r.last.last r.last.decimal r.last.count ∙ ap last_line (sym (length_delays x n)))

  front_is_text : take (begin x (suc (suc (suc n)))) x ≡ text_of (table_link x) (delays_of x n)
  front_is_text = lines_glued x (suc (suc (suc n))) r.whole ∙ ap glue all_lines

  delay_at : (m i : ℕ) → i < m → get_or (delays_of x m) i 0 ≡ value (line x (suc (suc i)))
  unfolding delays_of
  delay_at zero i l = absurd (omega arith)
  delay_at (suc m) i l =
      ⊎_elim (λ h. get_or-append (delays_of x m) _ 0 i (omega (arith, length_delays x m)) ∙ delay_at m i h)
      (λ h. let z : i ≡ m = omega arith in rw z (get_or_at (delays_of x m) (value (line x (suc (suc m)))) [] 0 m (length_delays x m)))
      (lt_or_ge i m)

  low : (i : ℕ) → i < length (delays_of x n) → get_or (delays_of x n) i 0 ≤ max_delay
  low i l = let h : i < n = omega (arith, length_delays x n) in rw (delay_at n i h) (r.row i h).0.low

  good : GoodTable (table_link x) (delays_of x n)
  unfolding row_faults
  good =
      good_table _ _
      (sym (front_pass (link_faults (table_link x)) (row_faults (delays_of x n)) Fine r.pair.values
      (pass _ _ bad_rows 0 (inside 1 max_rows (length (delays_of x n)) (omega (arith, length_delays x n, r.last.some_row))
      (omega (arith, length_delays x n, r.few)))
      (pass _ _ bad_delay _ (some_none (λ i. ltb max_delay (get_or (delays_of x n) i 0)) (length (delays_of x n))
      (λ i l. le-ltb max_delay (get_or (delays_of x n) i 0) (low i l))) fine))))

-- x begins with the text of the good table that is read from it
pub record BeginsWithItsText (x : List ℕ) : Type 0 where
  pub good : GoodTable (table_link x) (delays_of x (rows_of x))
  pub text : take (end_of x) x ≡ text_of (table_link x) (delays_of x (rows_of x))
  pub inside : end_of x ≤ length x

-- a text whose lines are right begins with the text of its table, whatever stands behind it
pub begins_with_its_text : (x : List ℕ) → first (text_faults x) ≡ Fine → BeginsWithItsText x
unfolding end_of
begins_with_its_text x e =
    let r = right x e in
    let n = rows_of x in
    record {
      good = good x n r;
      text = front_is_text x n r;
      inside = ended_low x (suc (suc n)) (r.whole (suc (suc n)) (omega arith));
    }

-- a text that nothing is wrong with is the text of its table, which is written
pub taken_table : (x old : List ℕ) → first (read_faults x (length old)) ≡ Fine
    → TableOf x old (table_link x) (rows_of x) (on_front (delays_of x (rows_of x)) old)
unfolding read_faults late_faults
taken_table x old f =
    let a = passed (ltb max_text (length x)) long_text 0 _ f in
    let b = front_fine (text_faults x) (late_faults x (length old)) a.1 in
    let c = passed (ltb (end_of x) (length x)) bytes_after (end_of x) _ b.1 in
    let d = passed (ltb (length old) (rows_of x)) bad_length 0 _ c.1 in
    let w = begins_with_its_text x b.0 in
    let many = length_delays x (rows_of x) in
    let front = take_at (delays_of x (rows_of x)) (drop (length (delays_of x (rows_of x))) old) (rows_of x) many in
    record {
      room = ltb-false (length old) (rows_of x) d.0;
      as_many = rw front many;
      good = rw front w.good;
      text = rw front (sym (take_all (end_of x) x (ltb-false _ _ c.0)) ∙ w.text);
      written = rw front;
    }
