-- The text of a good table is read as that table, whatever stands behind it, and alone it is accepted. Assumes nothing.
use mathlib.Core.Path.{◌≡◌, refl, sym, ap, ◌∙◌}
use mathlib.Core.List.{List, [], ◌∷◌, ◌++◌, map, append-nil}
use Prim.Native.Nat.{ℕ, zero, suc, ◌+◌, ◌*◌, ◌≤◌, ◌<◌, ◌^◌}
use native.Mathlib.Omega.{arith}
use lib.ListN.{length, get_or, take, length-append, length-map, get_or-append}
use lib.Seq.{take-suc, take-length, get_or_at}
use borrow.Author.Tests.{le-ltb}
use Rattle.ground.specs.Judging.{Fine, first}
use Rattle.ground.specs.Lent.{on_front}
use Rattle.ground.specs.Protocol.{gives, keeping}
use Rattle.ground.proofs.Answers.{goes_on}
use Rattle.ground.proofs.Elements.{get_or_mapped}
use Rattle.ground.proofs.Faults.{pass, fine, front_pass, front_fine}
use Rattle.link.specs.Limits.{max_delay, bad_length}
use Rattle.link.specs.Range.{GoodTable}
use Rattle.link.specs.Refusal.{link_faults, row_faults}
use Rattle.link.specs.declared.Link.{Link}
use Rattle.link.proofs.Accepted.{fine_table}
use Rattle.text.specs.Limits.{max_text, long_text, bytes_after}
use Rattle.text.specs.Bytes.{newline, space, same, title_word}
use Rattle.text.specs.Decimal.{value}
use Rattle.text.specs.Lines.{line}
use Rattle.text.specs.Faults.{link_of, rows_of, text_faults, end_of, late_faults, read_faults}
use Rattle.text.specs.Answer.{tabling, refusing, table_link, delays_of, accepted, reading}
use Rattle.text.specs.Writing.{digits, glue, pair_line, last_line, table_lines, text_of}
use Rattle.text.proofs.Spelling.{digits_decimal, digits_value, digits_short}
use Rattle.text.proofs.Finding.{same_self}
use Rattle.text.proofs.Gluing.{AllFree, all_free_append, line_at, ended_at, end_at}
use Rattle.text.proofs.Forms.{digits_without, pair_is, link_is, pair_free, last_is, count_decimal, count_value, last_free}
use Rattle.text.proofs.Forms.{row_not_last}
use Rattle.text.proofs.Right.{Right, rows_right, right_fine}

rows_free : (ds : List ℕ) → ((i : ℕ) → i < length ds → get_or ds i 0 ≤ max_delay) → AllFree (map digits ds)
rows_free [] h = tt
rows_free (d ∷ ds) h =
    let l = h 0 (omega arith) in
    (digits_without newline d (omega arith) (omega arith), rows_free ds (λ i m. h (suc i) (omega arith)))

-- a row is at most nine bytes, and the last line at most 13
rows_short : (ds ls : List ℕ) → ((i : ℕ) → i < length ds → get_or ds i 0 ≤ max_delay)
    → length (glue (map digits ds ++ ls ∷ [])) ≤ 9 * length ds + length ls + 1
unfolding glue
rows_short [] ls h = omega (arith, length-append ls (newline ∷ []))
rows_short (d ∷ ds) ls h =
    let l = h 0 (omega arith) in
    omega (
      arith,
      length-append (digits d) (newline ∷ glue (map digits ds ++ ls ∷ [])),
      digits_short d (omega arith),
      rows_short ds
          ls (λ i m. h (suc i) (omega arith)),
    )

module _ (k : Link) (ds : List ℕ) (g : GoodTable k ds) where
  period_low : k.period < 10 ^ 8
  period_low = omega (arith, g.period_high)

  size_low : k.size < 10 ^ 8
  size_low = omega (arith, g.span_high, g.period_high)

  pub count_low : length ds < 10 ^ 8
  count_low = omega (arith, g.rows_high)

  pub delay_low : (i : ℕ) → i < length ds → get_or ds i 0 < 10 ^ 8
  delay_low i l = omega (arith, g.delays i l)

  pub lines_free : AllFree (table_lines k ds)
  lines_free = (
    ((λ e. omega arith), ((λ e. omega arith), ((λ e. omega arith), ((λ e. omega arith), ((λ e. omega arith), tt))))),
    (
      pair_free k period_low size_low,
      all_free_append (map digits ds) (last_line (length ds) ∷ []) (rows_free ds g.delays) (last_free (length ds) count_low, tt),
    ),
  )

  pub line_count : length (table_lines k ds) ≡ suc (suc (suc (length ds)))
  line_count = omega (arith, length-append (map digits ds) (last_line (length ds) ∷ []), length-map ds digits)

  pub row_there : (i : ℕ) → i < length ds → get_or (table_lines k ds) (suc (suc i)) [] ≡ digits (get_or ds i 0)
  row_there i h =
      get_or-append (map digits ds) (last_line (length ds) ∷ []) [] i (omega (arith, length-map ds digits))
      ∙ get_or_mapped digits ds 0 [] i h

  pub last_there : get_or (table_lines k ds) (suc (suc (length ds))) [] ≡ last_line (length ds)
  last_there = get_or_at (map digits ds) (last_line (length ds)) [] [] (length ds) (length-map ds digits)

  link_fine : first (link_faults k) ≡ Fine
  link_fine = (front_fine (link_faults k) (row_faults ds) (sym (fine_table k ds g))).0

  -- 6 bytes, at most 18, at most 9 for each row, at most 13
  pub text_short : length (text_of k ds) ≤ max_text
  unfolding glue pair_line last_line
  text_short =
      omega (
        arith,
        length-append (digits k.period) (space ∷ digits k.size),
        digits_short k.period period_low,
        digits_short k.size size_low,
        length-append (pair_line k) (newline ∷ glue (map digits ds ++ last_line (length ds) ∷ [])),
        digits_short (length ds) count_low,
        rows_short ds (last_line (length ds)) g.delays,
        g.rows_high,
      )

  -- its lines, where z stands behind it
  module _ (z : List ℕ) where
    text_line : (j : ℕ) (l : List ℕ) → j < suc (suc (suc (length ds))) → get_or (table_lines k ds) j [] ≡ l → line (text_of k ds ++ z) j ≡ l
    text_line j l h e = line_at (table_lines k ds) lines_free z j (omega (arith, line_count)) ∙ e

    title_line : line (text_of k ds ++ z) 0 ≡ title_word
    title_line = text_line 0 title_word (omega arith) refl

    two_line : line (text_of k ds ++ z) 1 ≡ pair_line k
    two_line = text_line 1 (pair_line k) (omega arith) refl

    row_line : (i : ℕ) → i < length ds → line (text_of k ds ++ z) (suc (suc i)) ≡ digits (get_or ds i 0)
    row_line i h = text_line (suc (suc i)) (digits (get_or ds i 0)) (omega arith) (row_there i h)

    end_line : line (text_of k ds ++ z) (suc (suc (length ds))) ≡ last_line (length ds)
    end_line = text_line (suc (suc (length ds))) (last_line (length ds)) (omega arith) last_there

    text_right : Right (text_of k ds ++ z) (length ds)
    text_right =
        record {
          whole = λ j l. ended_at (table_lines k ds) lines_free z j (omega (arith, line_count));
          title = ap (same title_word) title_line ∙ same_self title_word;
          pair = rw two_line (record { pair = pair_is k period_low size_low; values = rw (link_is k period_low size_low) link_fine });
          row = λ i l.
              let d = digits_decimal (get_or ds i 0) (delay_low i l) in
              rw (row_line i l) (
                record { decimal = d; low = rw (digits_value (get_or ds i 0) (delay_low i l)) (g.delays i l) },
                row_not_last _ d,
              );
          last = rw end_line (record {
            last = last_is (length ds) count_low;
            decimal = count_decimal (length ds) count_low;
            some_row = g.rows_low;
            count = count_value (length ds) count_low;
          });
          few = g.rows_high;
        }

    text_rows : rows_of (text_of k ds ++ z) ≡ length ds
    text_rows = rows_right (text_of k ds ++ z) (length ds) text_right

    text_end : end_of (text_of k ds ++ z) ≡ length (text_of k ds)
    unfolding end_of
    text_end = rw text_rows (end_at (table_lines k ds) lines_free z (suc (suc (length ds))) line_count)

    delays_are : (i : ℕ) → i ≤ length ds → delays_of (text_of k ds ++ z) i ≡ take i ds
    unfolding delays_of
    delays_are zero h = refl
    delays_are (suc i) h =
        let v : value (line (text_of k ds ++ z) (suc (suc i))) ≡ get_or ds i 0 = ap value (row_line i h)
        ∙ digits_value (get_or ds i 0) (delay_low i h) in
        ap (λ (r : List ℕ). r ++ (value (line (text_of k ds ++ z) (suc (suc i))) ∷ [])) (delays_are i (omega arith))
        ∙ ap (λ (n : ℕ). take i ds ++ n ∷ []) v ∙ sym (take-suc ds i 0 h)

-- x is read as the table ds on the link k, with nothing wrong in its lines, which end at the byte `to`
pub record ReadAs (x : List ℕ) (k : Link) (ds : List ℕ) (to : ℕ) : Type 0 where
  pub fine : first (text_faults x) ≡ Fine
  pub rows : rows_of x ≡ length ds
  pub end : end_of x ≡ to
  pub link : table_link x ≡ k
  pub delays : delays_of x (length ds) ≡ ds

-- the text of a good table is read as that table, whatever stands behind it
pub text_behind : (k : Link) (ds z : List ℕ) → GoodTable k ds → ReadAs (text_of k ds ++ z) k ds (length (text_of k ds))
text_behind k ds z g =
    record {
      fine = sym (right_fine (text_of k ds ++ z) (length ds) (text_right k ds g z));
      rows = text_rows k ds g z;
      end = text_end k ds g z;
      link = ap link_of (two_line k ds g z) ∙ link_is k (period_low k ds g) (size_low k ds g);
      delays = delays_are k ds g z (length ds) (omega arith) ∙ take-length ds;
    }

module _ (x : List ℕ) (k : Link) (ds : List ℕ) (r : ReadAs x k ds (length x)) where
  text_fine : (room : ℕ) → length ds ≤ room → length x ≤ max_text → Fine ≡ first (read_faults x room)
  unfolding read_faults late_faults
  text_fine room h l =
      pass _ _ long_text 0 (le-ltb _ _ l)
      (front_pass _ _ Fine r.fine
      (pass _ _ bytes_after _ (le-ltb (end_of x) (length x) (omega (arith, r.end)))
      (pass _ _ bad_length 0 (le-ltb room (rows_of x) (omega (arith, r.rows))) fine)))

  text_taken : (old : List ℕ) → gives (tabling k (length ds)) (on_front ds old) ≡ accepted x old
  unfolding accepted
  text_taken old = rw (r.rows, r.delays, r.link)

-- the text of a good table is accepted as that table, wherever the list has room
pub text_accepted : (k : Link) (ds old : List ℕ) → GoodTable k ds → length ds ≤ length old
    → gives (tabling k (length ds)) (on_front ds old) ≡ reading (text_of k ds) old
unfolding reading
text_accepted k ds old g h =
    let r : ReadAs (text_of k ds) k ds (length (text_of k ds)) = rw append-nil at (text_behind k ds [] g) in
    goes_on (keeping refusing old) (sym (text_fine _ k ds r (length old) h (text_short k ds g))) (text_taken _ k ds r old)
