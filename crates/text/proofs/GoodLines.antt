-- What it means that nothing is wrong with a line by itself, for each kind of line. Assumes nothing.
use mathlib.Core.Path.{◌≡◌, refl, sym, ap, ◌∙◌}
use mathlib.Core.Bool.{true, not}
use mathlib.Core.List.{List}
use mathlib.Core.Logic.{⊎_elim}
use Prim.Native.Nat.{ℕ, ◌≤◌, ◌<◌}
use native.Mathlib.Omega.{arith}
use lib.Dec.{ltb, leb, eqb}
use borrow.Author.Tests.{ltb-false, leb-false, eqb-false, eqb-true, not-false, le-ltb, lt-leb, ne_eqb, eq-eqb}
use Rattle.ground.specs.Judging.{Judged, Fine, Fault, first}
use Rattle.ground.proofs.Bools.{lt_or_ge, never}
use Rattle.ground.proofs.Faults.{pass, passed, fine}
use Rattle.link.specs.Limits.{max_rows, max_delay, bad_delay, bad_rows}
use Rattle.link.specs.Refusal.{link_faults}
use Rattle.text.specs.Limits.{bad_line_one, bad_line, bad_count}
use Rattle.text.specs.Bytes.{same, title_word}
use Rattle.text.specs.Decimal.{is_decimal, value}
use Rattle.text.specs.Faults.{is_pair, link_of, is_last, count_part, title_faults, pair_faults, row_faults, last_faults}
use Rattle.text.proofs.LineForms.{moved, placed}

-- a row, and the last line after n rows
pub record GoodRow (l : List ℕ) : Type 0 where
  pub decimal : is_decimal l ≡ true
  pub low : value l ≤ max_delay

pub record GoodLast (n : ℕ) (l : List ℕ) : Type 0 where
  pub last : is_last l ≡ true
  pub decimal : is_decimal (count_part l) ≡ true
  pub some_row : 1 ≤ n
  pub count : value (count_part l) ≡ n

pub record GoodPair (l : List ℕ) : Type 0 where
  pub pair : is_pair l ≡ true
  pub values : first (link_faults (link_of l)) ≡ Fine

pub row_parts : (n : ℕ) (l : List ℕ) (at : ℕ) → first (row_faults n l at) ≡ Fine → GoodRow l × (n < max_rows)
unfolding row_faults
row_parts n l at e =
    let a = passed (not (is_decimal l)) bad_line at _ e in
    let b = passed (ltb max_delay (value l)) bad_delay at _ a.1 in
    let c = passed (leb max_rows n) bad_rows at _ b.1 in
    (record { decimal = not-false _ a.0; low = ltb-false _ _ b.0 }, leb-false _ _ c.0)

pub row_fine : (n : ℕ) (l : List ℕ) (at : ℕ) → GoodRow l → n < max_rows → Fine ≡ first (row_faults n l at)
unfolding row_faults
row_fine n l at g h =
    pass _ _ bad_line at (ap not g.decimal) (pass _ _ bad_delay at (le-ltb _ _ g.low) (pass _ _ bad_rows at (lt-leb _ _ h) fine))

pub last_parts : (n : ℕ) (l : List ℕ) (at : ℕ) → is_last l ≡ true → first (last_faults n l at) ≡ Fine → GoodLast n l
unfolding last_faults
last_parts n l at t e =
    let a = passed (not (is_decimal (count_part l))) bad_line at _ e in
    let b = passed (eqb n 0) bad_rows at _ a.1 in
    let c = passed (not (eqb (value (count_part l)) n)) bad_count at _ b.1 in
    let z = eqb-false n 0 b.0 in
    record {
      last = t;
      decimal = not-false _ a.0;
      some_row = ⊎_elim (λ h. absurd (z (omega arith))) (λ h. h) (lt_or_ge n 1);
      count = eqb-true _ _ (not-false _ c.0);
    }

pub last_fine : (n : ℕ) (l : List ℕ) (at : ℕ) → GoodLast n l → Fine ≡ first (last_faults n l at)
unfolding last_faults
last_fine n l at g =
    pass _ _ bad_line at (ap not g.decimal)
    (pass _ _ bad_rows at (ne_eqb n 0 (λ e. omega (arith, g.some_row))) (pass _ _ bad_count at (ap not (eq-eqb _ _ g.count)) fine))

stays_fine : (at : ℕ) (j : Judged) → moved at j ≡ Fine → j ≡ Fine
stays_fine at Fine e = refl
stays_fine at (Fault n p) e = never cc

pub pair_parts : (l : List ℕ) (at : ℕ) → first (pair_faults l at) ≡ Fine → GoodPair l
unfolding pair_faults
pair_parts l at e =
    let a = passed (not (is_pair l)) bad_line at _ e in
    record { pair = not-false _ a.0; values = stays_fine at _ (sym (placed at (link_faults (link_of l))) ∙ a.1) }

pub pair_fine : (l : List ℕ) (at : ℕ) → GoodPair l → Fine ≡ first (pair_faults l at)
unfolding pair_faults
pair_fine l at g = pass _ _ bad_line at (ap not g.pair) (sym (placed at (link_faults (link_of l)) ∙ ap (moved at) g.values))

pub title_parts : (l : List ℕ) (at : ℕ) → first (title_faults l at) ≡ Fine → same title_word l ≡ true
unfolding title_faults
title_parts l at e = not-false _ (passed (not (same title_word l)) bad_line_one at _ e).0

pub title_fine : (l : List ℕ) (at : ℕ) → same title_word l ≡ true → Fine ≡ first (title_faults l at)
unfolding title_faults
title_fine l at e = pass _ _ bad_line_one at (ap not e) fine
