-- A refusal is one of 1 to 11, at a byte of the text or at its end: each fault of a line is at the line's first byte. Assumes nothing.
use mathlib.Core.Path.{◌≡◌, refl}
use mathlib.Core.Bool.{Bool, true, false, ◌&&◌, cond}
use mathlib.Core.List.{List, ◌∷◌}
use Prim.Native.Nat.{ℕ, zero, suc, ◌≤◌}
use native.Mathlib.Omega.{arith}
use lib.Dec.{leb}
use lib.ListN.{length}
use borrow.Author.Tests.{ltb-true, leb-true}
use Rattle.ground.specs.Judging.{Cause, Fine, first, when}
use Rattle.ground.proofs.Bools.{and_parts}
use Rattle.ground.proofs.Faults.{front_fine}
use Rattle.ground.proofs.Only.{Only, only_none, only_more, only_then}
use Rattle.link.specs.Refusal.{link_faults}
use Rattle.text.specs.Lines.{begin, line}
use Rattle.text.specs.Faults.{placed_at, is_last, title_faults, pair_faults, row_faults, last_faults, own_faults, line_faults, lines_faults}
use Rattle.text.specs.Faults.{text_faults, end_of, late_faults, read_faults}
use Rattle.text.specs.Meaning.{RefusalOf}
use Rattle.text.proofs.Walk.{not_cut, ended_low}

module _ (x old : List ℕ) where
  -- a number and a place that a refusal of x may have
  abbrev Allowed : ℕ → ℕ → Type 0
  Allowed n p = RefusalOf x old n p old

  allowed : (n p : ℕ) → (leb 1 n && leb n 11) ≡ true → p ≤ length x → Allowed n p
  allowed n p e h =
      let w = and_parts (leb 1 n) (leb n 11) e in
      record { low = leb-true 1 n w.0; high = leb-true n 11 w.1; there = h; kept = refl }

  module _ (at : ℕ) (h : at ≤ length x) where
    and_here : (b : Bool) (n : ℕ) {cs : List Cause} → (leb 1 n && leb n 11) ≡ true → Only Allowed cs → Only Allowed (when b n at ∷ cs)
    and_here b n e = only_more Allowed b n at (λ _. allowed n at e h)

    in_title : (l : List ℕ) → Only Allowed (title_faults l at)
    unfolding title_faults
    in_title l = and_here _ _ refl (only_none Allowed)

    in_pair : (l : List ℕ) → Only Allowed (pair_faults l at)
    unfolding pair_faults placed_at link_faults
    in_pair l = and_here _ _ refl (and_here _ _ refl (and_here _ _ refl (only_none Allowed)))

    in_row : (i : ℕ) (l : List ℕ) → Only Allowed (row_faults i l at)
    unfolding row_faults
    in_row i l = and_here _ _ refl (and_here _ _ refl (and_here _ _ refl (only_none Allowed)))

    in_last : (i : ℕ) (l : List ℕ) → Only Allowed (last_faults i l at)
    unfolding last_faults
    in_last i l = and_here _ _ refl (and_here _ _ refl (and_here _ _ refl (only_none Allowed)))

    in_own : (k : ℕ) (l : List ℕ) → Only Allowed (own_faults k l at)
    unfolding own_faults
    in_own zero l = in_title l
    in_own (suc zero) l = in_pair l
    in_own (suc (suc i)) l = go (is_last l)
      where
        go : (b : Bool) → Only Allowed (cond b (last_faults i l at) (row_faults i l at))
        go true = in_last i l
        go false = in_row i l

  -- a line that is judged begins within the text
  begin_low : (m : ℕ) → first (lines_faults x m) ≡ Fine → begin x m ≤ length x
  unfolding lines_faults begin
  begin_low zero e = omega arith
  begin_low (suc m) e = ended_low x m (not_cut x m (front_fine (lines_faults x m) (line_faults x m) e).1)

  in_line : (k : ℕ) → begin x k ≤ length x → Only Allowed (line_faults x k)
  unfolding line_faults
  in_line k h = and_here (begin x k) h _ _ refl (in_own (begin x k) h k (line x k))

  in_lines : (m : ℕ) → Only Allowed (lines_faults x m)
  unfolding lines_faults
  in_lines zero = only_none Allowed
  in_lines (suc m) = only_then Allowed (lines_faults x m) (line_faults x m) (in_lines m) (λ e. in_line m (begin_low m e))

  pub in_text : (room : ℕ) → Only Allowed (read_faults x room)
  unfolding read_faults late_faults text_faults
  in_text room =
      only_more Allowed _ _ _ (λ _. allowed _ _ refl (omega arith))
      (only_then Allowed (text_faults x) (late_faults x room) (in_lines _)
      (λ _. only_more Allowed _ _ _ (λ t. allowed _ _ refl (omega (arith, ltb-true (end_of x) (length x) t)))
      (only_more Allowed _ _ _ (λ _. allowed _ _ refl (omega arith)) (only_none Allowed))))
