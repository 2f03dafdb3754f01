-- One offset more. Assumes nothing.
use mathlib.Core.Path.{◌≡◌, sym, ◌∙◌, ap}
use mathlib.Core.List.{List, [], ◌∷◌, ◌++◌, append_assoc, append-nil}
use Prim.Native.Nat.{ℕ, ◌+◌, ◌<◌}
use native.Mathlib.Numerals.{add-one}
use lib.ListN.{length, get_or, take}
use lib.Seq.{take-suc}
use Rattle.console.specs.Printed.{number_line, offset_lines}

offset_lines_lem : (xs : List ℕ) (o : ℕ) → offset_lines (xs ++ (o ∷ [])) ≡ offset_lines xs ++ number_line o
unfolding offset_lines
offset_lines_lem [] o = append-nil (number_line o)
offset_lines_lem (x ∷ xs) o =
    ap (λ (l : List ℕ). number_line x ++ l) (offset_lines_lem xs o)
    ∙ sym (append_assoc (number_line x) (offset_lines xs) (number_line o))

-- behind what stands already
pub one_more : (front os : List ℕ) (i : ℕ) → i < length os
    → (front ++ offset_lines (take i os)) ++ number_line (get_or os i 0) ≡ front ++ offset_lines (take (i + 1) os)
one_more front os i h =
    append_assoc front (offset_lines (take i os)) (number_line (get_or os i 0))
    ∙ rw (add-one, take-suc os i 0 h) (ap (λ (l : List ℕ). front ++ l) (sym (offset_lines_lem (take i os) (get_or os i 0))))
