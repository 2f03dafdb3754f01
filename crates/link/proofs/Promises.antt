-- What document 01 says of meeting, as theorems about slots. Assumes nothing.
use mathlib.Core.Path.{◌≡◌, sym, ◌∙◌, ap}
use mathlib.Core.Bool.{not}
use mathlib.Core.List.{List, [], ◌∷◌}
use Prim.Native.Nat.{ℕ, ◌≤◌, ◌<◌}
use native.Mathlib.Omega.{arith}
use Rattle.link.specs.Slots.{meets, differ}
use Rattle.link.specs.Rows.{Clear}
use Rattle.link.proofs.OnCircle.{meets_apart, differ_apart}
use Rattle.link.proofs.Clearness.{clear_both}

-- "With starts a and b this is so unless (a-b) modulo P and (b-a) modulo P are both at least T."
pub meet_unless : (p l a b : ℕ) → a < p → b < p → l ≤ p → meets p l a b ≡ not (differ p l a b)
meet_unless p l a b ha hb hl = meets_apart p l a b ha hb hl ∙ ap not (sym (differ_apart p l a b ha hb hl))

-- "One row alone is always clear."
pub one_row_clear : (p l d : ℕ) (os : List ℕ) → Clear p l (d ∷ []) os
one_row_clear p l d os = clear_both (λ c. record { apart = λ i j h k _. omega arith })
