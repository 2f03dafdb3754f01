-- What the program's one function promises. Assumes nothing.
use mathlib.Core.Path.{◌≡◌, sym, ◌∙◌}
use mathlib.Core.List.{List}
use Prim.Native.Nat.{ℕ, ◌≤◌}
use native.Mathlib.Omega.{arith}
use lib.ListN.{length}
use Rattle.ground.specs.Lent.{Adds}
use Rattle.ground.proofs.Adding.{inside}
use Rattle.console.specs.Printed.{printed}

-- no second count of bytes, and no second content of the buffer, meets the contract
pub no_second : (x old : List ℕ) (r s : ℕ) (new other : List ℕ) → Adds old 0 (printed x) r new → Adds old 0 (printed x) s other
    → (r ≡ s) × (new ≡ other)
no_second x old r s new other a b = (a.end ∙ sym b.end, a.written ∙ sym b.written)

-- what is printed lies within the buffer
pub printed_inside : (x old : List ℕ) (r : ℕ) (new : List ℕ) → Adds old 0 (printed x) r new → r ≤ length new
printed_inside x old r new a = inside old 0 (printed x) r new (omega arith) a
