-- How the numbers that are put down show to be the answer's. Assumes nothing.
use mathlib.Core.Path.{◌≡◌, ap, ◌∙◌}
use mathlib.Core.List.{List}
use Prim.Native.Nat.{ℕ}
use Rattle.ground.specs.Protocol.{Outcome, gives}
use Rattle.seamwhisk.specs.Numbers.{as_numbers}

-- the numbers of what was said are put down
pub put_down : {B L : Type 0} (numbers : B → List ℕ) {o : Outcome B L} {x : B} {new : L} {ns : List ℕ}
    → gives x new ≡ o → ns ≡ numbers x → gives ns new ≡ as_numbers numbers o
put_down numbers {new} e g = ap (λ (xs : List ℕ). gives xs new) g ∙ ap (as_numbers numbers) e
