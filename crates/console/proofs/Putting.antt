-- Bytes put behind bytes, and the room that is left. Assumes nothing.
use mathlib.Core.Path.{◌≡◌, ◌∙◌}
use mathlib.Core.List.{List, [], ◌∷◌, ◌++◌}
use Prim.Native.Nat.{ℕ, ◌+◌, ◌≤◌}
use native.Mathlib.Omega.{arith}
use lib.ListN.{length, length-append}
use Rattle.ground.proofs.Adding.{and_then, same_length}
use Rattle.text.specs.Bytes.{newline}
use Rattle.console.specs.Pages.{Puts}
use Rattle.console.specs.Printed.{max_digits, number, number_line}
use Rattle.console.specs.declared.page.Page.{Page}
use Rattle.console.proofs.Spelling.{number_short}

-- the buffer is as long as it was
pub as_long : {a b : Page} {v : List ℕ} → Puts a v b → length b.out.now ≡ length a.out.now
as_long x = same_length _ _ _ x.fits _ _ x.adds

pub behind : {a b c : Page} {v w : List ℕ} → Puts a v b → Puts b w c → Puts a (v ++ w) c
behind {v = v} {w = w} x y =
    record {
      same = y.same ∙ x.same;
      fits = omega (arith, y.fits, x.adds.end, as_long x, length-append v w);
      adds = and_then _ _ v x.fits _ _ x.adds w _ _ y.adds;
    }

-- a number takes no more room than its most digits
pub number_end : {a b : Page} (n : ℕ) → Puts a (number n) b → b.end ≤ a.end + max_digits
number_end n x = omega (arith, x.adds.end, number_short n)

pub line_end : {a b : Page} (n : ℕ) → Puts a (number_line n) b → b.end ≤ a.end + max_digits + 1
line_end n x = omega (arith, x.adds.end, number_short n, length-append (number n) (newline ∷ []))
