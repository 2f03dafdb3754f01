-- Invariant: `new` has the starts at the candidate c, and no candidate from `from` on and before c is open.
use mathlib.Core.Path.{◌≡◌}
use mathlib.Core.Bool.{false}
use Prim.Native.Nat.{ℕ, ◌*◌, ◌≤◌, ◌<◌}
use Rattle.link.specs.Rows.{second}
use Rattle.link.specs.Starts.{firsts, seconds}
use Rattle.quick.specs.Ways.{open_to}
use Rattle.quick.proofs.first_free.Given as goal

abbrev pub invariant-loop-c : goal.invariant-loop-c
invariant-loop-c l =
    (l.new.first ≡ l.c * l.step) × (l.new.second ≡ second l.circle.period l.delay l.new.first)
    × ((i : ℕ) → l.from ≤ i → i < l.c
    → open_to l.circle.period l.circle.span l.delay (firsts l.starts) (seconds l.starts) l.step i ≡ false)
