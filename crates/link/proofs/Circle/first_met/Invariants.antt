-- Invariant: no row up to this one is near in either crossing.
use mathlib.Core.Path.{◌≡◌}
use mathlib.Core.Bool.{false}
use Prim.Native.Nat.{ℕ, ◌<◌}
use Rattle.link.specs.Rows.{near, either}
use Rattle.link.specs.Starts.{firsts, seconds}
use Rattle.link.proofs.Circle.first_met.Given as goal

abbrev pub invariant-loop-row : goal.invariant-loop-row
invariant-loop-row l =
    (k : ℕ) → k < l.row → either (near l.self.period l.self.span (firsts l.starts) (seconds l.starts) l.new.first l.new.second) k ≡ false
