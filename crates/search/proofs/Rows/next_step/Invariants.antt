-- Invariant: no number from the first on, and below k, stands for a step.
use Prim.Native.Nat.{◌-◌, ◌*◌, ◌≤◌}
use Rattle.link.specs.Limits.{max_rows}
use Rattle.link.specs.Starts.{firsts}
use Rattle.search.proofs.Numbers.{Skipped}
use Rattle.search.proofs.Rows.next_step.Given as goal

abbrev pub invariant-loop-k : goal.invariant-loop-k
invariant-loop-k l =
    (l.from ≤ l.k) × (l.k ≤ l.self.count * (2 * max_rows))
    × Skipped l.self.circle.period l.self.count (firsts l.board) l.from l.k

abbrev pub decreases-loop-k : goal.decreases-loop-k
decreases-loop-k l = l.self.count * (2 * max_rows) - l.k
