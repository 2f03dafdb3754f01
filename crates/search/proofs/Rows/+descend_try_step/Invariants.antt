-- The two functions call each other. What falls is the work that is left: the rows not yet placed, then the candidates of the row at hand.
-- Invariant: an answer to the candidates from k on, with the tests that are left, is an answer to the whole.
use Prim.Native.Nat.{ℕ, ◌+◌, ◌-◌, ◌*◌}
use Rattle.link.specs.Limits.{max_rows}
use Rattle.link.specs.Starts.{firsts, seconds}
use Rattle.search.proofs.Looping.{Going}
use Rattle.search.proofs.Rows.+descend_try_step.Given as goal

-- the numbers of steps
abbrev pub candidates : ℕ
candidates = max_rows * (2 * max_rows)

abbrev pub decreases-descend : goal.decreases-descend
decreases-descend l = l.unplaced * (candidates + 1)

abbrev pub decreases-try_step : goal.decreases-try_step
decreases-try_step l = l.unplaced * (candidates + 1) + (candidates - l.k)

abbrev pub invariant-descend-loop-k : goal.invariant-descend-loop-k
invariant-descend-loop-k l =
    Going l.self.circle.period l.self.circle.span l.self.delays l.self.count l.unplaced l.budget
    (firsts l.fn.board) (firsts l.board) (seconds l.board) l.left l.k

abbrev pub decreases-descend-loop-k : goal.decreases-descend-loop-k
decreases-descend-loop-k l = l.self.count * (2 * max_rows) - l.k
