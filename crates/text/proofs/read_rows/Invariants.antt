-- Invariant: the lines before this one are right, and none of them is the last; the delays of the rows are kept, and the next line begins
-- at `at`. At most 64 rows come before the last line.
use Prim.Native.Nat.{◌+◌, ◌-◌}
use Rattle.link.specs.Limits.{max_rows}
use Rattle.text.proofs.Walk.{Walked}
use Rattle.text.proofs.read_rows.Given as goal

abbrev pub invariant-loop-next : goal.invariant-loop-next
invariant-loop-next l = Walked l.text l.kept l.at l.rows

abbrev pub decreases-loop-next : goal.decreases-loop-next
decreases-loop-next l = max_rows + 1 - l.rows
