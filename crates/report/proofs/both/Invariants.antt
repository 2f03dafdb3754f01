-- Invariant: `seconds` has the second starts of the rows before this one.
use Rattle.report.proofs.Crossings.{Seconds}
use Rattle.report.proofs.both.Given as goal

abbrev pub invariant-loop-row : goal.invariant-loop-row
invariant-loop-row l = Seconds l.circle.period l.delays l.offsets l.seconds l.row
