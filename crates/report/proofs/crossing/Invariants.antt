-- Invariant: the numbers are those of what lies behind the messages so far.
use Rattle.report.proofs.Passing.{Passed}
use Rattle.report.proofs.crossing.Given as goal

abbrev pub invariant-loop-start : goal.invariant-loop-start
invariant-loop-start l = Passed l.circle.period l.circle.span l.starts l.start-index l.free l.stretches l.widest
