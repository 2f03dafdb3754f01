-- Invariant: `next` slots on from x is the next of the starts so far, or `next` is the period.
use Rattle.report.specs.Steps.{NextStart}
use Rattle.report.proofs.next_start.Given as goal

abbrev pub invariant-loop-other : goal.invariant-loop-other
invariant-loop-other l = NextStart l.circle.period l.starts l.other-index l.x l.next
