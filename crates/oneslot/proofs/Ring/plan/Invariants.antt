-- Invariant: the first j rows have come in, and `starts` has their starts.
use Rattle.link.specs.Starts.{firsts, seconds}
use Rattle.oneslot.proofs.Settling.{State}
use Rattle.oneslot.proofs.Ring.plan.Given as goal

abbrev pub invariant-loop-j : goal.invariant-loop-j
invariant-loop-j l = State l.self.circle.period l.self.circle.span l.delays l.j (firsts l.starts) (seconds l.starts)
