-- Invariant: the first j rows have their offsets, and `starts` has their starts.
use Rattle.link.specs.Starts.{firsts, seconds}
use Rattle.quick.proofs.Placing.{State}
use Rattle.quick.proofs.plan.Given as goal

abbrev pub invariant-loop-j : goal.invariant-loop-j
invariant-loop-j l = State l.circle.period l.circle.span l.delays l.step l.count l.j (firsts l.starts) (seconds l.starts)
