-- Invariant: the delays so far are reduced, and the rest is 0.
use Rattle.search.proofs.Reducing.{Reduced}
use Rattle.search.proofs.reduced.Given as goal

abbrev pub invariant-loop-row : goal.invariant-loop-row
invariant-loop-row l = Reduced l.period l.delays l.row l.turns
