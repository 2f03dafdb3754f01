-- Invariant: groups are read that have more behind them, and what those say decides.
use Rattle.planfile.proofs.Numbers.{Summing}
use Rattle.planfile.proofs.groups.number_at.Given as goal

abbrev pub invariant-loop-i : goal.invariant-loop-i
invariant-loop-i l = Summing l.groups l.value l.weight l.i
