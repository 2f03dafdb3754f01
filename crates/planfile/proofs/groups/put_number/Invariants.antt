-- Invariant: groups are written, and those of what is left make the whole.
use Rattle.planfile.proofs.Numbers.{Putting}
use Rattle.planfile.proofs.groups.put_number.Given as goal

abbrev pub invariant-loop-left : goal.invariant-loop-left
invariant-loop-left l = Putting l.value l.initial.file l.from l.file l.at l.left

abbrev pub decreases-loop-left : goal.decreases-loop-left
decreases-loop-left l = l.left
