use native.Mathlib.Omega.{arith}
use Rattle.report.proofs.Starts.{one_start_more}
use Rattle.report.proofs.next_start.Goals as goal

pub loop-other-preserved : goal.loop-other-preserved
loop-other-preserved c =
    rw c.min-next.ensures
    (one_start_more _ _ _ _ _ _ c.requires.0 (c.requires.2 _ (omega arith)) c.loop-other.invariant c.turn.ensures.0)
