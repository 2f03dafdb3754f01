-- Below the period the sum stands; at or above it, one period is taken off.
use native.Mathlib.Omega.{arith}
use Rattle.link.specs.Rows.{second}
use Rattle.link.proofs.OnCircle.{turned_low, turned_high}
use Rattle.link.proofs.Circle.turn.Goals as goal

pub returns-then-at-rest : goal.returns-then-at-rest
unfolding second
returns-then-at-rest c = (turned_low _ _ (omega arith), omega arith)

pub returns : goal.returns
unfolding second
returns c = (turned_high _ _ _ (omega arith) (omega arith), omega arith)
