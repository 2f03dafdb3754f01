use mathlib.Core.Path.{sym}
use native.Mathlib.Omega.{arith}
use Rattle.planfile.specs.Answer.{rowed, rowsed}
use Rattle.planfile.proofs.Steps.{reading_none, reading_stops, reading_more, reading_done}
use Rattle.planfile.proofs.reader.read_rows.Goals as goal

pub loop-j-init : goal.loop-j-init
loop-j-init c = reading_none _ _ _ _ _ _

pub returns-in-Err : goal.returns-in-Err
unfolding rowed rowsed
returns-in-Err c = reading_stops _ _ _ _ _ _ _ _ _ _ c.loop-j.invariant _ _ (omega arith) (sym c.in-Err.ensures)

pub loop-j-preserved : goal.loop-j-preserved
unfolding rowed
loop-j-preserved c =
    reading_more _ _ _ _ _ _ _ _ _ _ c.loop-j.invariant _ _ _ (omega arith) (omega arith) (omega arith) (sym c.in-Ok.ensures)

pub returns : goal.returns
unfolding rowsed
returns c = reading_done _ _ _ _ _ _ _ _ _ _ c.loop-j.invariant c.loop-j-test.false
