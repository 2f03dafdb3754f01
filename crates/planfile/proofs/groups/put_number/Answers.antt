-- The lowest group is stored, with its top bit set where more follow; then the groups above it.
use Rattle.planfile.proofs.Numbers.{putting_none, putting_more, putting_done}
use Rattle.planfile.proofs.groups.put_number.Goals as goal

pub loop-left-init : goal.loop-left-init
loop-left-init c = putting_none _ _ _ c.requires.1 c.requires.0

pub loop-left-preserved : goal.loop-left-preserved
loop-left-preserved c = putting_more _ _ _ _ _ _ c.loop-left.invariant c.loop-left-test.true

pub returns : goal.returns
returns c = putting_done _ _ _ _ _ _ c.loop-left.invariant c.loop-left-test.false
