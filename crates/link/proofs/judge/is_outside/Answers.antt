-- The two comparisons of `outside`, one after the other.
use borrow.Author.Tests.{lt-ltb, le-ltb}
use Rattle.ground.specs.Judging.{outside}
use Rattle.link.proofs.judge.is_outside.Goals as goal

pub returns-then-x-lo : goal.returns-then-x-lo
unfolding outside
returns-then-x-lo c = simp (lt-ltb _ _ c.if-x-lo.true)

pub returns-else-x-lo : goal.returns-else-x-lo
unfolding outside
returns-else-x-lo c = simp (le-ltb _ _ c.if-x-lo.false)
