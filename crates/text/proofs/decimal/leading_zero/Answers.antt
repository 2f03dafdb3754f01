-- One byte has no zero before another.
use borrow.Author.Tests.{lt-ltb, le-ltb}
use Rattle.text.specs.Decimal.{leading_zero}
use Rattle.text.proofs.decimal.leading_zero.Goals as goal

pub returns-then-bytes-gt1 : goal.returns-then-bytes-gt1
unfolding leading_zero
returns-then-bytes-gt1 c = rw (lt-ltb _ _ c.if-bytes-gt1.true)

pub returns-else-bytes-gt1 : goal.returns-else-bytes-gt1
unfolding leading_zero
returns-else-bytes-gt1 c = rw (le-ltb _ _ c.if-bytes-gt1.false)
