-- A row that is not placed blocks nothing; else the first crossing, then the second, decides.
use borrow.Author.Tests.{lt-ltb, le-ltb}
use Rattle.search.specs.Search.{blocked}
use Rattle.search.proofs.meets.Goals as goal

pub returns-else-placed-circle : goal.returns-else-placed-circle
unfolding blocked
returns-else-placed-circle c = rw (le-ltb _ _ c.if-placed-circle.false)

pub returns-then-not-apart : goal.returns-then-not-apart
unfolding blocked
returns-then-not-apart c = rw (lt-ltb _ _ c.if-placed-circle.true, ← c.apart.ensures, c.if-not-apart.true)

pub returns-else-not-apart : goal.returns-else-not-apart
unfolding blocked
returns-else-not-apart c =
    rw (lt-ltb _ _ c.if-placed-circle.true, ← c.apart.ensures, ← c.apart-else-not-apart.ensures, c.if-not-apart.false)
