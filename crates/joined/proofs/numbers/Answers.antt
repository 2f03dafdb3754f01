-- Each arm of the answer has its numbers.
use Rattle.search.specs.Answer.{said}
use Rattle.joined.proofs.numbers.Goals as goal

pub returns-in-Ok-Plan : goal.returns-in-Ok-Plan
unfolding said
returns-in-Ok-Plan c = rw (c.in-Ok-Plan.is, rw c.in-Ok-Plan.is at c.in-Ok-Plan.field-0-is)

pub returns-in-Ok-Nothing : goal.returns-in-Ok-Nothing
unfolding said
returns-in-Ok-Nothing c =
    rw (c.in-Ok-Nothing.is, rw c.in-Ok-Nothing.is at c.in-Ok-Nothing.field-0-is, c.from.ensures, c.number.ensures)

pub returns-in-Ok-Spent : goal.returns-in-Ok-Spent
unfolding said
returns-in-Ok-Spent c =
    rw (c.in-Ok-Spent.is, rw c.in-Ok-Spent.is at c.in-Ok-Spent.field-0-is, c.from-in-Ok-Spent.ensures, c.number-in-Ok-Spent.ensures)

pub returns-in-Err : goal.returns-in-Err
unfolding said
returns-in-Err c = rw (c.in-Err.is, c.from-in-Err.ensures, c.number-in-Err.ensures)
