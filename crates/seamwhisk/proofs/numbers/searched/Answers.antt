-- Each arm of the answer has its numbers put in `said`'s order.
use borrow.Author.Rules.{rules}
use Rattle.search.specs.Answer.{said}
use Rattle.seamwhisk.proofs.numbers.searched.Goals as goal

pub returns-in-Ok-Plan : goal.returns-in-Ok-Plan
unfolding said
returns-in-Ok-Plan c = search rules

pub returns-in-Ok-Nothing : goal.returns-in-Ok-Nothing
unfolding said
returns-in-Ok-Nothing c = search rules

pub returns-in-Ok-Spent : goal.returns-in-Ok-Spent
unfolding said
returns-in-Ok-Spent c = search rules

pub returns-in-Err : goal.returns-in-Err
unfolding said
returns-in-Err c = search rules
