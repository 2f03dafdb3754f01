-- Each arm of the answer has its numbers put in `said`'s order.
use borrow.Author.Rules.{rules}
use Rattle.checker.specs.Answer.{said, found}
use Rattle.seamwhisk.proofs.numbers.checked.Goals as goal

pub returns-in-Ok-None : goal.returns-in-Ok-None
unfolding said found
returns-in-Ok-None c = search rules

pub returns-in-Ok-Some : goal.returns-in-Ok-Some
unfolding said found
returns-in-Ok-Some c = search rules

pub returns-in-Err : goal.returns-in-Err
unfolding said found
returns-in-Err c = search rules
