-- Each arm of the answer has its numbers put in `said`'s order.
use borrow.Author.Rules.{rules}
use Rattle.text.specs.Answer.{said}
use Rattle.seamwhisk.proofs.numbers.read.Goals as goal

pub returns-in-Ok : goal.returns-in-Ok
unfolding said
returns-in-Ok c = search rules

pub returns-in-Err : goal.returns-in-Err
unfolding said
returns-in-Err c = search rules
