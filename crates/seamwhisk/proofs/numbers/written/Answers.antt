-- Each arm of the answer has its numbers put in `said`'s order.
use borrow.Author.Rules.{rules}
use Rattle.planfile.specs.Answer.{written_said}
use Rattle.seamwhisk.proofs.numbers.written.Goals as goal

pub returns-in-Ok : goal.returns-in-Ok
unfolding written_said
returns-in-Ok c = search rules

pub returns-in-Err : goal.returns-in-Err
unfolding written_said
returns-in-Err c = search rules
