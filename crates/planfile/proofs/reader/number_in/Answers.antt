-- What the number's reader says, with the place where it says it.
use borrow.Author.Rules.{rules}
use Rattle.ground.specs.Refusals.{number_of}
use Rattle.planfile.specs.Answer.{taken, taken_as}
use Rattle.planfile.proofs.reader.number_in.Goals as goal

pub returns : goal.returns
unfolding taken taken_as
returns c = let w = c.take_number.ensures.number number_of in search rules
