-- Each case of the answer by itself.
use borrow.Author.Rules.{rules}
use Rattle.planfile.specs.Answer.{place_after}
use Rattle.planfile.proofs.reader.after.Goals as goal

pub returns : goal.returns
unfolding place_after
returns g c = search rules
