-- `end ` stands in front.
use Rattle.text.specs.Faults.{is_last}
use Rattle.text.proofs.judge.Placed.is_last.Goals as goal

pub returns : goal.returns
unfolding is_last
returns c = c.begins.ensures
