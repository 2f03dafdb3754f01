-- `none`, and the tests behind it.
use Rattle.console.specs.Printed.{none_line}
use Rattle.console.proofs.Putting.{behind}
use Rattle.console.proofs.none.Goals as goal

pub returns : goal.returns
unfolding none_line
returns c = behind c.word.ensures c.line.ensures
