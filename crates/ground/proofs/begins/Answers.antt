use mathlib.Core.Path.{◌∙◌}
use Rattle.ground.proofs.Beginning.{starts}
use Rattle.ground.proofs.begins.Goals as goal

pub returns : goal.returns
returns c = c.starts_with.ensures.value ∙ starts _ _
