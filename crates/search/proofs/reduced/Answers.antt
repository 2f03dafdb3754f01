use Rattle.search.proofs.Reducing.{reduced_none}
use Rattle.search.proofs.reduced.Goals as goal

pub loop-row-init : goal.loop-row-init
loop-row-init c = reduced_none _ _
