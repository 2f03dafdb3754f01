-- What is said is put down; what was lent is as the call left it.
use Rattle.seamwhisk.specs.Numbers.{written_as}
use Rattle.seamwhisk.proofs.Arms.{put_down}
use Rattle.seamwhisk.proofs.seamwhisk_write_plan.Goals as goal

pub returns : goal.returns
returns c = put_down written_as c.write_plan.ensures c.written.ensures
