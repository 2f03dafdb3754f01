-- What is said is put down; what was lent is as the call left it.
use Rattle.seamwhisk.specs.Numbers.{planned_as}
use Rattle.seamwhisk.proofs.Arms.{put_down}
use Rattle.seamwhisk.proofs.seamwhisk_one_slot.Goals as goal

pub returns : goal.returns
returns c = put_down planned_as c.one_slot.ensures c.planned.ensures
