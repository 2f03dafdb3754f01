-- What is said is put down; what was lent is as the call left it.
use Rattle.seamwhisk.specs.Numbers.{file_as}
use Rattle.seamwhisk.proofs.Arms.{put_down}
use Rattle.seamwhisk.proofs.seamwhisk_read_plan.Goals as goal

pub returns : goal.returns
returns c = put_down file_as c.read_plan.ensures.answer c.file.ensures
