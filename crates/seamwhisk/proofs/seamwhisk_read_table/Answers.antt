-- What is said is put down; what was lent is as the call left it.
use Rattle.seamwhisk.specs.Numbers.{read_as}
use Rattle.seamwhisk.proofs.Arms.{put_down}
use Rattle.seamwhisk.proofs.seamwhisk_read_table.Goals as goal

pub returns : goal.returns
returns c = put_down read_as c.read_table.ensures c.read.ensures
