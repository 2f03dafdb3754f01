-- What is said is put down; what was lent is as the call left it.
use Rattle.seamwhisk.specs.Numbers.{searched_as}
use Rattle.seamwhisk.proofs.Arms.{put_down}
use Rattle.seamwhisk.proofs.seamwhisk_exact.Goals as goal

pub returns : goal.returns
returns c = put_down searched_as c.exact.ensures c.searched.ensures
