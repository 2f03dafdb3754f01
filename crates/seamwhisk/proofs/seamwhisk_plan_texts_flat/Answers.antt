-- What is said is put down; what was lent is as the call left it.
use Rattle.seamwhisk.specs.Numbers.{run_as}
use Rattle.seamwhisk.proofs.Arms.{put_down}
use Rattle.seamwhisk.proofs.seamwhisk_plan_texts_flat.Goals as goal

pub returns : goal.returns
returns c = put_down run_as c.plan_texts.ensures c.run.ensures
