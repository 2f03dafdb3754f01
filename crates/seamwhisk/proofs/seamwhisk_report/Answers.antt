-- What is said is put down.
use mathlib.Core.Path.{ap, ◌∙◌}
use Rattle.seamwhisk.specs.Numbers.{reported_as}
use Rattle.seamwhisk.proofs.seamwhisk_report.Goals as goal

pub returns : goal.returns
returns c = c.reported.ensures ∙ ap reported_as c.report.ensures
