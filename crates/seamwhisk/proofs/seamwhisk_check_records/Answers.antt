-- What is said is put down.
use mathlib.Core.Path.{ap, ◌∙◌}
use Rattle.seamwhisk.specs.Numbers.{checked_as}
use Rattle.seamwhisk.proofs.seamwhisk_check_records.Goals as goal

pub returns : goal.returns
returns c = c.checked.ensures ∙ ap checked_as c.check_records.ensures
