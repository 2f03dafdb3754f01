-- The reader after a number stands where the number's step ends.
use mathlib.Core.Path.{refl, ◌∙◌}
use Rattle.planfile.proofs.Joining.{after_taken}
use Rattle.filereader.proofs.FileReader.read_number.Goals as goal

pub returns : goal.returns
returns g c = (c.take_number-taken.ensures.own, λ f. (c.take_number-taken.ensures.number f, refl, c.after.ensures ∙ after_taken f _ _))
