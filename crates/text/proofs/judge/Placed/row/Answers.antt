-- What is no number is 4; a number is judged by its value.
use Rattle.text.proofs.LineForms.{row_form, row_value}
use Rattle.text.proofs.judge.Placed.row.Goals as goal

pub returns-in_default : goal.returns-in_default
returns-in_default c = rw (c.fault.ensures.0, c.fault.ensures.1) (row_form _ _ _ _ (c.in_default.ensures))

pub returns : goal.returns
returns c = row_value _ _ _ _ _ _ (c.in-Some.ensures) c.delay.ensures
