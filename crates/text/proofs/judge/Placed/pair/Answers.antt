-- The form, then the values as `link` judges them, at this place.
use Rattle.text.proofs.LineForms.{pair_wrong, values_wrong, pair_right}
use Rattle.text.proofs.judge.Placed.pair.Goals as goal

pub returns-in_default : goal.returns-in_default
returns-in_default c = rw (c.fault.ensures.0, c.fault.ensures.1) (pair_wrong _ _ _ (c.in_default.ensures))

pub returns-in-Err : goal.returns-in-Err
returns-in-Err c =
    rw (c.fault-in-Err.ensures.0, c.fault-in-Err.ensures.1) (values_wrong _ _ _ _ (c.in-Some.ensures) _ _ (c.in-Err.ensures))

pub returns-in-Ok : goal.returns-in-Ok
returns-in-Ok c = pair_right _ _ _ _ (c.in-Some.ensures) (c.in-Ok.ensures)
