-- The bytes behind `end ` are the number; each return says which faults do not apply, and which does.
use Rattle.text.proofs.LineForms.{last_long, last_form, last_alone, last_other, last_right}
use Rattle.text.proofs.judge.Placed.last.Goals as goal

pub slice_bounds-read-count : goal.slice_bounds-read-count
slice_bounds-read-count c = last_long _ c.requires

pub slice_bounds-read-start : goal.slice_bounds-read-start
slice_bounds-read-start c = last_long _ c.requires

pub returns-in_default : goal.returns-in_default
returns-in_default c = rw (c.fault.ensures.0, c.fault.ensures.1) (last_form _ _ _ _ (c.in_default.ensures))

pub returns-then-rows-eq0 : goal.returns-then-rows-eq0
returns-then-rows-eq0 c =
    let f = c.fault-then-rows-eq0.ensures in
    rw (f.0, f.1) (last_alone _ _ _ _ _ (c.in-Some.ensures) c.if-rows-eq0.true)

pub returns-then-count-rows : goal.returns-then-count-rows
returns-then-count-rows c =
    let f = c.fault-then-count-rows.ensures in
    rw (f.0, f.1) (last_other _ _ _ _ _ (c.in-Some.ensures) c.if-rows-eq0.false c.if-count-rows.true)

pub returns : goal.returns
returns c = last_right _ _ _ _ _ (c.in-Some.ensures) c.if-rows-eq0.false c.if-count-rows.false
