use Rattle.std.specs.Prelude.{◌≡◌, Err}
use borrow.Author.Rules.{rules}
use Rattle.text.specs.TextAnswer.{text_said}
use Rattle.text.proofs.Walk.{link_there, start, broken, row_few, next, whole}
use Rattle.text.proofs.read_rows.Goals as goal

pub loop-next-init : goal.loop-next-init
loop-next-init c = start _ _ _ c.requires _ c.told-kept

pub returns-in_err-next-clause-said : goal.returns-in_err-next-clause-said
unfolding text_said
returns-in_err-next-clause-said c =
    let e : c.from_residual.result ≡ Err c.in_err-next.field-0.0 = search rules in
    rw e (broken _ _ _ _ c.loop-next.invariant _ _ (c.in_err-next.ensures))

pub returns-in-Last-clause-said : goal.returns-in-Last-clause-said
unfolding text_said
returns-in-Last-clause-said c =
    whole _ _ _ _ c.loop-next.invariant _ _ (link_there _ _ _ c.requires)
    (rw c.in-Last.is at (c.in_ok-next.ensures))

pub bounds-kept-rows : goal.bounds-kept-rows
bounds-kept-rows c = row_few _ _ _ _ c.loop-next.invariant _ _ (rw c.in-More.is at (c.in_ok-next.ensures))

pub loop-next-preserved : goal.loop-next-preserved
loop-next-preserved c = next _ _ _ _ c.loop-next.invariant _ _ (rw c.in-More.is at (c.in_ok-next.ensures))
