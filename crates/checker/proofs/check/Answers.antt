-- A fault of the judging is the answer; else the values are in range, and the walk names the collision.
use Rattle.std.specs.Prelude.{◌≡◌, Err}
use mathlib.Core.Path.{sym}
use borrow.Author.Rules.{rules}
use Rattle.link.proofs.Accepted.{good_plan, in_range}
use Rattle.checker.specs.Answer.{said, answer}
use Rattle.checker.proofs.check.Goals as goal

pub returns-in_err-plan : goal.returns-in_err-plan
unfolding said answer
returns-in_err-plan c =
    let e : c.from_residual.result ≡ Err c.in_err-plan.field-0.0 = search rules in
    rw (e, sym c.in_err-plan.ensures)

pub first_collision-requires : goal.first_collision-requires
first_collision-requires c =
    rw (c.circle.ensures.0, c.circle.ensures.1) (in_range _ _ _ (good_plan _ _ _ (sym c.in_ok-plan.ensures)))

pub returns : goal.returns
unfolding said answer
returns c =
    rw (sym c.in_ok-plan.ensures) (rw (c.circle.ensures.0, c.circle.ensures.1) at c.first_collision.ensures)
