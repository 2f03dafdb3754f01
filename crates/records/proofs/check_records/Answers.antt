-- A fault of the judging is the answer; else the values are in range, and the walk names the collision.
use Rattle.std.specs.Prelude.{◌≡◌, Err}
use mathlib.Core.Path.{sym}
use borrow.Author.Rules.{rules}
use Rattle.link.proofs.Accepted.{good_plan, in_range}
use Rattle.checker.specs.Answer.{said, answer}
use Rattle.records.proofs.check_records.Goals as goal

pub returns-in_err-judge : goal.returns-in_err-judge
unfolding said answer
returns-in_err-judge c =
    let e : c.from_residual.result ≡ Err c.in_err-judge.field-0.0 = search rules in
    rw (e, sym c.in_err-judge.ensures)

pub first_collision-requires : goal.first_collision-requires
first_collision-requires c =
    rw (c.circle.ensures.0, c.circle.ensures.1) (in_range _ _ _ (good_plan _ _ _ (sym c.in_ok-judge.ensures)))

pub returns : goal.returns
unfolding said answer
returns c =
    rw (sym c.in_ok-judge.ensures) (rw (c.circle.ensures.0, c.circle.ensures.1) at c.first_collision.ensures)
