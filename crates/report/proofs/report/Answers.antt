-- A fault of the judging is the answer; else the plan is clear, and both crossings are reported.
use mathlib.Core.Path.{sym}
use Rattle.std.specs.Prelude.{◌≡◌, Err}
use borrow.Author.Rules.{rules}
use Rattle.ground.proofs.Answers.{refused, goes_on}
use Rattle.link.proofs.Accepted.{in_range}
use Rattle.checker.proofs.Judging.{fine_clear}
use Rattle.report.specs.Answer.{said, answer}
use Rattle.report.proofs.report.Goals as goal

pub returns-in_err-judge_clear : goal.returns-in_err-judge_clear
unfolding said answer
returns-in_err-judge_clear c =
    let e : c.from_residual.result ≡ Err c.in_err-judge_clear.field-0.0 = search rules in
    rw e (refused _ _ (sym c.in_err-judge_clear.ensures))

pub both-requires : goal.both-requires
both-requires c =
    let good = fine_clear _ _ _ (sym c.in_ok-judge_clear.ensures) in
    rw (c.circle.ensures.0, c.circle.ensures.1) (good.0.table.span_low, in_range _ _ _ good.0, good.1)

pub returns : goal.returns
unfolding said answer
returns c = goes_on _ (sym c.in_ok-judge_clear.ensures) (rw (c.circle.ensures.0, c.circle.ensures.1) at c.both.ensures)
