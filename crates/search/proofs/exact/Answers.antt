-- A fault of the judging stands; where there is none, the plan's answer does.
use Rattle.std.specs.Prelude.{◌≡◌, Err}
use mathlib.Core.Path.{sym}
use borrow.Author.Rules.{rules}
use Rattle.ground.specs.Protocol.{keeping}
use Rattle.ground.proofs.Answers.{refused, goes_on}
use Rattle.search.specs.Answer.{said, refusing, exactly}
use Rattle.search.proofs.Accepted.{good_exact}
use Rattle.search.proofs.exact.Goals as goal

pub plan-requires : goal.plan-requires
plan-requires c =
    let g = good_exact _ _ _ (sym c.in_ok-judge.ensures) in
    (g.table, g.room)

pub returns-in_err-judge : goal.returns-in_err-judge
unfolding said exactly
returns-in_err-judge c =
    let e : c.from_residual.result ≡ Err c.in_err-judge.field-0.0 = search rules in
    rw e (refused (keeping refusing _) _ (sym c.in_err-judge.ensures))

pub returns : goal.returns
unfolding said exactly
returns c = goes_on (keeping refusing _) (sym c.in_ok-judge.ensures) c.plan.ensures
