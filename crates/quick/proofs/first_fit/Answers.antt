-- A fault of the judging is the answer; else the planner goes by each offset of the period.
use Rattle.std.specs.Prelude.{◌≡◌, Err}
use mathlib.Core.Path.{sym}
use borrow.Author.Rules.{rules}
use Rattle.link.proofs.Accepted.{good_room}
use Rattle.quick.specs.Answer.{said, quick}
use Rattle.quick.proofs.Entries.{each_offset}
use Rattle.ground.proofs.Answers.{refused, goes_on}
use Rattle.quick.proofs.first_fit.Goals as goal

pub plan-requires : goal.plan-requires
plan-requires c =
    let g = good_room _ _ _ (sym c.in_ok-planner.ensures) in
    rw (c.circle.ensures.0, c.circle.ensures.1) (record { delays_len_bound = (g.0.rows_high, g.1); ways = each_offset _ _ g.0 })

pub returns-in_err-planner : goal.returns-in_err-planner
unfolding said quick
returns-in_err-planner c =
    let e : c.from_residual.result ≡ Err c.in_err-planner.field-0.0 = search rules in
    rw e (refused _ _ (sym c.in_err-planner.ensures))

pub returns : goal.returns
unfolding quick
returns c = goes_on _ (sym c.in_ok-planner.ensures) (rw (c.circle.ensures.0, c.circle.ensures.1) at c.plan.ensures)
