-- A fault of the judging is the answer; else the planner goes by each offset of the period.
use Rattle.std.specs.Prelude.{◌≡◌, Err}
use mathlib.Core.Path.{sym}
use borrow.Author.Rules.{rules}
use Rattle.quick.specs.Answer.{said}
use Rattle.quick.proofs.Entries.{each_offset}
use Rattle.ground.proofs.Answers.{refused, goes_on}
use Rattle.oneslot.specs.Answer.{one_slot}
use Rattle.oneslot.proofs.Accepted.{good_one}
use Rattle.oneslot.proofs.one_slot.Goals as goal

pub invariant_of-ring : goal.invariant_of-ring
invariant_of-ring c =
    rw (c.circle.ensures.0, c.circle.ensures.1) record { ways = each_offset _ _ (good_one _ _ _ (sym c.in_ok-judge.ensures)).table }

pub plan-requires : goal.plan-requires
plan-requires c = let g = good_one _ _ _ (sym c.in_ok-judge.ensures) in (g.table.rows_high, g.enough)

pub returns-in_err-judge : goal.returns-in_err-judge
unfolding said one_slot
returns-in_err-judge c =
    let e : c.from_residual.result ≡ Err c.in_err-judge.field-0.0 = search rules in
    rw e (refused _ _ (sym c.in_err-judge.ensures))

pub returns : goal.returns
unfolding one_slot
returns c = goes_on _ (sym c.in_ok-judge.ensures) (rw (c.circle.ensures.0, c.circle.ensures.1) at c.plan.ensures)
