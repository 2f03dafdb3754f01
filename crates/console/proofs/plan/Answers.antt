-- In each arm the planner's answer is shown as `planned` says: what it said, with the ceiling as budget.
use Rattle.std.specs.Prelude.{Ok}
use mathlib.Core.Path.{ap, ◌∙◌}
use Prim.Native.Nat.{◌≤◌}
use native.Mathlib.Omega.{arith}
use lib.ListN.{length}
use lib.Seq.{length-take-le}
use Rattle.search.specs.Answer.{said}
use Rattle.console.proofs.Showing.{planned_as, plan_few}
use Rattle.console.proofs.plan.Goals as goal

pub found-requires : goal.found-requires
found-requires c =
    let few = plan_few _ _ _ _ _ c.exact.ensures _ (c.in-Ok-Plan.is ∙ ap Ok c.in-Ok-Plan.field-0-is) in
    let room : length c.args.delays.now ≤ length c.exact.new.offsets = omega (arith, c.exact.auto.offsets) in
    (rw (length-take-le _ _ room) few, omega arith)

pub returns-in-Ok-Plan : goal.returns-in-Ok-Plan
unfolding said
returns-in-Ok-Plan c =
    let shows = planned_as _ _ _ _ _ c.exact.ensures _ (c.in-Ok-Plan.is ∙ ap Ok c.in-Ok-Plan.field-0-is) c.ceiling.ensures in
    rw shows at c.found.ensures

pub returns-in-Ok-Nothing : goal.returns-in-Ok-Nothing
unfolding said
returns-in-Ok-Nothing c =
    let shows = planned_as _ _ _ _ _ c.exact.ensures _ (c.in-Ok-Nothing.is ∙ ap Ok c.in-Ok-Nothing.field-0-is) c.ceiling.ensures in
    rw shows at c.none.ensures

pub returns-in-Ok-Spent : goal.returns-in-Ok-Spent
unfolding said
returns-in-Ok-Spent c =
    let shows = planned_as _ _ _ _ _ c.exact.ensures _ (c.in-Ok-Spent.is ∙ ap Ok c.in-Ok-Spent.field-0-is) c.ceiling.ensures in
    rw shows at c.refused.ensures

pub returns-in-Err : goal.returns-in-Err
unfolding said
returns-in-Err c =
    let shows = planned_as _ _ _ _ _ c.exact.ensures _ c.in-Err.is c.ceiling.ensures in
    rw shows at c.refused-in-Err.ensures
