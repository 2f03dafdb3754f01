-- A refusal of the reader is shown; a table is planned.
use mathlib.Core.Path.{sym}
use native.Mathlib.Omega.{arith}
use lib.Seq.{length-take-le}
use Rattle.text.specs.Answer.{said}
use Rattle.console.proofs.Showing.{printed_as_lem, rows_few}
use Rattle.console.proofs.run.Goals as goal
use Rattle.console.proofs.run.Goals.{in-Ok, in-Err}

pub slice_bounds-delays-end : goal.slice_bounds-delays-end
slice_bounds-delays-end c = omega (arith, rows_few _ _ _ c.read_table.ensures _ c.in-Ok.is, c.read_table.auto.delays)

pub slice_bounds-plan-end : goal.slice_bounds-plan-end
slice_bounds-plan-end c =
    let few = rows_few _ _ _ c.read_table.ensures _ c.in-Ok.is in
    sym (length-take-le _ _ (omega (arith, few, c.read_table.auto.delays)))

pub returns : goal.returns
unfolding said
returns c =
    elim c.match-read_table.branch [
      | in-Ok w ↦
          let few = rows_few _ _ _ c.read_table.ensures _ w.in-Ok.is in
          let all = length-take-le w.in-Ok.table.rows c.read_table.new.delays (omega (arith, few, c.read_table.auto.delays)) in
          let shows = printed_as_lem _ _ _ c.read_table.ensures _ w.in-Ok.is in
          rw w.page-is (rw shows at (rw all at w.plan.ensures)).adds
      | in-Err w ↦
          let shows = printed_as_lem _ _ _ c.read_table.ensures _ w.in-Err.is in
          rw w.page-is (rw shows at w.refused.ensures).adds
    ]
