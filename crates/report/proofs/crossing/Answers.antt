use native.Mathlib.Omega.{arith}
use Rattle.report.proofs.Passing.{setting_out, fits, over_none, over_run, arrived}
use Rattle.report.proofs.crossing.Goals as goal
use Rattle.report.proofs.crossing.Goals.{then-run-gt0, else-run-gt0}

pub loop-start-init : goal.loop-start-init
loop-start-init c = setting_out _ _ _

pub overflow_sub-free : goal.overflow_sub-free
overflow_sub-free c =
    let room = (fits c.requires c.loop-start.invariant (omega arith)).0 in
    omega (arith, c.requires.size_low)

pub overflow_add-stretches : goal.overflow_add-stretches
overflow_add-stretches c =
    let few = (fits c.requires c.loop-start.invariant (omega arith)).1 in
    omega arith

pub loop-start-preserved : goal.loop-start-preserved
loop-start-preserved c =
    elim c.if-run-gt0.branch [
      | then-run-gt0 w ↦
          rw (w.stretches-is, w.widest-is, w.max-widest.ensures)
          (over_run c.requires c.loop-start.invariant (omega arith) c.turn-end.ensures.0 c.next_start-run.ensures w.if-run-gt0.true)
      | else-run-gt0 w ↦
          rw (w.stretches-is, w.widest-is)
          (over_none c.requires c.loop-start.invariant (omega arith) c.turn-end.ensures.0 c.next_start-run.ensures
          (omega (arith, w.if-run-gt0.false)))
    ]

pub returns : goal.returns
returns c = arrived c.requires c.loop-start.invariant (omega arith)
