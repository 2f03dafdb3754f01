use mathlib.Core.Path.{◌≡◌}
use native.Mathlib.Omega.{arith}
use lib.ListN.{length}
use Rattle.link.proofs.Columns.{firsts_length, seconds_length, firsts_take}
use Rattle.quick.specs.Answer.{said, outcome}
use Rattle.quick.proofs.Keeping.{row_blocked, row_onward}
use Rattle.quick.proofs.Placing.{none_yet}
use Rattle.quick.proofs.plan.Goals as goal

pub loop-j-init : goal.loop-j-init
loop-j-init c = none_yet _ _ _ _ _ _ _ (firsts_length _) (seconds_length _)

pub returns-in_default : goal.returns-in_default
unfolding said outcome
returns-in_default c =
    let stuck = row_blocked _ _ _ _ _ c.requires.ways c.loop-j.j (omega arith) c.loop-j.starts c.loop-j.invariant _ c.in_default.ensures in
    rw (stuck (omega arith) (length c.args.delays.now) (omega arith))

pub loop-j-preserved : goal.loop-j-preserved
loop-j-preserved c =
    row_onward _ _ _ _ _ c.requires.ways c.loop-j.j (omega arith) c.loop-j.starts c.loop-j.invariant _ c.in-Some.ensures.0
    c.in-Some.ensures.1 c.start.result c.start.ensures

pub returns : goal.returns
unfolding said outcome
returns c =
    let all : c.loop-j.j ≡ length c.args.delays.now = omega arith in
    rw (c.copy_offsets.ensures, ← all, c.loop-j.invariant.done, firsts_take)
