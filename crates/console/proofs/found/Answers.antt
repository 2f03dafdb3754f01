-- `found`, the tests, and the offsets, one behind the other.
use mathlib.Core.Path.{◌≡◌}
use mathlib.Core.List.{append-nil}
use native.Mathlib.Omega.{arith}
use lib.ListN.{length}
use lib.Seq.{take-length}
use Rattle.console.specs.Printed.{found_lines, offset_lines}
use Rattle.console.proofs.Lines.{one_more}
use Rattle.console.proofs.Putting.{behind, line_end}
use Rattle.console.proofs.found.Goals as goal

pub loop-offset-init : goal.loop-offset-init
unfolding offset_lines
loop-offset-init c = (
  omega (arith, c.word.ensures.adds.end, line_end _ c.line.ensures),
  rw append-nil (behind c.word.ensures c.line.ensures),
)

pub loop-offset-preserved : goal.loop-offset-preserved
loop-offset-preserved c =
    let line = rw c.from.ensures at c.line-in-loop-offset.ensures in (
      omega (arith, c.loop-offset.invariant.0, line_end _ c.line-in-loop-offset.ensures),
      rw (one_more _ c.args.offsets.now c.loop-offset.offset-index c.loop-offset-test.true) at (behind c.loop-offset.invariant.1 line),
    )

pub returns : goal.returns
unfolding found_lines
returns c =
    let all : c.loop-offset.offset-index ≡ length c.args.offsets.now = omega arith in
    rw (all, take-length) at c.loop-offset.invariant.1
