use native.Mathlib.Omega.{arith}
use Prim.Native.Nat.{◌*◌, ◌/◌, ◌%◌}
use Rattle.link.specs.Limits.{max_rows}
use Rattle.search.proofs.Boards.{first_on}
use Rattle.search.proofs.Numbers.{is_step_lem, skip_row, skip_rest, skip_pair}
use Rattle.search.proofs.Rows.next_step.Goals as goal

pub loop-k-preserved-then-board-row : goal.loop-k-preserved-then-board-row
loop-k-preserved-then-board-row c =
    let row = first_on c.args.board.now (c.loop-k.k / (2 * max_rows)) in
    (omega arith, omega arith, skip_row _ _ _ _ c.loop-k.k c.loop-k.invariant.2 (omega arith))

pub loop-k-preserved-then-self-beside : goal.loop-k-preserved-then-self-beside
loop-k-preserved-then-self-beside c = (omega arith, omega arith, skip_rest _ _ _ _ c.loop-k.k c.loop-k.invariant.2 c.if-self-beside.true)

pub returns-then-board-beside : goal.returns-then-board-beside
returns-then-board-beside c =
    let row = first_on c.args.board.now (c.loop-k.k / (2 * max_rows)) in
    let beside = first_on c.args.board.now (c.loop-k.k / 2 % max_rows) in
    record {
      low = omega arith;
      high = omega arith;
      skipped = c.loop-k.invariant.2;
      lands = λ q. is_step_lem _ _ _ c.loop-k.k (omega arith) c.if-self-beside.false (omega arith) (omega arith);
    }

pub loop-k-preserved : goal.loop-k-preserved
loop-k-preserved c =
    let beside = first_on c.args.board.now (c.loop-k.k / 2 % max_rows) in
    (omega arith, omega arith, skip_pair _ _ _ _ c.loop-k.k c.loop-k.invariant.2 (omega arith))
