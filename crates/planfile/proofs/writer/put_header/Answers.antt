-- Three numbers, one after the other.
use native.Mathlib.Omega.{arith}
use Rattle.planfile.proofs.Numbers.{length_number, few_groups}
use Rattle.planfile.proofs.Writing.{header_put}
use Rattle.planfile.proofs.writer.put_header.Goals as goal

pub put_number-at_size-requires : goal.put_number-at_size-requires
put_number-at_size-requires c = (omega arith, few_groups _ (omega arith))

pub put_number-at_rows-requires : goal.put_number-at_rows-requires
put_number-at_rows-requires c =
    (omega (arith, c.put_number-at_size.ensures.end, length_number c.args.link.period), few_groups _ (omega arith))

pub put_number-requires : goal.put_number-requires
put_number-requires c = (
  omega (
    arith,
    c.put_number-at_size.ensures.end,
    length_number c.args.link.period,
    c.put_number-at_rows.ensures.end,
    length_number c.args.link.size,
  ),
  few_groups _ (omega arith),
)

pub returns : goal.returns
returns c =
    header_put _ _ _ _ _ _ _ _ _ _ c.requires.0 c.put_number-at_size.ensures
    c.put_number-at_rows.ensures c.put_number.ensures
