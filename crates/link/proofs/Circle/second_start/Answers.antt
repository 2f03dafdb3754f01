-- The sum fits 64 bits, and the remainder is below the period.
use Prim.Native.Nat.{◌+◌}
use native.Mathlib.Omega.{arith}
use native.Mathlib.Nat.{mod-lt}
use Rattle.link.specs.Rows.{second}
use Rattle.link.proofs.Circle.second_start.Goals as goal

pub overflow_cast-result : goal.overflow_cast-result
overflow_cast-result c =
    rw (c.from.ensures, c.from-2.ensures, c.from-3.ensures) (omega (arith, mod-lt (c.args.offset + c.args.delay) c.requires))

pub returns : goal.returns
unfolding second
returns c = rw (c.from.ensures, c.from-2.ensures, c.from-3.ensures)
