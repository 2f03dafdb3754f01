-- `refused`, the number, and the place behind a space.
use mathlib.Core.Path.{◌∙◌}
use native.Mathlib.Omega.{arith}
use Rattle.console.specs.Printed.{refused_line}
use Rattle.console.proofs.Putting.{as_long, behind, number_end}
use Rattle.console.proofs.refused.Goals as goal

pub word-requires-2 : goal.word-requires-2
word-requires-2 c =
    omega (arith, c.requires, c.word.ensures.adds.end, as_long c.word.ensures, number_end _ c.decimal.ensures, as_long c.decimal.ensures)

pub line-requires : goal.line-requires
line-requires c =
    omega (
      arith,
      c.requires,
      c.word.ensures.adds.end,
      as_long c.word.ensures,
      number_end _ c.decimal.ensures,
      as_long c.decimal.ensures,
      c.word-2.ensures.adds.end,
      as_long c.word-2.ensures,
    )

pub returns : goal.returns
unfolding refused_line
returns c =
    let number = rw (c.from.ensures ∙ c.number.ensures) at c.decimal.ensures in
    behind (behind (behind c.word.ensures number) c.word-2.ensures) c.line.ensures
