-- The digits, and the line's end behind them.
use native.Mathlib.Omega.{arith}
use Rattle.console.proofs.Putting.{as_long, behind, number_end}
use Rattle.console.proofs.page.Page.line.Goals as goal

pub word-requires : goal.word-requires
word-requires c = omega (arith, c.requires, number_end _ c.decimal.ensures, as_long c.decimal.ensures)

pub returns : goal.returns
returns c = behind c.decimal.ensures c.word.ensures
