-- Invariant: `from` digits are still to be spelt, those of `rest`.
use Rattle.console.proofs.Spelling.{Spelling}
use Rattle.console.proofs.page.Page.decimal.Given as goal

abbrev pub invariant-loop-rest : goal.invariant-loop-rest
invariant-loop-rest l = Spelling l.n l.digits l.from l.rest

abbrev pub decreases-loop-rest : goal.decreases-loop-rest
decreases-loop-rest l = l.from
