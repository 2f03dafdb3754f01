-- One way for each of the checker's answers, which says what is judged.
use Rattle.std.specs.Prelude.{◌≡◌, Err}
use borrow.Author.Rules.{rules}
use Rattle.checker.proofs.Judging.{as_judged}
use Rattle.checker.proofs.judge_clear.Goals as goal

pub returns-in_err-check : goal.returns-in_err-check
returns-in_err-check c =
    let e : c.from_residual.result ≡ Err c.in_err-check.field-0.0 = search rules in
    rw e (as_judged _ _ _ _ c.in_err-check.ensures)

pub returns-in-None : goal.returns-in-None
returns-in-None c = as_judged _ _ _ _ (rw c.in-None.is at c.in_ok-check.ensures)

pub returns-in-Some : goal.returns-in-Some
returns-in-Some c = as_judged _ _ _ _ (rw c.in-Some.is at c.in_ok-check.ensures)
