-- The first two lines are refused, or the rows are read.
use Rattle.std.specs.Prelude.{◌≡◌, Err}
use borrow.Author.Rules.{rules}
use Rattle.text.specs.TextAnswer.{text_said}
use Rattle.text.proofs.Walk.{head_broken}
use Rattle.text.proofs.read_lines.Goals as goal

pub returns-in_err-head-clause-said : goal.returns-in_err-head-clause-said
unfolding text_said
returns-in_err-head-clause-said c =
    let e : c.from_residual.result ≡ Err c.in_err-head.field-0.0 = search rules in
    rw e (head_broken _ _ _ _ (c.in_err-head.ensures))
