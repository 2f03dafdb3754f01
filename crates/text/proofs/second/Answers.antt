-- The line is cut, or its own faults decide.
use Rattle.std.specs.Prelude.{◌≡◌, Err}
use borrow.Author.Rules.{rules}
use Rattle.text.proofs.Lined.{second_cut, second_answer}
use Rattle.text.proofs.second.Goals as goal

pub returns-in_err-line_at : goal.returns-in_err-line_at
returns-in_err-line_at c =
    let e : c.from_residual.result ≡ Err c.in_err-line_at.field-0.0 = search rules in
    rw e (second_cut _ _ _ (c.in_err-line_at.ensures.cut))

pub returns : goal.returns
returns c = second_answer _ _ _ _ _ (c.in_ok-line_at.ensures.whole) _ c.pair.ensures
