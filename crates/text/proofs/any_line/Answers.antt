-- The line is cut; or it is the last one; or it is a row.
use mathlib.Core.Path.{sym, ◌∙◌}
use Rattle.std.specs.Prelude.{◌≡◌, Err}
use borrow.Author.Rules.{rules}
use Rattle.text.proofs.Lined.{next_cut, last_answer, row_answer}
use Rattle.text.proofs.any_line.Goals as goal

pub returns-in_err-line : goal.returns-in_err-line
returns-in_err-line c =
    let e : c.from_residual.result ≡ Err c.in_err-line.field-0.0 = search rules in
    rw e (next_cut _ _ _ (c.in_err-line.ensures.cut) _)

pub returns-then-is_last : goal.returns-then-is_last
returns-then-is_last c =
    last_answer _ _ _ _ _ (c.in_ok-line.ensures.whole) _ _ (sym c.is_last.ensures ∙ c.if-is_last.true) c.last.ensures

pub returns : goal.returns
returns c = row_answer _ _ _ _ _ (c.in_ok-line.ensures.whole) _ _ (sym c.is_last.ensures ∙ c.if-is_last.false) c.row.ensures
