-- Line one is cut, or is wrong; or line two decides.
use Rattle.std.specs.Prelude.{◌≡◌, Err}
use mathlib.Core.Path.{sym, ◌∙◌}
use borrow.Author.Rules.{rules}
use Rattle.text.proofs.Lined.{line_cut, next_low, title_judged}
use Rattle.text.proofs.Walk.{head_wrong, head_second}
use Rattle.text.proofs.first_lines.Goals as goal

pub returns-in_err-line : goal.returns-in_err-line
returns-in_err-line c =
    let e : c.from_residual.result ≡ Err c.in_err-line.field-0.0 = search rules in
    rw e (head_wrong _ _ _ (line_cut _ 0 _ (c.in_err-line.ensures.cut) 0))

pub second-requires : goal.second-requires
second-requires c = next_low _ 0 _ _ _ (c.in_ok-line.ensures.whole)

pub returns-in_err-title : goal.returns-in_err-title
returns-in_err-title c =
    let e : c.from_residual-in_err-title.result ≡ Err c.in_err-title.field-0.0 = search rules in
    rw e (head_wrong _ _ _ (title_judged _ _ _ _ (c.in_ok-line.ensures.whole) ∙ sym c.in_err-title.ensures))

pub returns : goal.returns
returns c =
    head_second _ _ _ (title_judged _ _ _ _ (c.in_ok-line.ensures.whole) ∙ sym c.in_ok-title.ensures)
    (c.in_ok-line.ensures.whole.behind) c.second.ensures
