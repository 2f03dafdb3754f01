-- The lines are refused, and the list is kept; or their table is copied out.
use Rattle.std.specs.Prelude.{◌≡◌, Err}
use borrow.Author.Rules.{rules}
use Rattle.text.specs.TextAnswer.{text_said}
use Rattle.text.proofs.Answers.{text_broken, text_whole}
use Rattle.text.proofs.read_text.Goals as goal

pub returns-in_err-whole : goal.returns-in_err-whole
unfolding text_said
returns-in_err-whole c =
    let e : c.from_residual.result ≡ Err c.in_err-whole.field-0.0 = search rules in
    rw e (text_broken _ _ _ _ (c.in_err-whole.ensures.said) _)

pub returns : goal.returns
unfolding text_said
returns c = text_whole _ _ _ _ _ (c.in_ok-whole.ensures.said) _ _ c.copy_out.ensures
