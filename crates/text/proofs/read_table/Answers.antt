-- 1, then the lines, then 10 and 11; and the table where none applies.
use Rattle.std.specs.Prelude.{◌≡◌, Err}
use borrow.Author.Rules.{rules}
use Rattle.text.specs.Answer.{said}
use Rattle.text.specs.TextAnswer.{text_said}
use Rattle.text.proofs.Answers.{long, broken, after, short, good}
use Rattle.text.proofs.read_table.Goals as goal

pub returns-then-text-gt-MAX_TEXT : goal.returns-then-text-gt-MAX_TEXT
unfolding said
returns-then-text-gt-MAX_TEXT c = long _ _ c.if-text-gt-MAX_TEXT.true

pub returns-in_err-link : goal.returns-in_err-link
unfolding said text_said
returns-in_err-link c =
    let e : c.from_residual.result ≡ Err c.in_err-link.field-0.0 = search rules in
    rw e (broken _ _ _ _ (c.in_err-link.ensures.said) _ c.if-text-gt-MAX_TEXT.false)

pub returns-then-end-text : goal.returns-then-end-text
unfolding said text_said
returns-then-end-text c = after _ _ _ _ _ (c.in_ok-link.ensures.said) _ c.if-text-gt-MAX_TEXT.false c.if-end-text.true

pub returns-then-delays-rows : goal.returns-then-delays-rows
unfolding said text_said
returns-then-delays-rows c =
    short _ _ _ _ _ (c.in_ok-link.ensures.said) _ c.if-text-gt-MAX_TEXT.false c.if-end-text.false c.if-delays-rows.true

pub returns : goal.returns
unfolding said text_said
returns c =
    good _ _ _ _ _ (c.in_ok-link.ensures.said) _ c.if-text-gt-MAX_TEXT.false c.if-end-text.false c.if-delays-rows.false _ c.copy_out.ensures
