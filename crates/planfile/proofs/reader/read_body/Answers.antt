-- The rows, then the closing; what one of them refuses is the answer.
use mathlib.Core.Path.{◌≡◌, refl, sym}
use borrow.Author.Rules.{rules}
use Rattle.std.specs.Prelude.{Ok, Err}
use Rattle.planfile.specs.Answer.{read_said, rowsed}
use Rattle.planfile.proofs.Joining.{bad_rows, all_rows}
use Rattle.planfile.proofs.reader.read_body.Goals as goal

pub returns-in_err-end : goal.returns-in_err-end
unfolding read_said rowsed
returns-in_err-end c =
    let e : c.from_residual.result ≡ Err c.in_err-end.field-0.0 = search rules in
    rw (e, bad_rows _ _ (Ok c.args.head) _ _ _ refl _ _ (sym c.in_err-end.ensures))

pub returns : goal.returns
unfolding rowsed
returns c = rw (all_rows _ _ (Ok c.args.head) _ _ _ refl _ _ _ (sym c.in_ok-end.ensures)) c.close.ensures
