-- Three numbers, one after the other; a refusal is passed on.
use mathlib.Core.Path.{◌≡◌, sym}
use borrow.Author.Rules.{rules}
use Rattle.std.specs.Prelude.{Err}
use Rattle.planfile.specs.FileMeaning.{header}
use Rattle.planfile.specs.Answer.{taken, headed}
use Rattle.planfile.proofs.reader.read_numbers.Goals as goal

pub returns-in_err-period : goal.returns-in_err-period
unfolding taken headed header
returns-in_err-period c =
    let e : c.from_residual.result ≡ Err c.in_err-period.field-0.0 = search rules in
    rw (e, sym c.in_err-period.ensures)

pub returns-in_err-size : goal.returns-in_err-size
unfolding taken headed header
returns-in_err-size c =
    let e : c.from_residual-in_err-size.result ≡ Err c.in_err-size.field-0.0 = search rules in
    rw (e, sym c.in_ok-period.ensures, sym c.in_err-size.ensures)

pub returns-in_err-rows : goal.returns-in_err-rows
unfolding taken headed header
returns-in_err-rows c =
    let e : c.from_residual-in_err-rows.result ≡ Err c.in_err-rows.field-0.0 = search rules in
    rw (e, sym c.in_ok-period.ensures, sym c.in_ok-size.ensures, sym c.in_err-rows.ensures)

pub returns : goal.returns
unfolding taken headed header
returns c = rw (sym c.in_ok-period.ensures, sym c.in_ok-size.ensures, sym c.in_ok-rows.ensures)
