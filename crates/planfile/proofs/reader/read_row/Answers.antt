-- Two numbers, one after the other; a refusal is passed on.
use mathlib.Core.Path.{◌≡◌, sym}
use borrow.Author.Rules.{rules}
use Rattle.std.specs.Prelude.{Err}
use Rattle.planfile.specs.FileMeaning.{row}
use Rattle.planfile.specs.Answer.{taken, rowed}
use Rattle.planfile.proofs.reader.read_row.Goals as goal

pub returns-in_err-delay : goal.returns-in_err-delay
unfolding taken rowed row
returns-in_err-delay c =
    let e : c.from_residual.result ≡ Err c.in_err-delay.field-0.0 = search rules in
    rw (e, sym c.in_err-delay.ensures)

pub returns-in_err-offset : goal.returns-in_err-offset
unfolding taken rowed row
returns-in_err-offset c =
    let e : c.from_residual-in_err-offset.result ≡ Err c.in_err-offset.field-0.0 = search rules in
    rw (e, sym c.in_ok-delay.ensures, sym c.in_err-offset.ensures)

pub returns : goal.returns
unfolding taken rowed row
returns c = rw (sym c.in_ok-delay.ensures, sym c.in_ok-offset.ensures)
