-- The part before the first space, then the part behind it.
use mathlib.Core.Path.{sym}
use Rattle.text.proofs.LineForms.{no_numbers, first_not, second_not, both}
use Rattle.text.proofs.Finding.{seek_some, seek_none}
use Rattle.text.proofs.judge.two_numbers.Goals as goal

pub returns-in_err-k : goal.returns-in_err-k
returns-in_err-k c = rw c.from_residual.ensures (no_numbers _ (seek_none _ _ (sym (c.in_err-k.ensures))))

pub returns-in_err-period : goal.returns-in_err-period
returns-in_err-period c =
    let at = seek_some _ _ _ (sym (c.in_ok-k.ensures)) in
    rw c.from_residual-in_err-period.ensures (first_not _ _ (sym at.0) (c.in_err-period.ensures))

pub returns-in_err-size : goal.returns-in_err-size
returns-in_err-size c =
    let at = seek_some _ _ _ (sym (c.in_ok-k.ensures)) in
    rw c.from_residual-in_err-size.ensures (second_not _ _ (sym at.0) (c.in_err-size.ensures))

pub returns : goal.returns
returns c =
    let at = seek_some _ _ _ (sym (c.in_ok-k.ensures)) in
    both _ _ (sym at.0) _ _ (c.in_ok-period.ensures) (c.in_ok-size.ensures)
