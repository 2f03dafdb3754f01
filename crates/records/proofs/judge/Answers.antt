-- Each return is one line of the judging: those before it do not apply.
use Rattle.std.specs.Prelude.{◌≡◌, Err}
use mathlib.Core.Path.{sym}
use mathlib.Core.Logic.{⊎_elim}
use native.Mathlib.Omega.{arith}
use borrow.Author.Rules.{rules}
use Rattle.ground.proofs.Faults.{below, above}
use Rattle.records.proofs.Judging.{link_refused, number_refused, delay_refused, offset_refused, accepted}
use Rattle.records.proofs.judge.Goals as goal

pub returns-in_err-link_values : goal.returns-in_err-link_values
returns-in_err-link_values c =
    let e : c.from_residual.result ≡ Err c.in_err-link_values.field-0.0 = search rules in
    rw e (link_refused _ _ _ _ c.in_err-link_values.ensures)

pub returns-then-n-eq0 : goal.returns-then-n-eq0
returns-then-n-eq0 c =
    number_refused _ _ c.in_ok-link_values.ensures
    (⊎_elim (λ e. below _ _ _ (omega arith)) (λ w. above _ _ _ w.1) c.then-n-eq0.either)

pub returns-in-Some : goal.returns-in-Some
returns-in-Some c = delay_refused _ _ c.in_ok-link_values.ensures (omega arith) c.if-n-gt-MAX_ROWS.false _ (sym c.in-Some.ensures)

pub returns-in-Some-beyond : goal.returns-in-Some-beyond
returns-in-Some-beyond c =
    offset_refused _ _ c.in_ok-link_values.ensures (omega arith) c.if-n-gt-MAX_ROWS.false (sym c.in_default.ensures) _
    (sym c.in-Some-beyond.ensures)

pub returns : goal.returns
returns c =
    accepted _ _ c.in_ok-link_values.ensures (omega arith) c.if-n-gt-MAX_ROWS.false (sym c.in_default.ensures)
    (sym c.in_default-beyond.ensures)
