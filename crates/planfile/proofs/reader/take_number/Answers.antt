-- The form is judged first, then the range.
use mathlib.Core.Path.{◌≡◌, sym}
use mathlib.Core.Logic.{⊎_elim}
use native.Mathlib.Omega.{arith}
use borrow.Author.Rules.{rules}
use Rattle.std.specs.Prelude.{Err}
use Rattle.planfile.specs.Number.{number_said}
use Rattle.planfile.specs.Answer.{taken_as}
use Rattle.planfile.specs.declared.BadNumber.TheVariants.{Malformed}
use Rattle.planfile.proofs.Steps.{number_form, number_low, number_high, number_in, number_ends}
use Rattle.planfile.proofs.reader.take_number.Goals as goal

pub returns-in_err-number-clause-number : goal.returns-in_err-number-clause-number
unfolding number_said taken_as
returns-in_err-number-clause-number g c f =
    let e : c.from_residual.result ≡ Err (Malformed c.in_err-number.field-0.0) = search rules in
    rw e (number_form _ _ _ _ _ _ c.in_err-number.ensures)

pub returns-then-number-low-clause-number : goal.returns-then-number-low-clause-number
unfolding number_said taken_as
returns-then-number-low-clause-number g c f =
    ⊎_elim (λ h. number_low _ _ _ _ _ _ _ (sym c.in_ok-number.ensures) h) (λ w. number_high _ _ _ _ _ _ _ (sym c.in_ok-number.ensures) w.1)
    c.then-number-low.either

pub overflow_add-result : goal.overflow_add-result
unfolding number_said
overflow_add-result g c =
    let n = number_ends c.args.bytes.now c.args.at _ _ (sym c.in_ok-number.ensures) in
    omega (arith, n)

pub returns-clause-number : goal.returns-clause-number
unfolding number_said taken_as
returns-clause-number g c f = number_in _ _ _ _ _ _ _ (sym c.in_ok-number.ensures) c.if-number-low.false c.if-number-high.false
