-- The length, then a leading zero, then each byte.
use mathlib.Core.Path.{sym, ◌∙◌}
use native.Mathlib.Omega.{arith}
use lib.ListN.{length}
use borrow.Author.Tests.{eqb-true, eqb-false}
use Rattle.ground.proofs.Faults.{below, above, inside}
use Rattle.text.specs.Decimal.{max_digits, is_decimal}
use Rattle.text.specs.Steps.{number_says}
use Rattle.text.proofs.Decimals.{not_all, all_digits_lem}
use Rattle.text.proofs.decimal.read.Goals as goal
use Rattle.text.proofs.decimal.read.Goals.{then-is_empty-via-then-is_empty, then-is_empty-via-else-is_empty+then-bytes-gt-MAX_DIGITS}
use Rattle.text.proofs.decimal.read.Goals.{then-is_empty-via-else-is_empty+else-bytes-gt-MAX_DIGITS+then-leading_zero}

pub returns-then-is_empty : goal.returns-then-is_empty
unfolding number_says is_decimal
returns-then-is_empty c = elim c.then-is_empty.branch [
  | then-is_empty-via-then-is_empty w ↦
      let none = eqb-true _ _ (sym c.is_empty.ensures ∙ w.if-is_empty.true) in
      rw (below 1 max_digits (length c.args.bytes.now) (omega (arith, none)))
  | then-is_empty-via-else-is_empty+then-bytes-gt-MAX_DIGITS w ↦ rw (above 1 max_digits _ w.if-bytes-gt-MAX_DIGITS.true)
  | then-is_empty-via-else-is_empty+else-bytes-gt-MAX_DIGITS+then-leading_zero w ↦
      let some = eqb-false _ _ (sym c.is_empty.ensures ∙ w.if-is_empty.false) in
      let n = inside 1 max_digits (length c.args.bytes.now) (omega (arith, some)) (omega (arith, w.if-bytes-gt-MAX_DIGITS.false)) in
      rw (n, sym w.leading_zero.ensures ∙ w.if-leading_zero.true)
]

pub returns-then-front-bytes : goal.returns-then-front-bytes
unfolding number_says is_decimal
returns-then-front-bytes c =
    let some = eqb-false _ _ (sym c.is_empty.ensures ∙ c.if-is_empty.false) in
    let n = inside 1 max_digits (length c.args.bytes.now) (omega (arith, some)) (omega arith) in
    let some_other = not_all _ _ _ c.digits-front.ensures c.if-front-bytes.true (omega arith) in
    rw (n, sym c.leading_zero.ensures ∙ c.if-leading_zero.false, some_other)

pub returns : goal.returns
unfolding number_says is_decimal
returns c =
    let some = eqb-false _ _ (sym c.is_empty.ensures ∙ c.if-is_empty.false) in
    let n = inside 1 max_digits (length c.args.bytes.now) (omega (arith, some)) (omega arith) in
    let all = all_digits_lem _ _ _ c.digits-front.ensures c.if-front-bytes.false in
    rw (n, sym c.leading_zero.ensures ∙ c.if-leading_zero.false, all.0, all.1)
