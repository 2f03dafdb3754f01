use native.Mathlib.Omega.{arith}
use lib.ListN.{get_or, take}
use lib.Seq.{length-take-le}
use Rattle.text.proofs.Decimals.{none_counted, told_other, digit, counted_low, counted_more, in_front}
use Rattle.text.proofs.decimal.digits.Goals as goal

pub loop-digits-init : goal.loop-digits-init
loop-digits-init c = none_counted _

pub returns-then-not-is_ascii_digit : goal.returns-then-not-is_ascii_digit
returns-then-not-is_ascii_digit c =
    in_front _ c.min.result _ _ (omega arith) (omega arith) (λ l. omega arith) c.loop-digits.invariant
    (λ l. told_other _ c.is_ascii_digit.ensures.value c.if-not-is_ascii_digit.true)

pub overflow_mul-value : goal.overflow_mul-value
overflow_mul-value c =
    let few = length-take-le c.min.result c.args.bytes.now (omega arith) in
    omega (arith, counted_low _ _ _ c.loop-digits.invariant (omega (arith, few)))

pub overflow_add-value : goal.overflow_add-value
overflow_add-value c =
    let few = length-take-le c.min.result c.args.bytes.now (omega arith) in
    let front = take c.min.result c.args.bytes.now in
    let byte = digit (get_or front c.loop-digits.digits 0) (told_other _ c.is_ascii_digit.ensures.value c.if-not-is_ascii_digit.false) in
    omega (arith, byte, counted_low _ _ _ c.loop-digits.invariant (omega (arith, few)))

pub loop-digits-preserved : goal.loop-digits-preserved
loop-digits-preserved c =
    rw c.from.ensures
    (counted_more _ _ _ c.loop-digits.invariant c.loop-digits-test.true
    (told_other _ c.is_ascii_digit.ensures.value c.if-not-is_ascii_digit.false))
