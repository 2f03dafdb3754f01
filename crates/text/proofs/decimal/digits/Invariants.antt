-- Invariant: the bytes before this one are digits, and `value` is theirs. It stays below ten million until the last digit.
use Rattle.text.specs.Steps.{Counted}
use Rattle.text.proofs.decimal.digits.Given as goal

abbrev pub invariant-loop-digits : goal.invariant-loop-digits
invariant-loop-digits l = Counted l.front l.digits l.value
