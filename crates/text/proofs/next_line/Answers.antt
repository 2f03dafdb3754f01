-- A number and its byte 10 are a row; any other line is looked at as a whole.
use Rattle.text.proofs.Numbers.{number_answer}
use Rattle.text.proofs.next_line.Goals as goal

pub returns-then-is_number : goal.returns-then-is_number
returns-then-is_number c =
    number_answer _ _ _ _ c.digits-front.ensures (c.is_number.ensures c.if-is_number.true) _ _
    c.delay.ensures
