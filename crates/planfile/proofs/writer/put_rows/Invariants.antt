-- Invariant: rows are written, and the bytes of those left make the whole.
use Rattle.planfile.proofs.Writing.{Writing}
use Rattle.planfile.proofs.writer.put_rows.Given as goal

abbrev pub invariant-loop-delay : goal.invariant-loop-delay
invariant-loop-delay l =
    Writing l.delays l.offsets l.initial.file l.from l.file l.at l.delay-iterator.a.rest.now l.delay-iterator.b.rest.now
