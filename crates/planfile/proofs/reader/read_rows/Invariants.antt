-- Invariant: the rows before j stand in the fronts of the two lists, and the rest of the file decides.
use lib.ListN.{length}
use Rattle.planfile.proofs.Steps.{Reading}
use Rattle.planfile.proofs.reader.read_rows.Given as goal

abbrev pub invariant-loop-j : goal.invariant-loop-j
invariant-loop-j l =
    Reading l.bytes l.period l.rows l.from (length l.initial.delays) (length l.initial.offsets) l.delays l.offsets l.at l.j
