-- Invariant: the rows before this one meet nobody, and `starts` has their starts.
use Rattle.link.specs.Starts.{firsts, seconds}
use Rattle.checker.proofs.Naming.{Walked}
use Rattle.checker.proofs.first_collision.Given as goal

abbrev pub invariant-loop-later : goal.invariant-loop-later
invariant-loop-later l = Walked l.circle.period l.circle.span l.delays l.offsets (firsts l.starts) (seconds l.starts) l.later
