-- Invariant: the rows before this one meet nobody, and `starts` has their starts.
use Rattle.link.specs.Starts.{firsts, seconds}
use Rattle.checker.proofs.Naming.{Walked}
use Rattle.records.specs.Columns.{delays_of, offsets_of}
use Rattle.records.proofs.first_collision.Given as goal

abbrev pub invariant-loop-later : goal.invariant-loop-later
invariant-loop-later l =
    Walked l.circle.period l.circle.span (delays_of l.records) (offsets_of l.records) (firsts l.starts) (seconds l.starts) l.later
