-- Invariant: the rows so far have put their offsets in front, and the rest is as it was.
use mathlib.Core.Path.{◌≡◌}
use mathlib.Core.List.{◌++◌}
use lib.ListN.{length, take, drop}
use Rattle.link.specs.Starts.{firsts}
use Rattle.link.proofs.copy_offsets.Given as goal

abbrev pub invariant-loop-row : goal.invariant-loop-row
invariant-loop-row l =
    (length l.offsets ≡ length l.initial.offsets) × (l.offsets ≡ take l.row (firsts l.starts) ++ drop l.row l.initial.offsets)
