-- Invariant: the bytes held are at most the buffer.
use Rattle.std.proofs.Common.{◌≤◌, length}
use Rattle.replay.proofs.main.Given as goal

abbrev pub invariant-loop : goal.invariant-loop
invariant-loop l = l.held ≤ length l.space
