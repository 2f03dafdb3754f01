-- Invariant: the bytes so far are at most the room.
use Rattle.std.proofs.Common.{◌≤◌, length}
use Rattle.replay.proofs.cases.Case.parts.Given as goal

abbrev pub invariant-loop : goal.invariant-loop
invariant-loop l = l.count ≤ length l.room
