-- Invariant: no offset before `from` makes room.
use mathlib.Core.Path.{◌≡◌}
use mathlib.Core.Bool.{false}
use Prim.Native.Nat.{ℕ, ◌-◌, ◌≤◌, ◌<◌}
use Rattle.link.specs.Starts.{firsts, seconds}
use Rattle.oneslot.proofs.MakingRoom.{room_at}
use Rattle.oneslot.proofs.Ring.make_room.Given as goal

abbrev pub invariant-loop-to : goal.invariant-loop-to
invariant-loop-to l =
    (l.from ≤ l.self.circle.period)
    × ((i : ℕ) → i < l.from
    → room_at l.self.circle.period l.self.circle.span l.moving l.delay (firsts l.starts) (seconds l.starts) i ≡ false)

abbrev pub decreases-loop-to : goal.decreases-loop-to
decreases-loop-to l = l.self.circle.period - l.from
