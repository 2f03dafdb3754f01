use Rattle.std.specs.Prelude.{◌≡◌, None}
use native.Mathlib.Omega.{arith}
use borrow.Author.Rules.{rules}
use Rattle.oneslot.proofs.MakingRoom.{no_room, not_before, none_left, none_here, room_here, same_length, moved_behind}
use Rattle.oneslot.proofs.Ring.make_room.Goals as goal

pub returns-in_err-least : goal.returns-in_err-least
returns-in_err-least c =
    let e : c.from_residual.result ≡ None = search rules in
    rw e (no_room _ _ _ _ _ _ (same_length _) _ c.in_err-least.ensures)

pub returns-in-Some-beside : goal.returns-in-Some-beside
returns-in-Some-beside c =
    let offset = rw (moved_behind _ _ _ _ _ c.in-Some.to _ c.start-moved.ensures) at c.in-Some-beside.ensures.0 in
    room_here _ _ _ _ _ _ (same_length _) c.loop-to.from _ c.in-Some.ensures.0 c.loop-to.invariant.1 c.in-Some.ensures.1
    _ _ c.in_ok-least.ensures.0 offset _ c.in-Some-beside.ensures.1

pub loop-to-smaller : goal.loop-to-smaller
loop-to-smaller c =
    let on = not_before _ _ _ _ _ _ (same_length _) c.loop-to.from _ c.in-Some.ensures.0 c.loop-to.invariant.1 c.loop-to.invariant.0 in
    omega (arith, on, c.in-Some.ensures)

pub loop-to-preserved : goal.loop-to-preserved
loop-to-preserved c =
    let none = rw (moved_behind _ _ _ _ _ c.in-Some.to _ c.start-moved.ensures) at c.in_default-beside.ensures in (
      omega (arith, c.in-Some.ensures),
      none_here _ _ _ _ _ _ (same_length _) c.loop-to.from _ c.in-Some.ensures.0 c.loop-to.invariant.1
          c.in-Some.ensures.1 _ _ c.in_ok-least.ensures.0 none (omega arith),
    )

pub returns : goal.returns
returns c = none_left _ _ _ _ _ _ (same_length _) c.loop-to.from _ c.in_default.ensures c.loop-to.invariant.1 _ (omega arith)
