-- A fault of the first judge stands; where it finds none, the second decides.
use Rattle.std.specs.Prelude.{◌≡◌, Err}
use mathlib.Core.Path.{sym}
use borrow.Author.Rules.{rules}
use borrow.Author.Tests.{lt-ltb, le-ltb}
use Rattle.link.specs.Refusal.{room_faults}
use Rattle.ground.proofs.Faults.{front_hit, front_pass, hit, pass, fine}
use Rattle.link.proofs.judge.planner.Goals as goal

pub returns-in_err-table : goal.returns-in_err-table
returns-in_err-table c =
    let e : c.from_residual.result ≡ Err c.in_err-table.field-0.0 = search rules in
    rw e (front_hit _ _ _ _ (sym c.in_err-table.ensures))

pub returns-then-room-delays : goal.returns-then-room-delays
unfolding room_faults
returns-then-room-delays c = front_pass _ _ _ (sym c.in_ok-table.ensures) (hit _ _ _ _ (lt-ltb _ _ c.if-room-delays.true))

pub returns : goal.returns
unfolding room_faults
returns c = front_pass _ _ _ (sym c.in_ok-table.ensures) (pass _ _ _ _ (le-ltb _ _ c.if-room-delays.false) fine)
