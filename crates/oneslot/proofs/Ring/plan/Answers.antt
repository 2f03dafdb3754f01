use mathlib.Core.Path.{◌≡◌, refl}
use native.Mathlib.Omega.{arith}
use lib.ListN.{length}
use Rattle.link.proofs.Columns.{firsts_length, seconds_length, firsts_take}
use Rattle.quick.specs.Answer.{said, outcome}
use Rattle.oneslot.proofs.Coming.{row_low, comes_free, stays_out, comes_moving}
use Rattle.oneslot.proofs.Settling.{none_yet}
use Rattle.oneslot.proofs.Ring.plan.Goals as goal

pub loop-j-init : goal.loop-j-init
loop-j-init c = none_yet _ _ _ _ _ (firsts_length _) (seconds_length _)

pub loop-j-preserved-in-Some : goal.loop-j-preserved-in-Some
loop-j-preserved-in-Some c =
    comes_free _ _ _ c.args.self.ways c.loop-j.j (omega arith) c.loop-j-test.true c.loop-j.starts c.loop-j.invariant _ c.in-Some.ensures.0
    c.in-Some.ensures.1 c.start.result c.start.ensures

pub returns-in_default-find_move : goal.returns-in_default-find_move
unfolding said outcome
returns-in_default-find_move c =
    let out = stays_out _ _ _ c.args.self.ways c.loop-j.j (omega arith) c.loop-j-test.true c.loop-j.starts c.loop-j.invariant _
    c.in_default.ensures (omega arith) _ c.in_default-find_move.ensures refl in
    rw (out (length c.args.delays.now) c.loop-j-test.true)

pub offset_bounds-delays-found : goal.offset_bounds-delays-found
offset_bounds-delays-found c = omega (arith, row_low _ _ c.loop-j.j c.loop-j.starts (omega arith) c.in-Some-find_move.ensures)

pub bounds-delays-found : goal.bounds-delays-found
bounds-delays-found c = omega (arith, row_low _ _ c.loop-j.j c.loop-j.starts (omega arith) c.in-Some-find_move.ensures)

pub offset_bounds-starts-found : goal.offset_bounds-starts-found
offset_bounds-starts-found c = omega (arith, row_low _ _ c.loop-j.j c.loop-j.starts (omega arith) c.in-Some-find_move.ensures)

pub bounds-starts-found : goal.bounds-starts-found
bounds-starts-found c = omega (arith, row_low _ _ c.loop-j.j c.loop-j.starts (omega arith) c.in-Some-find_move.ensures)

pub loop-j-preserved : goal.loop-j-preserved
loop-j-preserved c =
    comes_moving _ _ _ c.args.self.ways c.loop-j.j (omega arith) c.loop-j-test.true c.loop-j.starts c.loop-j.invariant _
    c.in_default.ensures (omega arith) _ c.in-Some-find_move.ensures _ _ _ refl c.start-in-loop-j.result c.start-in-loop-j-2.result
    c.start-in-loop-j.ensures c.start-in-loop-j-2.ensures

pub returns : goal.returns
unfolding said outcome
returns c =
    let all : c.loop-j.j ≡ length c.args.delays.now = omega arith in
    rw (c.copy_offsets.ensures, ← all, c.loop-j.invariant.done, firsts_take)
