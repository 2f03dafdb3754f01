-- The walk is the checker's own (`Naming`), on the delays and the offsets of the records.
use mathlib.Core.Path.{sym, ap}
use native.Mathlib.Omega.{arith}
use lib.Seq.{length-take-le}
use Rattle.checker.specs.Answer.{found}
use Rattle.link.specs.Starts.{met}
use Rattle.link.proofs.Columns.{firsts_length, seconds_length, firsts_take, seconds_take, firsts_set, seconds_set}
use Rattle.checker.proofs.Naming.{none_yet, stops, goes_on, named_clear}
use Rattle.records.proofs.Columns.{delays_length, few, start_told}
use Rattle.records.proofs.first_collision.Goals as goal

pub loop-later-init : goal.loop-later-init
loop-later-init c = none_yet _ _ _ _ _ _ (firsts_length _) (seconds_length _)

pub slice_bounds-starts-end : goal.slice_bounds-starts-end
slice_bounds-starts-end c = omega (arith, few _ _ _ c.requires)

pub slice_bounds-first_met-end : goal.slice_bounds-first_met-end
slice_bounds-first_met-end c = sym (length-take-le _ _ (omega (arith, few _ _ _ c.requires)))

pub bounds-starts-later : goal.bounds-starts-later
bounds-starts-later c = omega (arith, few _ _ _ c.requires)

pub returns-in-Some : goal.returns-in-Some
unfolding found
returns-in-Some c =
    let at = start_told _ _ _ _ _ c.loop-later-test.true c.start-start.ensures in
    let near = rw (firsts_take, seconds_take) at c.first_met.ensures in
    stops _ _ _ _ _ _ _ _ _ _ c.requires c.loop-later.invariant (omega (arith, delays_length c.args.records.now)) at.0 at.1 near _ _
    (ap met c.in-Some.is)

pub loop-later-preserved : goal.loop-later-preserved
loop-later-preserved c =
    let at = start_told _ _ _ _ _ c.loop-later-test.true c.start-start.ensures in
    let near = rw (firsts_take, seconds_take) at c.first_met.ensures in
    rw (firsts_set, seconds_set)
    (goes_on _ _ _ _ _ _ _ _ _ _ c.requires c.loop-later.invariant (omega (arith, delays_length c.args.records.now)) at.0 at.1 near
    (ap met c.in_default.is))

pub returns : goal.returns
unfolding found
returns c = named_clear _ _ _ _ (λ m h. c.loop-later.invariant.none m (omega (arith, delays_length c.args.records.now)))
