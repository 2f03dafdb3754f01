-- Row by row, from the rests of the two lists.
use mathlib.Core.Logic.{⊎_elim, inl, inr}
use mathlib.Core.List.{◌∷◌}
use native.Mathlib.Omega.{arith}
use Rattle.planfile.proofs.Numbers.{length_number}
use Rattle.planfile.proofs.Writing.{Writing, writing_none, writing_more, writing_done}
use Rattle.planfile.proofs.writer.put_rows.Goals.{In-Some}
use Rattle.planfile.proofs.writer.put_rows.Goals as goal

pub loop-delay-init : goal.loop-delay-init
loop-delay-init c =
    let zip = c.zip-delay-items.ensures in
    rw (c.into_iter-delay-iterator.ensures.into_iter_gives, zip.first, zip.second.0, c.iter.ensures.rest)
    (writing_none _ _ _ _ c.requires.rows_fit)

-- the row that is next, and room for its two numbers
left : (c : In-Some) → Writing c.args.delays.now c.args.offsets.now c.args.file.now c.args.from c.loop-delay.file c.loop-delay.at
    (c.in-Some.delay.now ∷ c.next.new.self.a.rest.now) (c.in-Some.offset.now ∷ c.next.new.self.b.rest.now)
left c = rw (c.in-Some.ensures.steps.0, c.in-Some.ensures.steps.1) at c.loop-delay.invariant

pub put_number-at_offset-requires : goal.put_number-at_offset-requires
put_number-at_offset-requires c =
    let w = left (goal.at.put_number-at_offset-requires c).In-Some in
    (omega (arith, w.low, w.room), w.fit.delays 0 (omega arith))

pub put_number-at-requires : goal.put_number-at-requires
put_number-at-requires c =
    let w = left (goal.at.put_number-at-requires c).In-Some in
    (omega (arith, w.low, w.room, c.put_number-at_offset.ensures.end, length_number c.in-Some.delay.now), w.fit.offsets 0 (omega arith))

pub loop-delay-preserved : goal.loop-delay-preserved
loop-delay-preserved c =
    let w = left (goal.at.loop-delay-preserved c).In-Some in
    writing_more _ _ _ _ _ _ _ _ _ _ w _ _ _ _ (omega (arith, w.low, w.room)) c.put_number-at_offset.ensures c.put_number-at.ensures

pub returns : goal.returns
returns c = writing_done _ _ _ _ _ _ _ _ c.loop-delay.invariant (⊎_elim (λ w. inl w.1.0) (λ w. inr w.1.0) c.in-None.ensures.steps)
