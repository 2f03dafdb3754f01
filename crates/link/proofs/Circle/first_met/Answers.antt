use mathlib.Core.Path.{ap, ◌∙◌}
use mathlib.Core.Bool.{not}
use native.Mathlib.Omega.{arith}
use borrow.Author.Count.{below_more, below_none}
use Rattle.link.specs.Rows.{first_near}
use Rattle.link.proofs.Columns.{firsts_length, near_first, near_second}
use Rattle.link.proofs.Meeting.{nobody, neither, hit_one, hit_two}
use Rattle.link.proofs.Circle.first_met.Goals as goal

pub loop-row-init : goal.loop-row-init
loop-row-init c = below_none _

pub returns-then-not-apart : goal.returns-then-not-apart
unfolding first_near
returns-then-not-apart c =
    let one = near_first _ _ _ _ _ _ _ _ c.loop-row-test.true c.apart.ensures ∙ ap not c.if-not-apart.true in
    hit_one _ _ _ (omega (arith, firsts_length c.args.starts.now)) c.loop-row.invariant one

pub returns-then-not-apart-2 : goal.returns-then-not-apart-2
unfolding first_near
returns-then-not-apart-2 c =
    let one = near_first _ _ _ _ _ _ _ _ c.loop-row-test.true c.apart.ensures ∙ ap not c.if-not-apart.false in
    let two = near_second _ _ _ _ _ _ _ _ c.loop-row-test.true c.apart-in-loop-row.ensures ∙ ap not c.if-not-apart-2.true in
    hit_two _ _ _ (omega (arith, firsts_length c.args.starts.now)) c.loop-row.invariant one two

pub loop-row-preserved : goal.loop-row-preserved
loop-row-preserved c =
    let one = near_first _ _ _ _ _ _ _ _ c.loop-row-test.true c.apart.ensures ∙ ap not c.if-not-apart.false in
    let two = near_second _ _ _ _ _ _ _ _ c.loop-row-test.true c.apart-in-loop-row.ensures ∙ ap not c.if-not-apart-2.false in
    below_more _ _ c.loop-row.invariant (neither _ _ one two)

pub returns : goal.returns
unfolding first_near
returns c = nobody _ _ (λ k l. c.loop-row.invariant k (omega (arith, firsts_length c.args.starts.now)))
