use mathlib.Core.Path.{sym, ◌∙◌}
use native.Mathlib.Omega.{arith}
use Rattle.ground.proofs.Hunting.{from_at, between}
use Rattle.link.proofs.Meeting.{second_low}
use Rattle.quick.proofs.Candidates.{next_low, next_is, next_second, opens, some_met}
use Rattle.quick.proofs.first_free.Goals as goal

pub returns-then-is_none : goal.returns-then-is_none
returns-then-is_none c =
    let inv = c.loop-c.invariant in
    let opened = opens _ _ _ _ _ _ _ _ _ _ inv.0 inv.1 c.first_met.ensures ∙ some_met _ c.if-is_none.ensures in
    (sym (from_at _ _ _ _ (omega arith) (omega arith) inv.2 (λ _. opened)), c.loop-c-test.true)

pub turn-requires : goal.turn-requires
turn-requires c = (
  rw c.loop-c.invariant.1 (second_low _ _ _ c.requires.ways.some_period),
  omega (arith, next_low c.loop-c.c c.args.count c.args.step c.loop-c-test.true, c.requires.ways.low),
)

pub loop-c-preserved : goal.loop-c-preserved
loop-c-preserved c =
    let inv = c.loop-c.invariant in
    let shut = opens _ _ _ _ _ _ _ _ _ _ inv.0 inv.1 c.first_met.ensures ∙ some_met _ c.if-is_none.ensures in
    (next_is _ _ _ inv.0, c.turn.ensures.0 ∙ next_second _ _ _ _ _ inv.1, between _ _ _ inv.2 shut)

pub returns : goal.returns
returns c = sym (from_at _ _ _ _ (omega arith) (omega arith) (λ i h k. c.loop-c.invariant.2 i h (omega arith)) (λ k. absurd (omega arith)))
