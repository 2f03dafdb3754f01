use mathlib.Core.Path.{sym, ap, ◌∙◌}
use mathlib.Core.Bool.{not}
use native.Mathlib.Omega.{arith}
use borrow.Author.Count.{below_more}
use lib.Seq.{length-take-le}
use Rattle.ground.proofs.Minimum.{some_at, some_none}
use Rattle.search.specs.Search.{unblocked}
use Rattle.search.proofs.Boards.{in_front, met_on}
use Rattle.search.proofs.Rows.is_free.Goals as goal

pub returns-then-meets : goal.returns-then-meets
unfolding unblocked
returns-then-meets c =
    let met = sym (c.meets.ensures ∙ met_on _ _ (omega arith) _ c.loop-placed-test.true _ _ _ _) ∙ c.if-meets.true in
    ap not (sym (some_at _ _ _ (in_front c.args.self.now.count c.args.board.now (omega arith) _ c.loop-placed-test.true) met))

pub loop-placed-preserved : goal.loop-placed-preserved
loop-placed-preserved c =
    below_more _ _ c.loop-placed.invariant
    (sym (c.meets.ensures ∙ met_on _ _ (omega arith) _ c.loop-placed-test.true _ _ _ _) ∙ c.if-meets.false)

pub returns : goal.returns
unfolding unblocked
returns c =
    ap not (sym (some_none _ _ (λ k l. c.loop-placed.invariant k
    (omega (arith, length-take-le c.args.self.now.count c.args.board.now)))))
