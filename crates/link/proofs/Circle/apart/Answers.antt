-- One comparison, where two spans fit the period.
use mathlib.Core.Path.{sym, ◌∙◌}
use native.Mathlib.Omega.{arith}
use borrow.Author.Tests.{leb-true}
use Rattle.ground.proofs.Bools.{is_false}
use Rattle.link.proofs.OnCircle.{apart_wrapped, none_apart}
use Rattle.link.proofs.Circle.apart.Goals as goal

pub returns-then-l-p : goal.returns-then-l-p
returns-then-l-p c =
    rw c.from-l.ensures
    (apart_wrapped c.args.self.period _ c.args.a c.args.b c.from-d.result _ _ (omega arith) (omega arith)
    (c.from-d.ensures ∙ c.distance.ensures) (omega arith) (omega arith))

pub returns-else-l-p : goal.returns-else-l-p
returns-else-l-p c = is_false _ (λ e. let h = leb-true _ _ e in omega arith) ∙ sym (none_apart _ _ c.args.a c.args.b (omega arith))
