-- Each return says which lines of the list do not apply, and which does.
use mathlib.Core.Path.{sym, ◌∙◌}
use Rattle.link.specs.Refusal.{link_faults}
use Rattle.ground.proofs.Faults.{hit, pass, fine}
use Rattle.link.proofs.judge.link_values.Goals as goal

pub returns-then-is_outside : goal.returns-then-is_outside
unfolding link_faults
returns-then-is_outside c = hit _ _ _ _ (sym c.is_outside.ensures ∙ c.if-is_outside.true)

pub returns-then-is_outside-2 : goal.returns-then-is_outside-2
unfolding link_faults
returns-then-is_outside-2 c =
    pass _ _ _ _ (sym c.is_outside.ensures ∙ c.if-is_outside.false)
    (hit _ _ _ _ (sym c.is_outside-2.ensures ∙ c.if-is_outside-2.true))

pub returns : goal.returns
unfolding link_faults
returns c =
    pass _ _ _ _ (sym c.is_outside.ensures ∙ c.if-is_outside.false)
    (pass _ _ _ _ (sym c.is_outside-2.ensures ∙ c.if-is_outside-2.false) fine)
