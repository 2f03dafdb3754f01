-- Each return says which lines of the list do not apply, and which does.
use mathlib.Core.Path.{sym, ap}
use mathlib.Core.Bool.{not}
use mathlib.Core.List.{[]}
use lib.Dec.{leb}
use borrow.Author.Tests.{eq-eqb, ne_eqb}
use Rattle.link.specs.Refusal.{offset_faults}
use Rattle.ground.proofs.Faults.{hit, pass, hit_found, pass_found, fine}
use Rattle.link.proofs.judge.offsets.Goals as goal

pub returns-then-offsets-delays : goal.returns-then-offsets-delays
unfolding offset_faults
returns-then-offsets-delays c = hit _ _ _ _ (ap not (ne_eqb _ _ c.if-offsets-delays.true))

pub returns-in-Some : goal.returns-in-Some
unfolding offset_faults
returns-in-Some c =
    pass _ _ _ _ (ap not (eq-eqb _ _ c.if-offsets-delays.false))
    (hit_found [] (λ x. leb c.args.link.period x) c.args.offsets.now _ _ (sym c.in-Some.ensures))

pub returns : goal.returns
unfolding offset_faults
returns c =
    pass _ _ _ _ (ap not (eq-eqb _ _ c.if-offsets-delays.false))
    (pass_found _ (λ x. leb c.args.link.period x) c.args.offsets.now _ (sym c.in_default.ensures) fine)
