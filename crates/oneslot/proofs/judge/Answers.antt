-- A fault that every planner judges stands; where there is none, the size decides.
use Rattle.std.specs.Prelude.{◌≡◌, Err}
use mathlib.Core.Path.{sym, ap}
use mathlib.Core.Bool.{not}
use borrow.Author.Rules.{rules}
use borrow.Author.Tests.{eq-eqb, ne_eqb}
use Rattle.oneslot.specs.Answer.{size_faults}
use Rattle.ground.proofs.Faults.{front_hit, front_pass, hit, pass, fine}
use Rattle.oneslot.proofs.judge.Goals as goal

pub returns-in_err-planner : goal.returns-in_err-planner
returns-in_err-planner c =
    let e : c.from_residual.result ≡ Err c.in_err-planner.field-0.0 = search rules in
    rw e (front_hit _ _ _ _ (sym c.in_err-planner.ensures))

pub returns-then-link-ne1 : goal.returns-then-link-ne1
unfolding size_faults
returns-then-link-ne1 c = front_pass _ _ _ (sym c.in_ok-planner.ensures) (hit _ _ _ _ (ap not (ne_eqb _ _ c.if-link-ne1.true)))

pub returns : goal.returns
unfolding size_faults
returns c = front_pass _ _ _ (sym c.in_ok-planner.ensures) (pass _ _ _ _ (ap not (eq-eqb _ _ c.if-link-ne1.false)) fine)
