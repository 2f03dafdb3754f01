-- A fault of a planner's judging stands; where there is none, the number of rows decides.
use Rattle.std.specs.Prelude.{◌≡◌, Err}
use mathlib.Core.Path.{sym}
use borrow.Author.Rules.{rules}
use borrow.Author.Tests.{lt-ltb, le-ltb}
use Rattle.ground.proofs.Faults.{front_hit, front_pass, hit, pass, fine}
use Rattle.search.specs.Refusal.{exact_faults}
use Rattle.search.proofs.judge.Goals as goal

pub returns-in_err-planner : goal.returns-in_err-planner
unfolding exact_faults
returns-in_err-planner c =
    let e : c.from_residual.result ≡ Err c.in_err-planner.field-0.0 = search rules in
    rw e (front_hit _ _ _ _ (sym c.in_err-planner.ensures))

pub returns-then-delays-gt-MAX_EXACT_ROWS : goal.returns-then-delays-gt-MAX_EXACT_ROWS
unfolding exact_faults
returns-then-delays-gt-MAX_EXACT_ROWS c =
    front_pass _ _ _ (sym c.in_ok-planner.ensures) (hit _ _ _ _ (lt-ltb _ _ c.if-delays-gt-MAX_EXACT_ROWS.true))

pub returns : goal.returns
unfolding exact_faults
returns c = front_pass _ _ _ (sym c.in_ok-planner.ensures) (pass _ _ _ _ (le-ltb _ _ c.if-delays-gt-MAX_EXACT_ROWS.false) fine)
