-- A fault of the first judge stands; where it finds none, the second decides.
use Rattle.std.specs.Prelude.{◌≡◌, Err}
use mathlib.Core.Path.{sym}
use borrow.Author.Rules.{rules}
use Rattle.ground.proofs.Faults.{front_hit, front_pass}
use Rattle.link.proofs.judge.plan.Goals as goal

pub returns-in_err-table : goal.returns-in_err-table
returns-in_err-table c =
    let e : c.from_residual.result ≡ Err c.in_err-table.field-0.0 = search rules in
    rw e (front_hit _ _ _ _ (sym c.in_err-table.ensures))

pub returns : goal.returns
returns c = front_pass _ _ _ (sym c.in_ok-table.ensures) c.offsets.ensures
