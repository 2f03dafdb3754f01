-- A fault of the first judge stands; where it finds none, the second decides.
use Rattle.std.specs.Prelude.{◌≡◌, Err}
use mathlib.Core.Path.{sym}
use borrow.Author.Rules.{rules}
use Rattle.ground.proofs.Faults.{front_hit, front_pass}
use Rattle.link.proofs.judge.table.Goals as goal

pub returns-in_err-link_values : goal.returns-in_err-link_values
returns-in_err-link_values c =
    let e : c.from_residual.result ≡ Err c.in_err-link_values.field-0.0 = search rules in
    rw e (front_hit _ _ _ _ (sym c.in_err-link_values.ensures))

pub returns : goal.returns
returns c = front_pass _ _ _ (sym c.in_ok-link_values.ensures) c.rows.ensures
