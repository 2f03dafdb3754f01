-- Each return says which lines of the list do not apply, and which does.
use mathlib.Core.Path.{sym}
use mathlib.Core.Logic.{⊎_elim}
use mathlib.Core.List.{[]}
use lib.Dec.{ltb}
use native.Mathlib.Omega.{arith}
use Rattle.link.specs.Limits.{max_delay}
use Rattle.link.specs.Refusal.{row_faults}
use Rattle.ground.proofs.Faults.{hit, pass, hit_found, pass_found, fine, below, above, inside}
use Rattle.link.proofs.judge.rows.Goals as goal

pub returns-then-n-eq0 : goal.returns-then-n-eq0
unfolding row_faults
returns-then-n-eq0 c =
    ⊎_elim (λ e. hit _ _ _ _ (below _ _ _ (omega arith))) (λ w. hit _ _ _ _ (above _ _ _ (omega (arith, w.1)))) c.then-n-eq0.either

pub returns-in-Some : goal.returns-in-Some
unfolding row_faults
returns-in-Some c =
    pass _ _ _ _ (inside _ _ _ (omega arith) (omega arith))
    (hit_found [] (λ x. ltb max_delay x) c.args.delays.now _ _ (sym c.in-Some.ensures))

pub returns : goal.returns
unfolding row_faults
returns c =
    pass _ _ _ _ (inside _ _ _ (omega arith) (omega arith))
    (pass_found _ (λ x. ltb max_delay x) c.args.delays.now _ (sym c.in_default.ensures) fine)
