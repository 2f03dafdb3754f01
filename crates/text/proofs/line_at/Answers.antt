-- What is found from `at` on is counted from the start.
use mathlib.Core.Path.{refl, sym}
use Rattle.ground.proofs.Filling.{tail_part}
use Rattle.text.proofs.Finding.{seek_some, seek_none}
use Rattle.text.proofs.Lined.{line_there, cut_there}
use Rattle.text.proofs.line_at.Goals as goal

pub returns-in_default-clause-cut : goal.returns-in_default-clause-cut
returns-in_default-clause-cut c =
    let none = rw (tail_part c.args.text.now c.args.at) at (c.in_default.ensures) in
    record { cut = cut_there _ _ (seek_none _ _ (sym none)); number = refl; place = refl }

pub returns-clause-whole : goal.returns-clause-whole
returns-clause-whole c =
    let some = rw (tail_part c.args.text.now c.args.at) at (c.in-Some.ensures) in
    let found = seek_some _ _ _ (sym some) in
    line_there _ _ _ found.0 found.1
