-- The reader that is opened stands after the tag of the caller's bytes; the header there, and the rest from where the next reader
-- stands, are the whole file. A refused header is handed on by the rest, and is the answer.
use mathlib.Core.Path.{◌≡◌, ◌∙◌}
use borrow.Author.Rules.{rules}
use Rattle.std.specs.Prelude.{Err}
use Rattle.planfile.proofs.Joining.{in_range, as_handed, after_headed}
use Rattle.filereader.proofs.read_plan.Goals as goal

pub read_rest-requires : goal.read_rest-requires
read_rest-requires c = in_range _ _ _ c.read_header-head.ensures.0

pub returns-in_err-read_rest : goal.returns-in_err-read_rest
returns-in_err-read_rest c =
    let o = c.open-start.ensures in
    let head = rw (o.0, o.1) at c.read_header-head.ensures in
    let place = rw o.1 at (c.after.ensures ∙ after_headed _ _) in
    let both = as_handed _ _ _ _ _ _ _ _ head.0 place head.1 (rw (o.0, c.in_err-read_rest.was) at c.read_rest.ensures) in
    let e : c.from_residual.result ≡ Err c.in_err-read_rest.field-0.0 = search rules in
    record { answer = rw e both.0; file_of = rw e tt }

pub returns : goal.returns
returns c =
    let o = c.open-start.ensures in
    let head = rw (o.0, o.1) at c.read_header-head.ensures in
    let place = rw o.1 at (c.after.ensures ∙ after_headed _ _) in
    let both = as_handed _ _ _ _ _ _ _ _ head.0 place head.1 (rw (o.0, c.in_ok-read_rest.was) at c.read_rest.ensures) in
    record { answer = both.0; file_of = both.1 }
