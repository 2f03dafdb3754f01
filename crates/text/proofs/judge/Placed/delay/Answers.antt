-- 7, then 8; or the row.
use mathlib.Core.Path.{refl, sym}
use borrow.Author.Tests.{lt-ltb, le-ltb, le-leb, lt-leb}
use Rattle.ground.proofs.Answers.{refused, goes_on}
use Rattle.ground.proofs.Faults.{hit, pass, fine}
use Rattle.link.specs.Limits.{bad_delay, bad_rows}
use Rattle.text.specs.Steps.{Wrong}
use Rattle.text.proofs.judge.Placed.delay.Goals as goal

pub returns-then-delay-gt-MAX_DELAY : goal.returns-then-delay-gt-MAX_DELAY
returns-then-delay-gt-MAX_DELAY c =
    rw (c.fault.ensures.0, c.fault.ensures.1)
    (refused Wrong _ (sym (hit _ _ bad_delay _ (lt-ltb _ _ c.if-delay-gt-MAX_DELAY.true))))

pub returns-then-rows-ge-MAX_ROWS : goal.returns-then-rows-ge-MAX_ROWS
returns-then-rows-ge-MAX_ROWS c =
    let f = c.fault-then-rows-ge-MAX_ROWS.ensures in
    rw (f.0, f.1) (refused Wrong _
    (sym (pass _ _ bad_delay _ (le-ltb _ _ c.if-delay-gt-MAX_DELAY.false) (hit _ _ bad_rows _ (le-leb _ _ c.if-rows-ge-MAX_ROWS.true)))))

pub returns : goal.returns
returns c =
    goes_on Wrong
    (sym (pass _ _ bad_delay _ (le-ltb _ _ c.if-delay-gt-MAX_DELAY.false)
    (pass _ _ bad_rows _ (lt-leb _ _ c.if-rows-ge-MAX_ROWS.false) fine)))
    refl
