-- The line is `pma 1`, or 2.
use mathlib.Core.Path.{sym, ap, ◌∙◌}
use mathlib.Core.Bool.{not}
use Rattle.ground.proofs.Faults.{hit, pass, fine}
use Rattle.text.specs.Bytes.{title_word}
use Rattle.text.specs.Faults.{title_faults}
use Rattle.text.proofs.Finding.{same_bytes}
use Rattle.text.proofs.judge.Placed.title.Goals as goal

pub returns-then-ne : goal.returns-then-ne
unfolding title_faults
returns-then-ne c =
    let told = rw c.as_slice.ensures at c.ne.ensures in
    rw (c.fault.ensures.0, c.fault.ensures.1)
    (hit _ _ _ _ (ap not (sym (same_bytes c.args.self.bytes.now title_word)) ∙ sym told ∙ c.if-ne.true))

pub returns : goal.returns
unfolding title_faults
returns c =
    let told = rw c.as_slice.ensures at c.ne.ensures in
    pass _ _ _ _ (ap not (sym (same_bytes c.args.self.bytes.now title_word)) ∙ sym told ∙ c.if-ne.false) fine
