-- A file that is itself a front of the tag ends inside it.
use mathlib.Core.Path.{sym, ◌∙◌}
use Rattle.ground.proofs.Beginning.{starts}
use Rattle.planfile.specs.Format.{tag}
use Rattle.planfile.specs.FileMeaning.{tag_fault}
use Rattle.planfile.proofs.reader.tag_refusal.Goals as goal

pub returns-then-starts_with : goal.returns-then-starts_with
unfolding tag_fault
returns-then-starts_with c = rw (sym (starts c.args.bytes.now tag) ∙ sym c.starts_with.ensures.value ∙ c.if-starts_with.true)

pub returns : goal.returns
unfolding tag_fault
returns c = rw (sym (starts c.args.bytes.now tag) ∙ sym c.starts_with.ensures.value ∙ c.if-starts_with.false)
