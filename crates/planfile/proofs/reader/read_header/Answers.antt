-- The tag, then the numbers; the elements of a lent `&[u8]` are known to be bytes.
use mathlib.Core.Path.{sym, ◌∙◌}
use native.Mathlib.Omega.{arith}
use Rattle.ground.proofs.Beginning.{starts}
use Rattle.planfile.specs.Answer.{headed}
use Rattle.planfile.proofs.Joining.{no_tag, with_tag}
use Rattle.planfile.proofs.reader.read_header.Goals as goal

pub returns-then-not-starts_with : goal.returns-then-not-starts_with
unfolding headed
returns-then-not-starts_with c =
    let no_tag_read = sym (c.starts_with.ensures.value ∙ starts _ _) ∙ c.if-not-starts_with.true in (
      sym (rw c.tag_refusal.ensures (no_tag _ _ no_tag_read)),
      record { byte = λ i _. omega (arith, c.type_inv.bytes i) },
    )

pub returns : goal.returns
returns c =
    let tag_read = sym (c.starts_with.ensures.value ∙ starts _ _) ∙ c.if-not-starts_with.false in (
      c.read_numbers.ensures ∙ sym (with_tag _ _ tag_read),
      record { byte = λ i _. omega (arith, c.type_inv.bytes i) },
    )
