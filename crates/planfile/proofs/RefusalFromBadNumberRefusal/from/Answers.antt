-- A fault of form has its number; the caller's own refusal is what it is.
use Rattle.planfile.proofs.Steps.{refusal_number}
use Rattle.planfile.proofs.RefusalFromBadNumberRefusal.from.Goals as goal

pub returns-in-Malformed : goal.returns-in-Malformed
returns-in-Malformed c = rw (c.in-Malformed.is, c.from.ensures) (refusal_number c.in-Malformed.malformed)
