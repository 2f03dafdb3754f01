-- The two answers and their paper forms: each form gives its answer back. Assumes nothing.
use mathlib.Core.Path.{◌≡◌, refl, ap}
use Rattle.std.specs.Prelude.{Result, Ok, Err}
use Rattle.ground.specs.declared.Fault.{Fault}
use Rattle.ground.proofs.Refusals.{refused, fault_again}
use Rattle.text.specs.declared.Table.{Table}
use Rattle.text.specs.declared.Text.{Text}
use Rattle.text.specs.Answer.{Verdict, table, refusal, Said, said}
use Rattle.text.specs.TextAnswer.{TextVerdict, whole, refusal as breach, TextSaid, text_said}

abbrev pub unsaid : Said → Result Table Fault
unsaid s = back s.verdict s
  where
    back : Verdict → Said → Result Table Fault
    back table s = Ok (record { link = s.link; rows = s.rows })
    back refusal s = Err (refused s.number s.place)

pub again : (r : Result Table Fault) → unsaid (said r) ≡ r
unfolding said
again (Ok t) = refl
again (Err f) = ap Err (fault_again f)

abbrev pub text_unsaid : TextSaid → Result Text Fault
text_unsaid s = back s.verdict s
  where
    back : TextVerdict → TextSaid → Result Text Fault
    back whole s = Ok (record { link = s.link; rows = s.rows; end = s.end })
    back breach s = Err (refused s.number s.place)

pub text_again : (r : Result Text Fault) → text_unsaid (text_said r) ≡ r
unfolding text_said
text_again (Ok t) = refl
text_again (Err f) = ap Err (fault_again f)
