-- The numbers of each answer, in the order in which the C interface gives them.
use Rattle.std.specs.Prelude.{List, [], ◌∷◌, ℕ}
use Rattle.ground.specs.Protocol.{Outcome, gives}
use Rattle.link.specs.declared.Link.{Link}
use Rattle.checker.specs.Answer.{Said as Checked}
use Rattle.quick.specs.Answer.{Said as Planned}
use Rattle.joined.specs.Answer.{Said as Run}
use Rattle.planfile.specs.Answer.{ReadSaid, WrittenSaid}
use Rattle.report.specs.Answer.{Said as Reported}
use Rattle.search.specs.Answer.{Said as Searched}
use Rattle.text.specs.Answer.{Said as Read}

abbrev pub link_of : ℕ → ℕ → Link
link_of p t = record { period = p; size = t }

-- an answer as its numbers, with what it leaves in lent memory
abbrev pub as_numbers : {A L : Type 0} → (A → List ℕ) → Outcome A L → Outcome (List ℕ) L
as_numbers numbers o = gives (numbers o.says) o.leaves

-- number, place, earlier row, later row, crossing
abbrev pub checked_as : Checked → List ℕ
checked_as s = s.number ∷ s.place ∷ s.earlier ∷ s.later ∷ s.crossing ∷ []

-- number, place
abbrev pub planned_as : Planned → List ℕ
planned_as s = s.number ∷ s.place ∷ []

-- number, place, tests
abbrev pub searched_as : Searched → List ℕ
searched_as s = s.number ∷ s.place ∷ s.tests ∷ []

-- number, place, period, size, rows
abbrev pub read_as : Read → List ℕ
read_as s = s.number ∷ s.place ∷ s.link.period ∷ s.link.size ∷ s.rows ∷ []

-- number, place, texts that were answered
abbrev pub run_as : Run → List ℕ
run_as s = s.number ∷ s.place ∷ s.texts ∷ []

-- number, place, bytes of the file
abbrev pub written_as : WrittenSaid → List ℕ
written_as s = s.number ∷ s.place ∷ s.bytes ∷ []

-- number, place, period, size, rows
abbrev pub file_as : ReadSaid → List ℕ
file_as s = s.number ∷ s.place ∷ s.link.period ∷ s.link.size ∷ s.rows ∷ []

-- number, place, and free, stretches and widest of each crossing
abbrev pub reported_as : Reported → List ℕ
reported_as s =
    s.number ∷ s.place
    ∷ s.first.free ∷ s.first.stretches ∷ s.first.widest
    ∷ s.second.free ∷ s.second.stretches ∷ s.second.widest
    ∷ []
