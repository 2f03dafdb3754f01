-- What one number is read as, over `planfile`'s definitions; `read_plan` itself answers `planfile`'s `read_gives`.
use Rattle.std.specs.Prelude.{◌≡◌, ℕ}
use Rattle.planfile.specs.FileMeaning.{after, number}
use Rattle.planfile.specs.Answer.{taken_as, RefusesOwn}
use Rattle.filereader.specs.declared.FileReader.{FileReader}
use Rattle.filereader.specs.declared.NumberRead.{NumberRead}

-- what is told of a number, and of the reader after it, however f numbers the caller's own refusals
abbrev pub TellsNumber : {R : Type 0} → FileReader → ℕ → ℕ → R → NumberRead R → Type 0
TellsNumber {R} d low high fault q = (f : R → ℕ) →
    (taken_as f d.at q.taken ≡ number d.bytes.now d.at low high (f fault)) × (q.reader.bytes ≡ d.bytes) ×
    (q.reader.at ≡ after d.at (taken_as f d.at q.taken))

-- "keeps the caller's bytes and its own place in them. Each number is judged as it is read": what one number is read as, and that
-- the reader after it has the same bytes and stands after it; of the caller's refusals it gives its own, and no other
abbrev pub ReadsNumber : {R : Type 0} → FileReader → ℕ → ℕ → R → NumberRead R → Type 0
ReadsNumber d low high fault q = RefusesOwn fault q.taken × TellsNumber d low high fault q
