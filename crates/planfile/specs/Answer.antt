-- What the reader and the writer answer, and what they leave in lent memory.
use Rattle.std.specs.Prelude.{◌≡◌, cond, ◌||◌, List, [], ◌∷◌, ℕ, ◌≤◌, ◌<◌, ltb, length, take, Result, Ok, Err}
use Rattle.ground.specs.Judging.{Cause, when, and_then, first}
use Rattle.ground.specs.Lent.{on_front}
use Rattle.ground.specs.Protocol.{Outcome, gives, keeping, unless}
use Rattle.ground.specs.Refusals.{number_of}
use Rattle.ground.specs.declared.Fault.{Fault}
use Rattle.link.specs.Limits.{max_rows, bad_length}
use Rattle.link.specs.Range.{no_link}
use Rattle.link.specs.declared.Link.{Link}
use Rattle.checker.specs.Judging.{clear_faults}
use Rattle.planfile.specs.Format.{plan_bytes}
use Rattle.planfile.specs.FileMeaning.{Step, got, stopped, Head, Row, Rows, Meaning, plan, refused, means}
use Rattle.planfile.specs.FileMeaning.{closing, rest, meaning}
use Rattle.planfile.specs.Number.{form_fault, formed}
use Rattle.planfile.specs.declared.BadNumber.{BadNumber}
use Rattle.planfile.specs.declared.BadNumber.TheVariants.{Malformed, OutOfRange}
use Rattle.planfile.specs.declared.Read.{Read}
use Rattle.planfile.specs.declared.Row.{Row as OneRow}
use Rattle.planfile.specs.declared.Plan.{Plan}

-- the refusal number of a number that is not taken, where f numbers the caller's own refusals
abbrev pub refused_as : {R : Type 0} → (R → ℕ) → BadNumber R → ℕ
refused_as f (Malformed m) = form_fault (formed m)
refused_as f (OutOfRange r) = f r

-- the place after what was read at a place; what was refused is not passed over
unfoldable pub place_after : {T E : Type 0} → ℕ → Result (Read T) E → ℕ
place_after at (Ok r) = r.next
place_after at (Err e) = at

-- the inner answers as steps; a number that is read at a place is refused there
unfoldable pub taken_as : {R : Type 0} → (R → ℕ) → ℕ → Result (Read ℕ) (BadNumber R) → Step ℕ
taken_as f at (Ok t) = got t.got t.next
taken_as f at (Err b) = stopped (refused_as f b) at

-- a number out of its range is refused by the caller's own refusal, whatever that is
abbrev pub RefusesOwn : {R : Type 0} → R → Result (Read ℕ) (BadNumber R) → Type 0
RefusesOwn fault (Ok t) = Unit
RefusesOwn fault (Err (Malformed m)) = Unit
RefusesOwn fault (Err (OutOfRange r)) = r ≡ fault

unfoldable pub taken : Result (Read ℕ) Fault → Step ℕ
taken (Ok t) = got t.got t.next
taken (Err f) = stopped (number_of f.refusal) f.place

-- as the code says it
abbrev pub HeaderRead : Type 0
HeaderRead = Result (Read Plan) Fault

unfoldable pub headed : HeaderRead → Step Head
headed (Ok h) = got (record { link = h.got.link; rows = h.got.rows }) h.next
headed (Err f) = stopped (number_of f.refusal) f.place

-- the ranges of a header that was read
abbrev pub HeaderRanges : Read Plan → Type 0
HeaderRanges h = (0 < h.got.link.period) × (h.got.rows ≤ max_rows)

abbrev pub InRange : {E : Type 0} → Result (Read Plan) E → Type 0
InRange (Ok h) = HeaderRanges h
InRange (Err e) = Unit

unfoldable pub rowed : Result (Read OneRow) Fault → Step Row
rowed (Ok r) = got (record { delay = r.got.delay; offset = r.got.offset }) r.next
rowed (Err f) = stopped (number_of f.refusal) f.place

-- all rows, with the two lists that they were put into
unfoldable pub rowsed : Result ℕ Fault → List ℕ → List ℕ → Step Rows
rowsed (Ok next) ds os = got (record { delays = ds; offsets = os }) next
rowsed (Err f) ds os = stopped (number_of f.refusal) f.place

pub data Verdict : Type 0 where
  done refusal : Verdict

-- the paper's form of the reader's answer; "Fields of an answer that don't apply are 0"
pub record ReadSaid : Type 0 where
  pub verdict : Verdict
  pub number : ℕ
  pub place : ℕ
  pub link : Link
  pub rows : ℕ

abbrev pub reads_plan : Link → ℕ → ReadSaid
reads_plan k n = record { verdict = done; number = 0; place = 0; link = k; rows = n }

abbrev pub refuses_read : ℕ → ℕ → ReadSaid
refuses_read n p = record { verdict = refusal; number = n; place = p; link = no_link; rows = 0 }

-- as the code says it
abbrev pub PlanRead : Type 0
PlanRead = Result Plan Fault

abbrev pub plan_of : Link → ℕ → PlanRead
plan_of k n = Ok (record { link = k; rows = n })

unfoldable pub read_said : PlanRead → ReadSaid
read_said (Ok w) = reads_plan w.link w.rows
read_said (Err f) = refuses_read (number_of f.refusal) f.place

-- the two lent lists
pub record Lists : Type 0 where
  pub delays : List ℕ
  pub offsets : List ℕ

abbrev pub lists : List ℕ → List ℕ → Lists
lists ds os = record { delays = ds; offsets = os }

-- the reader's answer, and the two lists as it leaves them
abbrev pub ReadGives : Type 0
ReadGives = Outcome ReadSaid Lists

-- a reader that gives g answers r and leaves ds and os in the two lists
abbrev pub Gives : ReadGives → PlanRead → List ℕ → List ℕ → Type 0
Gives g r ds os = gives (read_said r) (lists ds os) ≡ g

abbrev pub refuses : ℕ → ℕ → List ℕ → List ℕ → ReadGives
refuses n p old_d old_o = keeping refuses_read (lists old_d old_o) n p

-- a plan's rows in the fronts of the lists
abbrev pub delivers : Link → List ℕ → List ℕ → List ℕ → List ℕ → ReadGives
delivers k ds os old_d old_o = gives (reads_plan k (length ds)) (lists (on_front ds old_d) (on_front os old_o))

-- "then 11": either list shorter than the rows
unfoldable pub delivered : Meaning → List ℕ → List ℕ → ReadGives
delivered (plan k ds os) old_d old_o =
    cond (ltb (length old_d) (length ds) || ltb (length old_o) (length os))
    (refuses bad_length 0 old_d old_o)
    (delivers k ds os old_d old_o)
delivered (refused n p) old_d old_o = refuses n p old_d old_o

-- what the reader gives once it has read the last number
abbrev pub closes : List ℕ → ℕ → Link → List ℕ → List ℕ → List ℕ → List ℕ → ReadGives
closes bs end k ds os old_d old_o = delivered (closing bs k ds os end) old_d old_o

-- what the reader gives whose header is h, the rows standing from a place on
unfoldable pub rest_gives : List ℕ → ℕ → HeaderRead → List ℕ → List ℕ → ReadGives
rest_gives bs at h old_d old_o = delivered (means (headed h) (λ x _. rest bs x at)) old_d old_o

-- the same in the code's form: a header that was refused is handed on, whatever refuses it, and both lists are kept
abbrev pub GivesRest : {E : Type 0} → List ℕ → ℕ → Result (Read Plan) E → List ℕ → List ℕ → Result PlanRead E → List ℕ → List ℕ → Type 0
GivesRest bs at (Ok h) old_d old_o q ds os = (r : PlanRead) × (q ≡ Ok r) × Gives (rest_gives bs at (Ok h) old_d old_o) r ds os
GivesRest bs at (Err e) old_d old_o q ds os = (q ≡ Err e) × (ds ≡ old_d) × (os ≡ old_o)

unfoldable pub read_gives : List ℕ → List ℕ → List ℕ → ReadGives
read_gives bs old_d old_o = delivered (meaning bs) old_d old_o

-- a file that was read as a plan is the bytes of that plan, which stands in the fronts of ds and os
abbrev pub IsFileOf : PlanRead → List ℕ → List ℕ → List ℕ → Type 0
IsFileOf (Ok w) bs ds os = bs ≡ plan_bytes w.link (take w.rows ds) (take w.rows os)
IsFileOf (Err f) bs ds os = Unit

-- the paper's form of the writer's answer
pub record WrittenSaid : Type 0 where
  pub verdict : Verdict
  pub number : ℕ
  pub place : ℕ
  pub bytes : ℕ

abbrev pub writes : ℕ → WrittenSaid
writes n = record { verdict = done; number = 0; place = 0; bytes = n }

abbrev pub refuses_write : ℕ → ℕ → WrittenSaid
refuses_write n p = record { verdict = refusal; number = n; place = p; bytes = 0 }

-- as the code says it: how many bytes the file has
abbrev pub PlanWritten : Type 0
PlanWritten = Result ℕ Fault

unfoldable pub written_said : PlanWritten → WrittenSaid
written_said (Ok n) = writes n
written_said (Err f) = refuses_write (number_of f.refusal) f.place

-- "The writer writes clear plans only; it judges 5, 6, 8, 7, then 11 .., 17, 18, and last 11 if the output buffer is too short"
unfoldable pub write_faults : Link → List ℕ → List ℕ → ℕ → List Cause
write_faults k ds os room = and_then (clear_faults k ds os) (when (ltb room (length (plan_bytes k ds os))) bad_length 0 ∷ [])

-- a plan's bytes in the front of the buffer
abbrev pub stored : List ℕ → List ℕ → Outcome WrittenSaid (List ℕ)
stored bs old = gives (writes (length bs)) (on_front bs old)

unfoldable pub write_gives : Link → List ℕ → List ℕ → List ℕ → Outcome WrittenSaid (List ℕ)
write_gives k ds os old = unless (keeping refuses_write old) (first (write_faults k ds os (length old))) (stored (plan_bytes k ds os) old)
