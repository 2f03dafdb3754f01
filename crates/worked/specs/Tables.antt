-- "Worked tables": the cases that document 01 marks with *, in a single table. Each line has what the definitions give and what the
-- page says, as literals: the verdict, its numbers, and the lent list afterwards. Lent lists hold 77 before, which no answer has.
use Rattle.std.specs.Prelude.{List, [], ◌∷◌, ℕ, replicate}
use Rattle.ground.specs.Protocol.{Outcome, gives}
use Rattle.checker.specs.Answer.{answer as checked}
use Rattle.checker.specs.Answer as checker
use Rattle.quick.specs.Answer.{first_fit, meta_offset}
use Rattle.quick.specs.Answer as quick
use Rattle.search.specs.Answer.{exactly}
use Rattle.search.specs.Answer as search
use Rattle.report.specs.Answer.{answer as reported}
use Rattle.report.specs.Answer as stretches
use Rattle.planfile.specs.Answer.{write_gives}
use Rattle.planfile.specs.Answer as planfile
use Rattle.report.specs.declared.Stretch.{Stretch}
use Rattle.seamwhisk.specs.Numbers.{link_of}

-- an answer in its paper's form, verdict and numbers, with the lent list as it is left
pub data Shown : Type 0 where
  quickly : Outcome quick.Said (List ℕ) → Shown
  exact : Outcome search.Said (List ℕ) → Shown
  check : checker.Said → Shown
  report : stretches.Said → Shown
  written : Outcome planfile.WrittenSaid (List ℕ) → Shown

pub record Case : Type 0 where
  pub computed : Shown
  pub page : Shown

abbrev line : Shown → Shown → Case
line c p = record { computed = c; page = p }

-- lent lists of just as many places
abbrev lent : ℕ → List ℕ
lent n = replicate n 77

-- what the calls give
abbrev fits : ℕ → ℕ → List ℕ → List ℕ → Shown
fits p t ds old = quickly (first_fit (link_of p t) ds old)

abbrev multiples : ℕ → ℕ → List ℕ → List ℕ → Shown
multiples p t ds old = quickly (meta_offset (link_of p t) ds old)

abbrev searches : ℕ → ℕ → List ℕ → ℕ → List ℕ → Shown
searches p t ds budget old = exact (exactly (link_of p t) ds budget old)

-- how the page says it
abbrev plan : List ℕ → Shown
plan os = quickly (gives (record { verdict = quick.plan; number = 0; place = 0 }) os)

abbrev refused : ℕ → ℕ → List ℕ → Shown
refused n p os = quickly (gives (record { verdict = quick.refusal; number = n; place = p }) os)

abbrev found : ℕ → List ℕ → Shown
found tests os = exact (gives (record { verdict = search.plan; number = 0; place = 0; tests = tests }) os)

abbrev none : ℕ → ℕ → List ℕ → Shown
none n tests os = exact (gives (record { verdict = search.nothing; number = n; place = 0; tests = tests }) os)

abbrev spent : ℕ → ℕ → List ℕ → Shown
spent n tests os = exact (gives (record { verdict = search.spent; number = n; place = 0; tests = tests }) os)

abbrev three : ℕ → ℕ → ℕ → Stretch
three free stretches widest = record { free = free; stretches = stretches; widest = widest }

abbrev ds₁ : List ℕ
ds₁ = 0 ∷ 3 ∷ 7 ∷ []

abbrev ds₂ : List ℕ
ds₂ = 0 ∷ 2 ∷ 1 ∷ 1 ∷ []

abbrev ds₃ : List ℕ
ds₃ = 0 ∷ 0 ∷ 1 ∷ []

unfoldable pub table : List Case
table =
    -- "10, 2, (0 3 7): First Fit 0 2 5; Meta-Offset 0 2 6; exact 0 2 5, tests 3."
    line (fits 10 2 ds₁ (lent 3)) (plan (0 ∷ 2 ∷ 5 ∷ []))
    ∷ line (multiples 10 2 ds₁ (lent 3)) (plan (0 ∷ 2 ∷ 6 ∷ []))
    ∷ line (searches 10 2 ds₁ 20 (lent 3)) (found 3 (0 ∷ 2 ∷ 5 ∷ []))
    -- "4, 1, (0 2 1 1): First Fit and Meta-Offset refuse 13 at row 2; exact 0 3 1 2, tests 16."
    ∷ line (fits 4 1 ds₂ (lent 4)) (refused 13 2 (77 ∷ 77 ∷ 77 ∷ 77 ∷ []))
    ∷ line (multiples 4 1 ds₂ (lent 4)) (refused 13 2 (77 ∷ 77 ∷ 77 ∷ 77 ∷ []))
    ∷ line (searches 4 1 ds₂ 342 (lent 4)) (found 16 (0 ∷ 3 ∷ 1 ∷ 2 ∷ []))
    -- "3, 1, (0 0 1): exact 14, tests 16. Budget 16 the same; budget 15 gives 15."
    ∷ line (searches 3 1 ds₃ 20 (lent 3)) (none 14 16 (77 ∷ 77 ∷ 77 ∷ []))
    ∷ line (searches 3 1 ds₃ 16 (lent 3)) (none 14 16 (77 ∷ 77 ∷ 77 ∷ []))
    ∷ line (searches 3 1 ds₃ 15 (lent 3)) (spent 15 15 (77 ∷ 77 ∷ 77 ∷ []))
    -- "5, 2, (0 4): First Fit 0 3."
    ∷ line (fits 5 2 (0 ∷ 4 ∷ []) (lent 2)) (plan (0 ∷ 3 ∷ []))
    -- "1, 1, (0): exact 0, tests 0, with budget 0 too."
    ∷ line (searches 1 1 (0 ∷ []) 1 (lent 1)) (found 0 (0 ∷ []))
    ∷ line (searches 1 1 (0 ∷ []) 0 (lent 1)) (found 0 (0 ∷ []))
    -- "1, 1, (0 0): First Fit 13 at row 1; exact 14, tests 2."
    ∷ line (fits 1 1 (0 ∷ 0 ∷ []) (lent 2)) (refused 13 1 (77 ∷ 77 ∷ []))
    ∷ line (searches 1 1 (0 ∷ 0 ∷ []) 2 (lent 2)) (none 14 2 (77 ∷ 77 ∷ []))
    -- "5, 2, (0) at offset 1: stretches 2, widest 2, free 3 in both crossings", since request Two "one stretch, width 3"
    ∷ line (report (reported (link_of 5 2) (0 ∷ []) (1 ∷ [])))
    (report (record { verdict = stretches.reported; number = 0; place = 0; first = three 3 1 3; second = three 3 1 3 }))
    -- "First table, offsets 0 2 4: collision of rows 0 and 2 in crossing 2."
    ∷ line (check (checked (link_of 10 2) ds₁ (0 ∷ 2 ∷ 4 ∷ [])))
    (check (record { verdict = checker.collision; number = 0; place = 0; earlier = 0; later = 2; crossing = 2 }))
    -- "File of the first table, offsets 0 2 5: 50 4D 41 01 0A 02 03 00 00 03 02 07 05."
    ∷ line (written (write_gives (link_of 10 2) ds₁ (0 ∷ 2 ∷ 5 ∷ []) (lent 13)))
    (written (gives (record { verdict = planfile.done; number = 0; place = 0; bytes = 13 })
    (0x50 ∷ 0x4D ∷ 0x41 ∷ 0x01 ∷ 0x0A ∷ 0x02 ∷ 0x03 ∷ 0x00 ∷ 0x00 ∷ 0x03 ∷ 0x02 ∷ 0x07 ∷ 0x05 ∷ [])))
    ∷ []
