-- What the stretch report answers.
use Rattle.std.specs.Prelude.{List, ℕ, Result, Ok, Err}
use Rattle.ground.specs.Judging.{first}
use Rattle.ground.specs.Protocol.{unless}
use Rattle.ground.specs.Refusals.{number_of}
use Rattle.ground.specs.declared.Fault.{Fault}
use Rattle.link.specs.Rows.{one, two}
use Rattle.link.specs.declared.Link.{Link}
use Rattle.checker.specs.Judging.{clear_faults}
use Rattle.report.specs.Free.{is_free, stretch_of}
use Rattle.report.specs.declared.Stretch.{Stretch}
use Rattle.report.specs.declared.Reported.{Reported}

pub data Verdict : Type 0 where
  reported refused : Verdict

-- the paper's form of an answer: six numbers, three for each crossing, or a refusal
pub record Said : Type 0 where
  pub verdict : Verdict
  pub number : ℕ
  pub place : ℕ
  pub first : Stretch
  pub second : Stretch

-- "Fields of an answer that don't apply are 0"
abbrev pub no_stretch : Stretch
no_stretch = record { free = 0; stretches = 0; widest = 0 }

abbrev pub telling : Stretch → Stretch → Said
telling a b = record { verdict = reported; number = 0; place = 0; first = a; second = b }

abbrev pub refusing : ℕ → ℕ → Said
refusing n p = record { verdict = refused; number = n; place = p; first = no_stretch; second = no_stretch }

-- as the code says it: the numbers of both crossings, or a refusal
abbrev pub Answered : Type 0
Answered = Result Reported Fault

unfoldable pub said : Answered → Said
said (Ok r) = telling r.first r.second
said (Err f) = refusing (number_of f.refusal) f.place

-- "For a clear plan and each crossing"
unfoldable pub told : ℕ → ℕ → List ℕ → List ℕ → Said
told p t ds os = telling (stretch_of (is_free p t ds os one) p) (stretch_of (is_free p t ds os two) p)

-- 5, 6, 8, 7, 11, 17, "A plan that isn't clear is refused with 18", then the report
unfoldable pub answer : Link → List ℕ → List ℕ → Said
answer k ds os = unless refusing (first (clear_faults k ds os)) (told k.period k.size ds os)
