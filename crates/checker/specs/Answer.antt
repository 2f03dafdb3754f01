-- What the checker answers.
use Rattle.std.specs.Prelude.{cond, List, ℕ, length, get_or, Option, Some, None, Result, Ok, Err}
use Rattle.ground.specs.Least.{least, some}
use Rattle.link.specs.Rows.{span_of, met_at, blocked, Met, Nobody, Row}
use Rattle.ground.specs.Judging.{first}
use Rattle.ground.specs.Protocol.{unless}
use Rattle.link.specs.Refusal.{plan_faults}
use Rattle.link.specs.declared.Link.{Link}
use Rattle.link.specs.Starts.{crossing_number}
use Rattle.ground.specs.Refusals.{number_of}
use Rattle.ground.specs.declared.Fault.{Fault}
use Rattle.checker.specs.declared.Collision.{Collision}

-- "one of: clear; a collision, with both rows and the crossing; a refusal"
pub data Verdict : Type 0 where
  clear collision refusal : Verdict

-- the paper's form of an answer
pub record Said : Type 0 where
  pub verdict : Verdict
  pub number : ℕ
  pub place : ℕ
  pub earlier : ℕ
  pub later : ℕ
  pub crossing : ℕ

-- "Fields of an answer that don't apply are 0"
abbrev pub clearly : Said
clearly = record { verdict = clear; number = 0; place = 0; earlier = 0; later = 0; crossing = 0 }

abbrev pub colliding : ℕ → ℕ → ℕ → Said
colliding i j c = record { verdict = collision; number = 0; place = 0; earlier = i; later = j; crossing = c }

abbrev pub refusing : ℕ → ℕ → Said
refusing n p = record { verdict = refusal; number = n; place = p; earlier = 0; later = 0; crossing = 0 }

-- as the code says it: clear, or the first collision; or a refusal
abbrev pub Checked : Type 0
Checked = Result (Option Collision) Fault

unfoldable pub found : Option Collision → Said
found None = clearly
found (Some x) = colliding x.earlier x.later (crossing_number x.crossing)

unfoldable pub said : Checked → Said
said (Ok x) = found x
said (Err f) = refusing (number_of f.refusal) f.place

-- the least earlier row that row j meets, and the crossing
unfoldable pub met_by : ℕ → ℕ → List ℕ → List ℕ → ℕ → Met
met_by p l ds os j = met_at p l ds os j (get_or ds j 0) (get_or os j 0)

-- what row j meets, as an answer
abbrev pub name_as : ℕ → Met → Said
name_as j Nobody = clearly
name_as j (Row i c) = colliding i j c

-- "the one with the least later row, then the least earlier row, then crossing 1 before 2"
unfoldable pub named : ℕ → ℕ → List ℕ → List ℕ → Said
named p l ds os =
    cond (some (blocked p l ds os) (length ds))
    (name_as (least (blocked p l ds os) (length ds)) (met_by p l ds os (least (blocked p l ds os) (length ds))))
    clearly

-- 5, 6, 8, 7, 11, 17, then the collision, or clear
unfoldable pub answer : Link → List ℕ → List ℕ → Said
answer k ds os = unless refusing (first (plan_faults k ds os)) (named k.period (span_of k) ds os)
