-- What a quick planner answers, and what it leaves in the lent list.
use Rattle.std.specs.Prelude.{List, ℕ, ◌/◌, length, Result, Ok, Err}
use Rattle.ground.specs.Judging.{first}
use Rattle.ground.specs.Lent.{on_front}
use Rattle.ground.specs.Protocol.{Outcome, gives, keeping, unless}
use Rattle.ground.specs.Refusals.{number_of}
use Rattle.ground.specs.declared.Fault.{Fault}
use Rattle.ground.specs.declared.Refusal.TheVariants.{NoOffset}
use Rattle.link.specs.Limits.{no_offset}
use Rattle.link.specs.Refusal.{planner_faults}
use Rattle.link.specs.Rows.{span_of}
use Rattle.link.specs.declared.Link.{Link}
use Rattle.quick.specs.Plan.{Progress, rows, stuck, all_placed}

pub data Verdict : Type 0 where
  plan refusal : Verdict

-- the paper's form of an answer
pub record Said : Type 0 where
  pub verdict : Verdict
  pub number : ℕ
  pub place : ℕ

abbrev pub planning : Said
planning = record { verdict = plan; number = 0; place = 0 }

abbrev pub refusing : ℕ → ℕ → Said
refusing n p = record { verdict = refusal; number = n; place = p }

-- the code's form of it, and two answers by name: a plan, and 13 at row j
abbrev pub Planned : Type 0
Planned = Result Unit Fault

abbrev pub planned : Planned
planned = Ok tt

abbrev pub thirteen : ℕ → Planned
thirteen j = Err (record { refusal = NoOffset; place = j })

unfoldable pub said : Planned → Said
said (Ok u) = planning
said (Err f) = refusing (number_of f.refusal) f.place

-- a plan goes into the front of the list, and 13 leaves it as it is
unfoldable pub outcome : Progress → List ℕ → Outcome Said (List ℕ)
outcome (rows os) old = gives planning (on_front os old)
outcome (stuck j) old = keeping refusing old no_offset j

-- 5, 6, 8, 7, 11, then the plan, or 13
unfoldable pub quick : Link → List ℕ → List ℕ → ℕ → ℕ → Outcome Said (List ℕ)
quick k ds old step count =
    unless (keeping refusing old) (first (planner_faults k ds (length old)))
    (outcome (all_placed k.period (span_of k) ds step count) old)

-- "First Fit gives each row the least free offset."
abbrev pub first_fit : Link → List ℕ → List ℕ → Outcome Said (List ℕ)
first_fit k ds old = quick k ds old 1 k.period

-- "Meta-Offset looks only at 0, T, 2T, .., (m-1)T, where m is P divided by T, rounded down."
abbrev pub meta_offset : Link → List ℕ → List ℕ → Outcome Said (List ℕ)
meta_offset k ds old = quick k ds old (span_of k) (k.period / span_of k)
