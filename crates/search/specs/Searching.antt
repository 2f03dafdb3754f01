-- Search over the rows and the board that the code has. It is a file of its own because a ghost field of `Rows` cites Search.
use Rattle.std.specs.Prelude.{List, ℕ}
use Rattle.link.specs.Starts.{firsts, seconds}
use Rattle.link.specs.declared.Start.{Start}
use Rattle.search.specs.Steps.{Rules, rules}
use Rattle.search.specs.Numbering.{step_at}
use Rattle.search.specs.Search.{more, tried, deep, Answered, Starts}
use Rattle.search.specs.declared.Rows.{Rows}
use Rattle.search.specs.declared.Hunt.{Hunt}

abbrev pub Stands : Rows → List Start → Type 0
Stands r ss = Starts r.circle.period r.delays r.count (firsts ss) (seconds ss)

abbrev pub rules_by : Rows → Rules
rules_by r = rules r.circle.period r.circle.span r.delays r.count

-- placing the u rows that are left, and trying the step that the number k stands for
abbrev pub Descended : Rows → ℕ → ℕ → List Start → Hunt → List Start → Type 0
Descended r u left ss h ss' = Answered left (firsts ss) (deep (rules_by r) u (firsts ss)) h (firsts ss')

abbrev pub Tried : Rows → ℕ → ℕ → ℕ → List Start → Hunt → List Start → Type 0
Tried r u k left ss h ss' =
    Answered left (firsts ss) (more 1 (tried (rules_by r) (deep (rules_by r) u) (firsts ss) (step_at k))) h (firsts ss')
