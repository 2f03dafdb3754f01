-- Plans that are to be clear: what the stretch report, the writer and the reader of plan files judge.
use Rattle.std.specs.Prelude.{List, [], ◌∷◌, ℕ, length, Some, None, Ok, Err}
use Rattle.ground.specs.Judging.{Cause, at_row, and_then}
use Rattle.ground.specs.Judging.{Judged}
use Rattle.ground.specs.Judging.{Fine, Fault}
use Rattle.link.specs.Limits.{not_clear}
use Rattle.link.specs.Refusal.{plan_faults}
use Rattle.link.specs.Rows.{span_of, blocked}
use Rattle.link.specs.declared.Link.{Link}
use Rattle.ground.specs.Refusals.{fault_of}
use Rattle.checker.specs.Answer.{Checked}

-- 5, 6, 8, 7, 11, 17, then "18 plan to write, read or report on isn't clear .. later row": the least row that meets an earlier one
unfoldable pub clear_faults : Link → List ℕ → List ℕ → List Cause
clear_faults k ds os =
    and_then (plan_faults k ds os) (at_row (blocked k.period (span_of k) ds os) (length ds) not_clear ∷ [])

-- the same, said of what the checker answers: "the row is that of the collision the checker names"
abbrev pub judged_as : Checked → Judged
judged_as (Ok None) = Fine
judged_as (Ok (Some x)) = Fault not_clear x.later
judged_as (Err f) = fault_of f
