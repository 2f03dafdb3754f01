-- The table is put within the period, the search starts from row 0, and its answer is told in the paper's words.
use mathlib.Core.Path.{ap, ◌∙◌}
use native.Mathlib.Omega.{arith}
use Rattle.ground.specs.Protocol.{gives}
use Rattle.link.proofs.Columns.{firsts_take}
use Rattle.search.specs.Answer.{outcome}
use Rattle.search.specs.declared.Hunt.TheVariants.{Found, Nothing}
use Rattle.search.proofs.Answering.{told_as, ends}
use Rattle.search.proofs.Boards.{first_firsts, first_seconds}
use Rattle.search.proofs.Planning.{begin_starts, low_delays, turns_table, is_planned, found_outcome, nothing_outcome}
use Rattle.search.proofs.Planning.{spent_outcome}
use Rattle.search.proofs.plan.Goals as goal

pub invariant_of-rows : goal.invariant_of-rows
invariant_of-rows c =
    record { searchable = turns_table _ _ c.circle-circle.ensures _ c.reduced.result c.requires.0 c.reduced.ensures }

pub descend-requires : goal.descend-requires
descend-requires c =
    rw (first_firsts, first_seconds)
    (begin_starts _ _ _ c.requires.0.rows_high
    (low_delays _ _ c.circle-circle.ensures _ c.reduced.result c.requires.0 c.reduced.ensures 0))

pub overflow_sub-result : goal.overflow_sub-result
overflow_sub-result c = omega (arith, (ends _ _ _ _ (Found _) (told_as c.in-Found.is c.descend.ensures.descended)).rest)

pub overflow_sub-result-in-Nothing : goal.overflow_sub-result-in-Nothing
overflow_sub-result-in-Nothing c = omega (arith, (ends _ _ _ _ (Nothing _) (told_as c.in-Nothing.is c.descend.ensures.descended)).rest)

pub returns-in-Found : goal.returns-in-Found
returns-in-Found c =
    ap (gives _) (rw firsts_take at c.copy_offsets.ensures)
    ∙ found_outcome _ _ _ _ _ _ _ (told_as c.in-Found.is (rw first_firsts at c.descend.ensures.descended))
    ∙ ap (outcome _ _ _) (is_planned _ _ c.circle-circle.ensures _ _ c.requires.0 c.reduced.ensures)

pub returns-in-Nothing : goal.returns-in-Nothing
returns-in-Nothing c =
    nothing_outcome _ _ _ _ _ _ _ (told_as c.in-Nothing.is (rw first_firsts at c.descend.ensures.descended))
    ∙ ap (outcome _ _ _) (is_planned _ _ c.circle-circle.ensures _ _ c.requires.0 c.reduced.ensures)

pub returns-in-Spent : goal.returns-in-Spent
returns-in-Spent c =
    spent_outcome _ _ _ _ _ _ (told_as c.in-Spent.is (rw first_firsts at c.descend.ensures.descended))
    ∙ ap (outcome _ _ _) (is_planned _ _ c.circle-circle.ensures _ _ c.requires.0 c.reduced.ensures)
