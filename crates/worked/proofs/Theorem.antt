-- Every line of the table is as the page says. Assumes nothing.
use mathlib.Core.Path.{◌≡◌, refl}
use mathlib.Core.List.{map}
use Rattle.ground.specs.Count.{count, count_in}
use Rattle.ground.specs.Judging.{first, outside, and_then}
use Rattle.ground.specs.Least.{one_more, least}
use Rattle.ground.specs.Series.{from}
use Rattle.link.specs.Refusal.{link_faults, row_faults, room_faults, offset_faults}
use Rattle.link.specs.Rows.{second, start, hits, either, free, blocked, first_hit, met_at}
use Rattle.link.specs.Slots.{uses, after, meets}
use Rattle.checker.specs.Answer as checker
use Rattle.checker.specs.Judging.{clear_faults}
use Rattle.quick.specs.Answer as quick
use Rattle.quick.specs.Plan as quickly
use Rattle.search.specs.Answer as search
use Rattle.search.specs.Builds as builds
use Rattle.search.specs.Refusal.{exact_faults}
use Rattle.search.specs.Steps as steps
use Rattle.report.specs.Answer as report
use Rattle.report.specs.Free as slots
use Rattle.report.specs.Runs as runs
use Rattle.planfile.specs.Answer as file
use Rattle.planfile.specs.Format as format
use Rattle.planfile.specs.Number as number
use Rattle.worked.specs.Tables.{table}

pub as_the_page_says : map (λ c. c.computed) table ≡ map (λ c. c.page) table
unfolding table
    first outside and_then link_faults row_faults room_faults exact_faults offset_faults clear_faults one_more least count count_in from
    second start hits either free blocked first_hit met_at uses meets
    checker.met_by checker.named checker.answer
    quick.outcome quick.quick quickly.free_at quickly.place quickly.placed
    search.within search.outcome search.exactly
    builds.order builds.order_steps builds.behind builds.sequences builds.leads builds.all_good builds.is_whole builds.first_of
    builds.counted builds.least_build
    steps.placed steps.besides steps.row_steps steps.steps after steps.offset_of steps.puts steps.in_the_way
    steps.good steps.put
    report.told report.answer slots.used_of slots.free_of slots.stretch_of
    runs.run_begins runs.width runs.runs_below runs.widest_of
    file.write_faults file.write_gives format.rows_bytes format.header_bytes format.plan_bytes number.groups number.number_bytes
as_the_page_says = refl
