-- Document 01's program example, and the damaged one, from input bytes to output bytes. Assumes nothing.
use mathlib.Core.Path.{◌≡◌, refl, ap, ◌∙◌}
use mathlib.Core.List.{List, [], ◌∷◌}
use Prim.Native.Nat.{ℕ, ◌+◌, ◌≤◌}
use lib.ListN.{length}
use Rattle.ground.specs.Count.{count_in}
use Rattle.ground.specs.Least.{one_more, least}
use Rattle.ground.specs.Lent.{Adds}
use Rattle.ground.specs.Series.{from}
use Rattle.ground.specs.Words.{begins}
use Rattle.ground.specs.Judging.{first, outside, and_then}
use Rattle.search.specs.Refusal.{exact_faults}
use Rattle.link.specs.Refusal.{link_faults, row_faults, room_faults}
use Rattle.link.specs.Rows.{second, start, hits, either}
use Rattle.link.specs.Slots.{uses, after, meets}
use Rattle.text.specs.Bytes as bytes
use Rattle.text.specs.Decimal as decimal
use Rattle.text.specs.Faults as faults
use Rattle.text.specs.Lines as lines
use Rattle.text.specs.Answer as reader
use Rattle.text.specs.Writing.{digits_in}
use Rattle.search.specs.Answer as search
use Rattle.search.specs.Builds as builds
use Rattle.search.specs.Ceilings as ceilings
use Rattle.search.specs.Steps as steps
use Rattle.console.specs.Printed.{offset_lines, found_lines, refused_line, planned, printed}
use Rattle.console.proofs.Promises.{no_second, printed_inside}

-- `pma 1`, `10 2`, `0`, `3`, `7`, `end 3`, one a line; and the same with the byte between 3 and 7 lost
abbrev whole : List ℕ
whole =
    112 ∷ 109 ∷ 97 ∷ 32 ∷ 49 ∷ 10
    ∷ 49 ∷ 48 ∷ 32 ∷ 50 ∷ 10
    ∷ 48 ∷ 10
    ∷ 51 ∷ 10
    ∷ 55 ∷ 10
    ∷ 101 ∷ 110 ∷ 100 ∷ 32 ∷ 51 ∷ 10
    ∷ []

abbrev damaged : List ℕ
damaged =
    112 ∷ 109 ∷ 97 ∷ 32 ∷ 49 ∷ 10
    ∷ 49 ∷ 48 ∷ 32 ∷ 50 ∷ 10
    ∷ 48 ∷ 10
    ∷ 51 ∷ 55 ∷ 10
    ∷ 101 ∷ 110 ∷ 100 ∷ 32 ∷ 51 ∷ 10
    ∷ []

-- "prints the four lines `found 3`, `0`, `2`, `5`"
pub finds : printed whole ≡
    102 ∷ 111 ∷ 117 ∷ 110 ∷ 100 ∷ 32 ∷ 51 ∷ 10
    ∷ 48 ∷ 10
    ∷ 50 ∷ 10
    ∷ 53 ∷ 10
    ∷ []
unfolding printed reader.reading reader.accepted reader.delays_of faults.read_faults faults.late_faults faults.text_faults
    faults.lines_faults faults.line_faults faults.own_faults faults.title_faults faults.pair_faults faults.row_faults faults.last_faults
    faults.placed_at faults.first_part faults.second_part faults.is_pair faults.link_of faults.is_last faults.count_part faults.rows_of
    faults.end_of lines.next_line lines.begin lines.line_from lines.ended_from bytes.seek bytes.same begins decimal.is_other
    decimal.all_digits decimal.leading_zero decimal.is_decimal decimal.value_from first outside and_then link_faults least one_more
    planned row_faults room_faults exact_faults search.within search.outcome search.exactly
    builds.order builds.order_steps builds.behind builds.sequences builds.leads builds.all_good builds.is_whole builds.first_of
    count_in builds.counted builds.least_build ceilings.product ceilings.products ceilings.choices ceilings.ceiling_of
    ceilings.ceiling_up_to steps.placed from steps.besides steps.row_steps steps.steps after steps.offset_of steps.puts
    steps.in_the_way steps.good steps.put second start hits either meets uses found_lines offset_lines digits_in
finds = refl

-- "With the newline between 3 and 7 lost it prints `refused 9 16`."
pub refuses : printed damaged ≡ 114 ∷ 101 ∷ 102 ∷ 117 ∷ 115 ∷ 101 ∷ 100 ∷ 32 ∷ 57 ∷ 32 ∷ 49 ∷ 54 ∷ 10 ∷ []
unfolding printed reader.reading reader.accepted reader.delays_of faults.read_faults faults.late_faults faults.text_faults
    faults.lines_faults faults.line_faults faults.own_faults faults.title_faults faults.pair_faults faults.row_faults faults.last_faults
    faults.placed_at faults.first_part faults.second_part faults.is_pair faults.link_of faults.is_last faults.count_part faults.rows_of
    faults.end_of lines.next_line lines.begin lines.line_from lines.ended_from bytes.seek bytes.same begins decimal.is_other
    decimal.all_digits decimal.leading_zero decimal.is_decimal decimal.value_from first outside and_then link_faults least one_more
    refused_line digits_in
refuses = refl

-- whatever the function answers on the first, these 14 bytes stand in front of the buffer, and it answers 14
pub found_bytes : (old : List ℕ) (r : ℕ) (new : List ℕ) → Adds old 0 (printed whole) r new → (r ≡ 14) × (r ≤ length new)
found_bytes old r new a = (a.end ∙ ap (λ (xs : List ℕ). 0 + length xs) finds, printed_inside whole old r new a)

pub only_these : (old : List ℕ) (r s : ℕ) (new other : List ℕ) → Adds old 0 (printed damaged) r new → Adds old 0 (printed damaged) s other
    → (r ≡ s) × (new ≡ other)
only_these = no_second damaged
