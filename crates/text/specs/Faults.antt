-- The faults of a text x in document 01's order. "Then lines are judged from the start, the first fault deciding."
use Rattle.std.specs.Prelude.{Bool, not, cond, ◌&&◌, List, [], ◌∷◌, map, ℕ, zero, suc, ltb, leb, eqb, length, take, drop}
use Rattle.ground.specs.Least.{least}
use Rattle.ground.specs.Words.{begins}
use Rattle.ground.specs.Judging.{Cause, when, and_then}
use Rattle.link.specs.Limits.{max_delay, max_rows, bad_delay, bad_rows, bad_length}
use Rattle.link.specs.Refusal.{link_faults}
use Rattle.link.specs.declared.Link.{Link}
use Rattle.text.specs.Limits.{max_text, long_text, bad_line_one, cut_line, bad_line, bad_count, bytes_after}
use Rattle.text.specs.Bytes.{space, seek, same, title_word, end_word}
use Rattle.text.specs.Decimal.{is_decimal, value}
use Rattle.text.specs.Lines.{begin, line, ended}

-- "period, one space, size": what stands before the first space of a line, and behind it
unfoldable pub first_part : List ℕ → List ℕ
first_part l = take (seek space l) l

unfoldable pub second_part : List ℕ → List ℕ
second_part l = drop (suc (seek space l)) l

-- both are numbers, so there is one space and nothing else
unfoldable pub is_pair : List ℕ → Bool
is_pair l = is_decimal (first_part l) && is_decimal (second_part l)

-- the link of line two
unfoldable pub link_of : List ℕ → Link
link_of l = record { period = value (first_part l); size = value (second_part l) }

-- "A line that begins with `end` and a space"
unfoldable pub is_last : List ℕ → Bool
is_last l = begins end_word l

-- and the bytes of its number
unfoldable pub count_part : List ℕ → List ℕ
count_part l = drop (length end_word) l

-- "The place is the first byte of the line at fault"
unfoldable pub placed_at : ℕ → List Cause → List Cause
placed_at at = map (λ c. when c.applies c.number at)

-- "Line one: 2."
unfoldable pub title_faults : List ℕ → ℕ → List Cause
title_faults l at = when (not (same title_word l)) bad_line_one at ∷ []

-- "Line two: 4, then 5, then 6." 5 and 6 are those of every table.
unfoldable pub pair_faults : List ℕ → ℕ → List Cause
pair_faults l at = when (not (is_pair l)) bad_line at ∷ placed_at at (link_faults (link_of l))

-- "Any other line: 4, then 7, then 8 if 64 rows came already." n rows came.
unfoldable pub row_faults : ℕ → List ℕ → ℕ → List Cause
row_faults n l at =
    when (not (is_decimal l)) bad_line at
    ∷ when (ltb max_delay (value l)) bad_delay at
    ∷ when (leb max_rows n) bad_rows at
    ∷ []

-- "A line that begins with `end` and a space: 4, then 8 if no row came, then 9"
unfoldable pub last_faults : ℕ → List ℕ → ℕ → List Cause
last_faults n l at =
    when (not (is_decimal (count_part l))) bad_line at
    ∷ when (eqb n 0) bad_rows at
    ∷ when (not (eqb (value (count_part l)) n)) bad_count at
    ∷ []

-- the faults of line k by itself: its bytes are l, and the first is at `at`
unfoldable pub own_faults : ℕ → List ℕ → ℕ → List Cause
own_faults zero l at = title_faults l at
own_faults (suc zero) l at = pair_faults l at
own_faults (suc (suc n)) l at = cond (is_last l) (last_faults n l at) (row_faults n l at)

-- "Each line: if no byte 10 remains, 3"
unfoldable pub line_faults : List ℕ → ℕ → List Cause
line_faults x k = when (not (ended x k)) cut_line (begin x k) ∷ own_faults k (line x k) (begin x k)

-- the first k lines, from the start
unfoldable pub lines_faults : List ℕ → ℕ → List Cause
lines_faults x zero = []
lines_faults x (suc k) = and_then (lines_faults x k) (line_faults x k)

-- the number of rows: the lines behind line two, up to the first that begins with `end` and a space; a 65th row is refused, so no more
-- are counted
unfoldable pub rows_of : List ℕ → ℕ
rows_of x = least (λ i. is_last (line x (suc (suc i)))) (suc max_rows)

-- all lines, the last one included, and the byte behind them
unfoldable pub text_faults : List ℕ → List Cause
text_faults x = lines_faults x (suc (suc (suc (rows_of x))))

unfoldable pub end_of : List ℕ → ℕ
end_of x = begin x (suc (suc (suc (rows_of x))))

-- ".. then 10 if bytes follow", "Last of all, 11."
unfoldable pub late_faults : List ℕ → ℕ → List Cause
late_faults x room = when (ltb (end_of x) (length x)) bytes_after (end_of x) ∷ when (ltb room (rows_of x)) bad_length 0 ∷ []

-- "A text above 1,024 bytes is refused with 1."
unfoldable pub read_faults : List ℕ → ℕ → List Cause
read_faults x room = when (ltb max_text (length x)) long_text 0 ∷ and_then (text_faults x) (late_faults x room)
