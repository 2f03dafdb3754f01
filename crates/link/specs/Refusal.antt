-- Refusals of calls on values: the faults that every call shares, in document 01's order.
use Rattle.std.specs.Prelude.{not, List, [], ◌∷◌, ℕ, ltb, leb, eqb, length, get_or}
use Rattle.ground.specs.Judging.{Cause, when, at_row, and_then, outside}
use Rattle.link.specs.Limits.{max_period, max_delay, max_rows, bad_period, bad_size, bad_delay, bad_rows, bad_length, bad_offset}
use Rattle.link.specs.declared.Link.{Link}

-- "judge 5, 6, 8, 7 (least row), 11, 12, then 17 (least row)": 12 is the exact planner's own
unfoldable pub link_faults : Link → List Cause
link_faults k =
    when (outside 1 max_period k.period) bad_period 0
    ∷ when (outside 1 k.period k.size) bad_size 0
    ∷ []

unfoldable pub row_faults : List ℕ → List Cause
row_faults ds =
    when (outside 1 max_rows (length ds)) bad_rows 0
    ∷ at_row (λ i. ltb max_delay (get_or ds i 0)) (length ds) bad_delay
    ∷ []

-- every call on values begins so: 5, 6, 8, 7
abbrev pub table_faults : Link → List ℕ → List Cause
table_faults k ds = and_then (link_faults k) (row_faults ds)

-- a planner's lent list of that many places: "11 lent buffer too short"
unfoldable pub room_faults : List ℕ → ℕ → List Cause
room_faults ds room = when (ltb room (length ds)) bad_length 0 ∷ []

abbrev pub planner_faults : Link → List ℕ → ℕ → List Cause
planner_faults k ds room = and_then (table_faults k ds) (room_faults ds room)

-- lent offsets: "11 .. not as many offsets as rows", "17 offset at or above P"
unfoldable pub offset_faults : Link → List ℕ → List ℕ → List Cause
offset_faults k ds os =
    when (not (eqb (length os) (length ds))) bad_length 0
    ∷ at_row (λ i. leb k.period (get_or os i 0)) (length os) bad_offset
    ∷ []

abbrev pub plan_faults : Link → List ℕ → List ℕ → List Cause
plan_faults k ds os = and_then (table_faults k ds) (offset_faults k ds os)
