-- Worked cases of the report, and each promise used once on one of them. Assumes nothing.
use mathlib.Core.Path.{◌≡◌, refl, sym, ◌∙◌}
use mathlib.Core.Bool.{true, false, cond, ◌&&◌}
use mathlib.Core.List.{List, [], ◌∷◌}
use Prim.Native.Nat.{ℕ, ◌+◌, ◌-◌, ◌*◌, ◌≤◌, ◌<◌}
use native.Mathlib.Omega.{arith}
use Rattle.ground.specs.Least.{least, one_more}
use Rattle.link.specs.Range.{GoodPlan}
use Rattle.ground.specs.Judging.{first, outside, and_then}
use Rattle.link.specs.Refusal.{link_faults, row_faults, offset_faults}
use Rattle.link.specs.Rows.{Crossing, one, second, start, hits, either, free, Clear, blocked}
use Rattle.link.specs.Slots.{uses, after, meets}
use Rattle.link.specs.declared.Link.{Link}
use Rattle.link.specs.declared.Crossing.TheVariants.{Second}
use Rattle.checker.specs.Judging.{clear_faults}
use Rattle.checker.specs.declared.Collision.{Collision}
use Rattle.std.specs.Prelude.{Some, Ok}
use Rattle.checker.proofs.Promises.{collision_is_first}
use Rattle.checker.proofs.Worked.{collides, not_clear}
use Rattle.ground.specs.Count.{count}
use Rattle.report.specs.Runs.{run_begins, run_begins_on_line, width, AllFrom, Run, Within, Longest, runs_below, runs, widest_of, total_of}
use Rattle.report.specs.Free.{used_of, free_of, is_free, stretch_of}
use Rattle.report.specs.Answer.{no_stretch, Answered, said, told, answer}
use Rattle.report.specs.declared.Stretch.{Stretch}
use Rattle.report.specs.declared.Reported.{Reported}
use Rattle.report.proofs.Promises.{of, not_clear_at, no_second, reports_exactly, not_clear_refused}
use Rattle.report.proofs.Promises.{counted, summed, left_over, stretches_counted, none_is_wider, one_is_as_wide, full}
use Rattle.report.proofs.Promises.{some_used, begins_exactly, room_exactly, in_one_stretch, one_stretch, wide_as_both}
use Rattle.report.proofs.Promises.{joined, turning}

abbrev link : ℕ → ℕ → Link
link p t = record { period = p; size = t }

abbrev three : ℕ → ℕ → ℕ → Stretch
three f s w = record { free = f; stretches = s; widest = w }

abbrev both : Stretch → Stretch → Reported
both a b = record { first = a; second = b }

-- what each answer is
pub record Table : Type 0 where
  -- "With period 5, size 2, one row at offset 1, each crossing has one stretch, width 3, for delay 0"
  pub both_ends : said (Ok (both (three 3 1 3) (three 3 1 3))) ≡ answer (link 5 2) (0 ∷ []) (1 ∷ [])
  -- "A single row with T = P still has none."
  pub filled : said (Ok (both no_stretch no_stretch)) ≡ answer (link 5 5) (3 ∷ []) (2 ∷ [])
  -- row 0 goes over the end of the period in the second crossing
  pub over_the_end : said (Ok (both (three 3 1 3) (three 3 2 2))) ≡ answer (link 7 2) (6 ∷ 1 ∷ []) (0 ∷ 2 ∷ [])
  -- in the first crossing the slots 9 and 0 are free, in the second one slot 0 alone
  pub ends_differ : said (Ok (both (three 6 2 5) (three 6 2 5))) ≡ answer (link 10 2) (0 ∷ 4 ∷ []) (1 ∷ 4 ∷ [])
  -- row 1 goes over the end of the period in crossing 2, and meets row 0 there
  pub end_meets_start : said (not_clear_at 1) ≡ answer (link 10 2) (0 ∷ 7 ∷ []) (0 ∷ 2 ∷ [])
  -- "First table, offsets 0 2 4: collision of rows 0 and 2 in crossing 2."
  pub not_clear : said (not_clear_at 2) ≡ answer (link 10 2) (0 ∷ 3 ∷ 7 ∷ []) (0 ∷ 2 ∷ 4 ∷ [])

pub table : Table
unfolding said answer told stretch_of free_of used_of widest_of runs_below width run_begins count
    clear_faults blocked free hits either start second uses meets least one_more
    first outside and_then link_faults row_faults offset_faults
table =
    record { both_ends = refl; filled = refl; over_the_end = refl; ends_differ = refl; end_meets_start = refl; not_clear = refl }

-- the promises at the first of them
abbrev free_3 : Stretch
free_3 = three 3 1 3

abbrev free_3s : Reported
free_3s = both free_3 free_3

abbrev ds : List ℕ
ds = 0 ∷ []

abbrev os : List ℕ
os = 1 ∷ []

pub is_clear : GoodPlan (link 5 2) ds os × Clear 5 2 ds os
is_clear = (reports_exactly (link 5 2) ds os (Ok free_3s) table.both_ends).0 (free_3s, refl)

module _ (c : Crossing) where
  pub three_counted : (of c free_3s).free ≡ count (is_free 5 2 ds os c) 5
  three_counted = counted (link 5 2) ds os (Ok free_3s) table.both_ends free_3s refl c

  pub adds_up : (of c free_3s).free ≡ total_of (runs (is_free 5 2 ds os c) 5)
  adds_up = summed (link 5 2) ds os (Ok free_3s) table.both_ends free_3s refl c

  pub five_less_two : (of c free_3s).free ≡ 5 - 1 * 2
  five_less_two = left_over (link 5 2) ds os (Ok free_3s) table.both_ends free_3s refl c

  pub some_slot_used : (u : ℕ) × (u < 5) × (is_free 5 2 ds os c u ≡ false)
  some_slot_used = some_used (link 5 2) ds os (Ok free_3s) table.both_ends free_3s refl c

  pub one_begins : (of c free_3s).stretches ≡ count (run_begins (is_free 5 2 ds os c) 5) 5
  one_begins = stretches_counted (link 5 2) ds os (Ok free_3s) table.both_ends free_3s refl c

pub three_wide : (s : Run) × Longest (is_free 5 2 ds os one) 5 s × (s.wide ≡ 3)
three_wide = one_is_as_wide (link 5 2) ds os (Ok free_3s) table.both_ends free_3s refl one (omega arith)

pub not_wider : three_wide.0.wide ≤ 3
not_wider = none_is_wider (link 5 2) ds os (Ok free_3s) table.both_ends free_3s refl one three_wide.0 three_wide.1

-- three slots in a row are free, and no four
pub room_for_3 : (s : ℕ) × (s < 5) × AllFrom (is_free 5 2 ds os one) 5 3 s
room_for_3 = (room_exactly (link 5 2) ds os (Ok free_3s) table.both_ends free_3s refl one 3 (omega arith)).1 (omega arith)

pub no_room_for_4 : (s : ℕ) → s < 5 → AllFrom (is_free 5 2 ds os one) 5 4 s → ⊥
no_room_for_4 s l f =
    let m = (room_exactly (link 5 2) ds os (Ok free_3s) table.both_ends free_3s refl one 4 (omega arith)).0 (s, l, f) in
    omega arith

-- a stretch is counted at its first slot
pub first_of_one : run_begins (is_free 5 2 ds os one) 5 three_wide.0.first ≡ true
first_of_one = (begins_exactly (link 5 2) ds os one three_wide.0.first three_wide.1.inside).1 (three_wide.0, three_wide.1, refl)

-- the stretch that slot 4 is in, and no other, has slot 0 too
pub at_the_end : (is_free 5 2 ds os one 4 ≡ true) × (is_free 5 2 ds os one 0 ≡ true)
unfolding free_of used_of start uses least one_more
at_the_end = (refl, refl)

pub with_slot_4 : (x : Run) × Longest (is_free 5 2 ds os one) 5 x × Within 5 4 x
    × ((y : Run) → Longest (is_free 5 2 ds os one) 5 y → Within 5 4 y → y ≡ x)
with_slot_4 = in_one_stretch (link 5 2) ds os (Ok free_3s) table.both_ends free_3s refl one 4 (omega arith) at_the_end.0

pub with_slot_0 : Within 5 0 with_slot_4.0
with_slot_0 = one_stretch (link 5 2) ds os one with_slot_4.0 with_slot_4.1 with_slot_4.2 at_the_end.1

pub two_and_one : with_slot_4.0.wide ≡ (5 - with_slot_4.0.first) + width (is_free 5 2 ds os one) 5 0
two_and_one = wide_as_both (link 5 2) ds os one with_slot_4.0 with_slot_4.1 with_slot_4.2

-- turned by three slots, the message goes over the period's end
pub turned : said (Ok free_3s) ≡ answer (link 5 2) ds (4 ∷ [])
unfolding after
turned = table.both_ends ∙ sym (turning (link 5 2) ds os is_clear.0 3)

-- and at others
pub one_joined : (c : Crossing) → (of c (both (three 6 2 5) (three 6 2 5))).stretches
    + cond (is_free 10 2 (0 ∷ 4 ∷ []) (1 ∷ 4 ∷ []) c 0 && is_free 10 2 (0 ∷ 4 ∷ []) (1 ∷ 4 ∷ []) c 9) 1 0
    ≡ count (run_begins_on_line (is_free 10 2 (0 ∷ 4 ∷ []) (1 ∷ 4 ∷ []) c)) 10
one_joined c = joined (link 10 2) (0 ∷ 4 ∷ []) (1 ∷ 4 ∷ []) (Ok (both (three 6 2 5) (three 6 2 5))) table.ends_differ _ refl c

pub none_left : (x : Reported) → said (Ok x) ≡ answer (link 5 5) (3 ∷ []) (2 ∷ []) → (c : Crossing) → of c x ≡ no_stretch
none_left x e c = full (link 5 5) (3 ∷ []) (2 ∷ []) (Ok x) e x refl refl c

abbrev rows_0_and_2 : Collision
rows_0_and_2 = record { earlier = 0; later = 2; crossing = Second }

-- "First table, offsets 0 2 4": not clear, so 18
in_range : GoodPlan (link 10 2) (0 ∷ 3 ∷ 7 ∷ []) (0 ∷ 2 ∷ 4 ∷ [])
in_range = (collision_is_first (link 10 2) (0 ∷ 3 ∷ 7 ∷ []) (0 ∷ 2 ∷ 4 ∷ []) (Ok (Some rows_0_and_2)) collides rows_0_and_2 refl).0

pub eighteen : (r : Answered) → said r ≡ answer (link 10 2) (0 ∷ 3 ∷ 7 ∷ []) (0 ∷ 2 ∷ 4 ∷ []) → (j : ℕ) × (r ≡ not_clear_at j)
eighteen r e =
    let w = not_clear_refused (link 10 2) (0 ∷ 3 ∷ 7 ∷ []) (0 ∷ 2 ∷ 4 ∷ []) r e in_range not_clear in
    (w.1, w.4)

-- and so it is turned by nine slots
pub turned_eighteen : said (not_clear_at 2) ≡ answer (link 10 2) (0 ∷ 3 ∷ 7 ∷ []) (9 ∷ 1 ∷ 3 ∷ [])
unfolding after
turned_eighteen = table.not_clear ∙ sym (turning (link 10 2) (0 ∷ 3 ∷ 7 ∷ []) (0 ∷ 2 ∷ 4 ∷ []) in_range 9)

pub only_report : (r : Answered) → said r ≡ answer (link 5 2) ds os → r ≡ Ok free_3s
only_report r e = no_second (link 5 2) ds os r (Ok free_3s) e table.both_ends
