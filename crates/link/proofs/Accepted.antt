-- The judging lets through exactly the values in range. Assumes nothing.
use mathlib.Core.Path.{◌≡◌, refl, sym, ap}
use mathlib.Core.Bool.{not}
use mathlib.Core.List.{List, []}
use Prim.Native.Nat.{ℕ, ◌≤◌, ◌<◌}
use lib.Dec.{ltb, leb, eqb}
use lib.ListN.{length, get_or}
use borrow.Author.Tests.{ltb-true, ltb-false, leb-false, eqb-true, not-false, le-ltb, lt-leb, eq-eqb}
use Rattle.ground.specs.Judging.{first, and_then, outside}
use Rattle.ground.specs.Least.{some}
use Rattle.ground.specs.Judging.{Fine, Fault}
use Rattle.ground.proofs.Minimum.{none_has, some_none}
use Rattle.ground.proofs.Faults.{fine, pass, passed, front_pass, front_fine, inside, within, all_numbers, number_of}
use Rattle.link.specs.Limits.{max_period, max_delay, max_rows, bad_period, bad_size, bad_delay, bad_rows, bad_length, bad_offset, no_offset}
use Rattle.link.specs.Refusal.{link_faults, row_faults, table_faults, offset_faults, plan_faults, room_faults, planner_faults}
use Rattle.link.specs.Range.{GoodTable, GoodPlan, InRange}
use Rattle.link.specs.Rows.{span_of}
use Rattle.link.specs.declared.Link.{Link}

module _ (k : Link) (ds : List ℕ) where
  pub good_table : first (table_faults k ds) ≡ Fine → GoodTable k ds
  unfolding link_faults row_faults
  good_table e =
      let w = front_fine (link_faults k) (row_faults ds) e in
      let a = passed (outside 1 max_period k.period) bad_period 0 _ w.0 in
      let b = passed (outside 1 k.period k.size) bad_size 0 _ a.1 in
      let c = passed (outside 1 max_rows (length ds)) bad_rows 0 _ w.1 in
      let d = passed (some (λ i. ltb max_delay (get_or ds i 0)) (length ds)) bad_delay _ _ c.1 in
      let p = within _ _ _ a.0 in
      let s = within _ _ _ b.0 in
      let r = within _ _ _ c.0 in
      record {
        period_low = p.0;
        period_high = p.1;
        span_low = s.0;
        span_high = s.1;
        rows_low = r.0;
        rows_high = r.1;
        delays = λ i l. ltb-false _ _ (none_has _ _ d.0 i l);
      }

  pub fine_table : GoodTable k ds → Fine ≡ first (table_faults k ds)
  unfolding link_faults row_faults
  fine_table g =
      front_pass _ _ Fine
      (sym (pass _ _ bad_period 0 (inside _ _ _ g.period_low g.period_high)
      (pass _ _ bad_size 0 (inside _ _ _ g.span_low g.span_high) fine)))
      (pass _ _ bad_rows 0 (inside _ _ _ g.rows_low g.rows_high)
      (pass _ _ bad_delay _ (some_none _ _ (λ i l. le-ltb _ _ (g.delays i l))) fine))

  -- a planner's lent list with room for so many
  pub good_room : (room : ℕ) → first (planner_faults k ds room) ≡ Fine → GoodTable k ds × (length ds ≤ room)
  unfolding room_faults
  good_room room e =
      let w = front_fine (table_faults k ds) _ e in
      (good_table w.0, ltb-false _ _ (passed (ltb room (length ds)) bad_length 0 [] w.1).0)

  pub fine_room : (room : ℕ) → GoodTable k ds → length ds ≤ room → Fine ≡ first (planner_faults k ds room)
  unfolding room_faults
  fine_room room g h = front_pass _ _ Fine (sym (fine_table g)) (pass _ _ bad_length 0 (le-ltb _ _ h) fine)

  -- the judging gives no number from 13 on
  pub planner_low : (room n p : ℕ) → first (planner_faults k ds room) ≡ Fault n p → n < no_offset
  unfolding link_faults row_faults room_faults and_then all_numbers
  planner_low room n p e = ltb-true n no_offset (number_of (λ m. ltb m no_offset) (planner_faults k ds room) n p refl e)

module _ (k : Link) (ds os : List ℕ) where
  pub good_plan : first (plan_faults k ds os) ≡ Fine → GoodPlan k ds os
  unfolding offset_faults
  good_plan e =
      let w = front_fine (table_faults k ds) (offset_faults k ds os) e in
      let a = passed (not (eqb (length os) (length ds))) bad_length 0 _ w.1 in
      let b = passed (some (λ i. leb k.period (get_or os i 0)) (length os)) bad_offset _ _ a.1 in
      record {
        table = good_table k ds w.0;
        as_many = eqb-true _ _ (not-false _ a.0);
        offsets = λ i l. leb-false _ _ (none_has _ _ b.0 i l);
      }

  pub fine_plan : GoodPlan k ds os → Fine ≡ first (plan_faults k ds os)
  unfolding offset_faults
  fine_plan g =
      front_pass _ _ Fine (sym (fine_table k ds g.table))
      (pass _ _ bad_length 0 (ap not (eq-eqb _ _ g.as_many))
      (pass _ _ bad_offset _ (some_none _ _ (λ i l. lt-leb _ _ (g.offsets i l))) fine))

  pub in_range : GoodPlan k ds os → InRange k.period (span_of k) ds os
  in_range g =
      record {
        some_period = g.table.period_low;
        span_high = g.table.span_high;
        rows_high = g.table.rows_high;
        as_many = g.as_many;
        offsets = g.offsets;
      }
