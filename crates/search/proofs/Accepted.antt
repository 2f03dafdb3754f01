-- The judging lets through exactly the tables in range, with room for their offsets and few enough rows. Assumes nothing.
use mathlib.Core.Path.{◌≡◌, refl, sym}
use mathlib.Core.List.{List, []}
use Prim.Native.Nat.{ℕ, ◌≤◌, ◌<◌}
use lib.Dec.{ltb, eqb}
use lib.ListN.{length}
use borrow.Author.Tests.{ltb-true, ltb-false, le-ltb, eqb-true}
use Rattle.ground.specs.Judging.{first, and_then}
use Rattle.ground.specs.Judging.{Fine, Fault}
use Rattle.ground.proofs.Faults.{fine, pass, passed, front_pass, front_fine, all_numbers, number_of as has_number}
use Rattle.link.specs.Limits.{no_offset}
use Rattle.link.specs.Range.{GoodTable}
use Rattle.link.specs.Refusal.{link_faults, row_faults, room_faults, planner_faults}
use Rattle.link.specs.declared.Link.{Link}
use Rattle.link.proofs.Accepted.{good_room, fine_room}
use Rattle.ground.specs.Refusals.{number_of}
use Rattle.ground.proofs.Refusals.{refusal_of}
use Rattle.search.specs.Limits.{max_exact_rows, too_many_rows}
use Rattle.search.specs.Refusal.{exact_faults}

pub record Accepted (k : Link) (ds : List ℕ) (places : ℕ) : Type 0 where
  pub table : GoodTable k ds
  pub room : length ds ≤ places
  pub few : length ds ≤ max_exact_rows

module _ (k : Link) (ds : List ℕ) (places : ℕ) where
  pub good_exact : first (exact_faults k ds places) ≡ Fine → Accepted k ds places
  unfolding exact_faults
  good_exact e =
      let w = front_fine (planner_faults k ds places) _ e in
      let g = good_room k ds places w.0 in
      let few = ltb-false _ _ (passed (ltb max_exact_rows (length ds)) too_many_rows 0 [] w.1).0 in
      record { table = g.0; room = g.1; few = few }

  pub fine_exact : Accepted k ds places → Fine ≡ first (exact_faults k ds places)
  unfolding exact_faults
  fine_exact g = front_pass _ _ Fine (sym (fine_room k ds places g.table g.room)) (pass _ _ too_many_rows 0 (le-ltb _ _ g.few) fine)

  -- the judging gives no number from 13 on
  pub judged_low : (n p : ℕ) → first (exact_faults k ds places) ≡ Fault n p → n < no_offset
  unfolding exact_faults link_faults row_faults room_faults and_then all_numbers
  judged_low n p e = ltb-true n no_offset (has_number (λ m. ltb m no_offset) (exact_faults k ds places) n p refl e)

  -- and each of its numbers is a refusal's
  pub named_first : (n p : ℕ) → first (exact_faults k ds places) ≡ Fault n p → number_of (refusal_of n) ≡ n
  unfolding exact_faults link_faults row_faults room_faults and_then all_numbers
  named_first n p e = eqb-true _ _ (has_number (λ m. eqb (number_of (refusal_of m)) m) (exact_faults k ds places) n p refl e)

-- two lists with room are judged alike
pub same_judging : (k : Link) (ds : List ℕ) (places places' : ℕ) → length ds ≤ places → length ds ≤ places'
    → first (exact_faults k ds places) ≡ first (exact_faults k ds places')
unfolding exact_faults room_faults
same_judging k ds places places' h g = rw (le-ltb places (length ds) h, le-ltb places' (length ds) g)
