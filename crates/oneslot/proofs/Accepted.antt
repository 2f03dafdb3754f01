-- The judging lets through exactly the tables in range, with room and with messages of one slot. Assumes nothing.
use mathlib.Core.Path.{◌≡◌, refl, sym, ap}
use mathlib.Core.Bool.{not}
use mathlib.Core.List.{List, []}
use Prim.Native.Nat.{ℕ, ◌≤◌}
use native.Mathlib.Omega.{arith}
use lib.Dec.{eqb}
use lib.ListN.{length}
use borrow.Author.Tests.{not-true, not-false, eqb-true, eqb-false, eq-eqb, ne_eqb}
use Rattle.ground.specs.Judging.{first, and_then}
use Rattle.ground.specs.Judging.{Judged}
use Rattle.ground.specs.Judging.{Fine, Fault}
use Rattle.ground.proofs.Faults.{fine, hit, pass, passed, front_hit, front_pass, front_fine, all_numbers, number_of}
use Rattle.ground.proofs.Bools.{never}
use Rattle.link.specs.Limits.{no_offset}
use Rattle.link.specs.Range.{GoodTable}
use Rattle.link.specs.Refusal.{link_faults, row_faults, room_faults, planner_faults}
use Rattle.link.specs.declared.Link.{Link}
use Rattle.link.proofs.Accepted.{good_room, fine_room, planner_low}
use Rattle.oneslot.specs.Answer.{size_faults, faults}
use Rattle.oneslot.specs.Limits.{not_one_slot}

-- what is let through
pub record Good (k : Link) (ds : List ℕ) (room : ℕ) : Type 0 where
  pub table : GoodTable k ds
  pub enough : length ds ≤ room
  pub is_one_slot : k.size ≡ 1

module _ (k : Link) (ds : List ℕ) (room : ℕ) where
  pub good_one : first (faults k ds room) ≡ Fine → Good k ds room
  unfolding size_faults
  good_one e =
      let w = front_fine (planner_faults k ds room) _ e in
      let g = good_room k ds room w.0 in
      let s = (passed (not (eqb k.size 1)) not_one_slot 0 [] w.1).0 in
      record { table = g.0; enough = g.1; is_one_slot = eqb-true _ _ (not-false _ s) }

  pub fine_one : Good k ds room → Fine ≡ first (faults k ds room)
  unfolding size_faults
  fine_one g =
      front_pass _ _ Fine (sym (fine_room k ds room g.table g.enough))
      (pass _ _ not_one_slot 0 (ap not (eq-eqb _ _ g.is_one_slot)) fine)

  -- a size that isn't 1 is the last fault
  pub size_fault : GoodTable k ds → length ds ≤ room → (k.size ≡ 1 → ⊥) → Fault not_one_slot 0 ≡ first (faults k ds room)
  unfolding size_faults
  size_fault g h n =
      front_pass _ _ (Fault not_one_slot 0) (sym (fine_room k ds room g h)) (hit [] _ not_one_slot 0 (ap not (ne_eqb _ _ n)))

  -- and is given for nothing else
  size_only : (p : ℕ) → first (faults k ds room) ≡ Fault not_one_slot p → (j : Judged) → first (planner_faults k ds room) ≡ j
      → GoodTable k ds × (length ds ≤ room) × (k.size ≡ 1 → ⊥)
  size_only p e Fine f =
      let g = good_room k ds room f in
      (g.0, g.1, λ s. never (cc (fine_one (record { table = g.0; enough = g.1; is_one_slot = s }))))
  size_only p e (Fault n q) f =
      let same : n ≡ not_one_slot = cc (front_hit (planner_faults k ds room) (size_faults k) n q f) in
      absurd (omega (arith, planner_low k ds room n q f))

  pub fault_of_size : (p : ℕ) → first (faults k ds room) ≡ Fault not_one_slot p → GoodTable k ds × (length ds ≤ room) × (k.size ≡ 1 → ⊥)
  fault_of_size p e = size_only p e (first (planner_faults k ds room)) refl

  -- the judging does not give 13
  pub no_thirteen : (n p : ℕ) → first (faults k ds room) ≡ Fault n p → n ≡ no_offset → ⊥
  unfolding link_faults row_faults room_faults size_faults and_then all_numbers
  no_thirteen n p e = eqb-false n no_offset (not-true _ (number_of (λ m. not (eqb m no_offset)) (faults k ds room) n p refl e))
