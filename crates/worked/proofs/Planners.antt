-- What another planner's answer says of the exact planner's: its plan means that "none" is never said, and its 13 means nothing.
-- Assumes nothing.
use mathlib.Core.Path.{◌≡◌, refl}
use mathlib.Core.List.{List, [], ◌∷◌}
use Prim.Native.Nat.{ℕ, ◌/◌, ◌<◌}
use native.Mathlib.Omega.{arith}
use lib.ListN.{length, get_or}
use Rattle.std.specs.Prelude.{Ok}
use Rattle.link.specs.Range.{GoodTable}
use Rattle.link.specs.Rows.{span_of}
use Rattle.link.specs.declared.Link.{Link}
use Rattle.ground.specs.Protocol.{gives}
use Rattle.quick.specs.Answer.{said, planned, quick}
use Rattle.quick.specs.Loads.{LightLoad}
use Rattle.quick.specs.Right.{Placed}
use Rattle.quick.specs.Ways.{Ways}
use Rattle.quick.proofs.Candidates.{candidate_low}
use Rattle.quick.proofs.Entries.{each_offset, multiples}
use Rattle.quick.proofs.LightLoads.{light_has_a_plan}
use Rattle.quick.proofs.Promises.{plan_is_right, right_clear}
use Rattle.quick.proofs.Worked.{link, ds₁, old, plan₁, fits, right, multiples as by_multiples}
use Rattle.oneslot.specs.Answer.{one_slot}
use Rattle.oneslot.proofs.Promises.{plan_is_right as one_slot_right}
use Rattle.oneslot.proofs.Worked.{let_in}
use Rattle.search.specs.Answer.{Answers, ClearChoice}
use Rattle.search.specs.declared.Answer.TheVariants.{Nothing}
use Rattle.search.proofs.Promises.{clear_plan_never_none}

module _ (k : Link) (ds : List ℕ) (g : GoodTable k ds) (step count : ℕ) (w : Ways k.period (span_of k) step count) (os : List ℕ)
    (right : Placed k.period (span_of k) ds step count (length ds) os) where
  choice : ClearChoice k ds os
  choice =
      let clear = right_clear k.period (span_of k) ds step count os g.period_low right in
      record { as_many = right.as_many; inside = inside; clear = clear }
    where
      inside : (i : ℕ) → i < length ds → get_or os i 0 < k.period
      inside i h =
          let e = right.each i h in
          omega (arith, e.1, candidate_low _ _ step count w e.0 e.2.candidate)

  never_none : (budget : ℕ) (list : List ℕ) (t : ℕ) (left : List ℕ) → Answers k ds budget list (Ok (Nothing t)) left → ⊥
  never_none = clear_plan_never_none k ds os choice

module _ (k : Link) (ds old new : List ℕ) where
  -- where First Fit has a plan the exact planner never says "none", at any budget; and so for Meta-Offset
  pub first_fit_never_none : gives (said planned) new ≡ quick k ds old 1 k.period → (budget : ℕ) (list : List ℕ) (t : ℕ) (left : List ℕ)
      → Answers k ds budget list (Ok (Nothing t)) left → ⊥
  first_fit_never_none e =
      let g = (plan_is_right k ds old 1 k.period planned new e).0 refl in
      never_none k ds g.table 1 k.period (each_offset k ds g.table) g.offsets g.right

  pub meta_offset_never_none : gives (said planned) new ≡ quick k ds old (span_of k) (k.period / span_of k)
      → (budget : ℕ) (list : List ℕ) (t : ℕ) (left : List ℕ) → Answers k ds budget list (Ok (Nothing t)) left → ⊥
  meta_offset_never_none e =
      let g = (plan_is_right k ds old (span_of k) (k.period / span_of k) planned new e).0 refl in
      never_none k ds g.table (span_of k) (k.period / span_of k) (multiples k ds g.table) g.offsets g.right

  -- and for the planner of one-slot messages
  pub one_slot_never_none : gives (said planned) new ≡ one_slot k ds old → (budget : ℕ) (list : List ℕ) (t : ℕ) (left : List ℕ)
      → Answers k ds budget list (Ok (Nothing t)) left → ⊥
  one_slot_never_none e =
      let g = (one_slot_right k ds old planned new e).0 refl in
      clear_plan_never_none k ds g.offsets (record { as_many = g.as_many; inside = g.inside; clear = g.clear })

-- nor is it ever said of a light load
pub light_never_none : (k : Link) (ds : List ℕ) → GoodTable k ds → LightLoad k ds
    → (budget : ℕ) (list : List ℕ) (t : ℕ) (left : List ℕ) → Answers k ds budget list (Ok (Nothing t)) left → ⊥
light_never_none k ds g h =
    let w = light_has_a_plan k ds g h in
    never_none k ds g (span_of k) (k.period / span_of k) (multiples k ds g) w.0 w.1

-- used on document 01's tables: "none" is never said of 5, 2, (0 4), where First Fit has a plan, nor of the first table, where
-- Meta-Offset has one, nor of 4, 1, (0 2 1 1), where a move makes one; nor of the first table with period 14, which is seven multiples
module _ (budget : ℕ) (list : List ℕ) (t : ℕ) (left : List ℕ) where
  pub fits_never_none : Answers (link 5 2) (0 ∷ 4 ∷ []) budget list (Ok (Nothing t)) left → ⊥
  fits_never_none = first_fit_never_none (link 5 2) (0 ∷ 4 ∷ []) old (0 ∷ 3 ∷ 9 ∷ 9 ∷ []) fits budget list t left

  pub multiples_never_none : Answers (link 10 2) ds₁ budget list (Ok (Nothing t)) left → ⊥
  multiples_never_none = meta_offset_never_none (link 10 2) ds₁ old plan₁ by_multiples budget list t left

  pub move_never_none : Answers (link 4 1) (0 ∷ 2 ∷ 1 ∷ 1 ∷ []) budget list (Ok (Nothing t)) left → ⊥
  move_never_none =
      one_slot_never_none (link 4 1) (0 ∷ 2 ∷ 1 ∷ 1 ∷ []) (9 ∷ 9 ∷ 9 ∷ 9 ∷ 9 ∷ []) (2 ∷ 1 ∷ 0 ∷ 3 ∷ 9 ∷ []) let_in budget list t left

  pub light_table_never_none : Answers (link 14 2) ds₁ budget list (Ok (Nothing t)) left → ⊥
  light_table_never_none = light_never_none (link 14 2) ds₁ good (omega arith) budget list t left
    where
      good : GoodTable (link 14 2) ds₁
      good =
          record {
            period_low = omega arith;
            period_high = omega arith;
            span_low = omega arith;
            span_high = omega arith;
            rows_low = omega arith;
            rows_high = omega arith;
            delays = right.table.delays;
          }
