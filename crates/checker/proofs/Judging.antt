-- A plan is let through exactly where its values are in range and it is clear; one that is not clear gets 18, at the later row of the
-- first collision; the checker's answer says the same; and turning the circle changes nothing. Assumes nothing.
use mathlib.Core.Path.{◌≡◌, refl, sym, ◌∙◌, ap}
use mathlib.Core.Bool.{not, true, false}
use mathlib.Core.List.{List, [], ◌∷◌}
use Prim.Native.Nat.{ℕ, ◌<◌}
use native.Mathlib.Omega.{arith}
use lib.Dec.{ltb}
use lib.ListN.{length}
use borrow.Author.Tests.{not-false}
use Rattle.ground.specs.Judging.{first, when, at_row}
use Rattle.ground.specs.Least.{least, some}
use Rattle.ground.specs.Judging.{Fine, Fault}
use Rattle.ground.proofs.Faults.{fine, hit_row, pass, passed, front_hit, front_pass, front_fine}
use Rattle.ground.proofs.Minimum.{least_at, least_cong, none_has, some_none}
use Rattle.link.specs.Limits.{not_clear}
use Rattle.link.specs.Range.{GoodPlan}
use Rattle.link.specs.Refusal.{plan_faults}
use Rattle.link.specs.Rows.{span_of, moved_on, Clear, blocked}
use Rattle.link.specs.declared.Link.{Link}
use Rattle.link.proofs.Accepted.{good_plan, fine_plan}
use Rattle.link.proofs.Clearness.{clear_rows, rows_clear}
use Rattle.link.proofs.Turning.{good_moved, free_moved}
use Rattle.std.specs.Prelude.{Some, None, Ok, Err}
use Rattle.link.specs.Starts.{crossing_number}
use Rattle.checker.specs.Answer.{Said, Checked, said, found, answer}
use Rattle.checker.specs.Judging.{clear_faults, judged_as}
use Rattle.checker.specs.Order.{FirstCollision}
use Rattle.checker.proofs.Naming.{hit}
use Rattle.checker.proofs.Collisions.{Naming, nobody, earliest, naming, clear_told, collision_told, refusal_told, first_collision}

module _ (k : Link) (ds os : List ℕ) where
  abbrev Blocked : ℕ → Type 0
  Blocked j = blocked k.period (span_of k) ds os j ≡ true

  abbrev Free : ℕ → Type 0
  Free j = blocked k.period (span_of k) ds os j ≡ false

  -- no fault of the values, and no row that meets an earlier one
  all_free : first (plan_faults k ds os) ≡ Fine → ((j : ℕ) → j < length ds → Free j) → Fine ≡ first (clear_faults k ds os)
  unfolding clear_faults
  all_free e f = front_pass _ _ Fine e (pass [] _ not_clear _ (some_none _ _ f) fine)

  -- no fault of the values, and the least row that does
  at_row_lem : (j : ℕ) → first (plan_faults k ds os) ≡ Fine → j < length ds → ((m : ℕ) → m < j → Free m) → Blocked j
      → Fault not_clear j ≡ first (clear_faults k ds os)
  unfolding clear_faults
  at_row_lem j e l b h =
      front_pass _ _ (Fault not_clear j) e (hit_row [] _ _ not_clear j (sym (least_at _ _ j (omega arith) b (λ _. h))) l)

  pub clear_fine : GoodPlan k ds os → Clear k.period (span_of k) ds os → Fine ≡ first (clear_faults k ds os)
  unfolding blocked
  clear_fine g c = all_free (sym (fine_plan k ds os g)) (λ j l. ap not (rows_clear _ _ _ _ c j l))

  free_clear : GoodPlan k ds os → ((j : ℕ) → j < length ds → Free j) → Clear k.period (span_of k) ds os
  unfolding blocked
  free_clear g f = clear_rows _ _ _ _ g.table.period_low (λ j l. not-false _ (f j l))

  pub fine_clear : first (clear_faults k ds os) ≡ Fine → GoodPlan k ds os × Clear k.period (span_of k) ds os
  unfolding clear_faults
  fine_clear e =
      let w = front_fine (plan_faults k ds os) _ e in
      let g = good_plan k ds os w.0 in
      let b = (passed (some (blocked k.period (span_of k) ds os) (length ds)) not_clear _ [] w.1).0 in
      (g, free_clear g (none_has (blocked k.period (span_of k) ds os) (length ds) b))

  -- the later row of the first collision
  pub record Unclear (j : ℕ) : Type 0 where
    pub earlier : ℕ
    pub crossing : ℕ
    pub first_one : FirstCollision k.period (span_of k) ds os earlier j crossing
    pub judged : first (clear_faults k ds os) ≡ Fault not_clear j

  pub unclear : GoodPlan k ds os → (Clear k.period (span_of k) ds os → ⊥) → (j : ℕ) × Unclear j
  unclear g n = go (naming k.period (span_of k) ds os)
    where
      go : {s : Said} → Naming k.period (span_of k) ds os s → (j : ℕ) × Unclear j
      go (nobody b) = absurd (n (free_clear g b))
      go (earliest i j c l b m) = (
        j,
        record {
          earlier = i;
          crossing = c;
          first_one = first_collision _ _ ds os i j c (record { row = l; before = b; met = m }) g.table.period_low;
          judged = sym (at_row_lem j (sym (fine_plan k ds os g)) l b (hit _ _ ds os j i c m));
        },
      )

  -- what the checker answers is judged so
  pub as_judged : (r : Checked) → said r ≡ answer k ds os → judged_as r ≡ first (clear_faults k ds os)
  unfolding said found answer clear_faults
  as_judged (Ok None) e =
      let w = clear_told k.period (span_of k) ds os (first (plan_faults k ds os)) (naming k.period (span_of k) ds os) e in
      all_free w.0 w.1
  as_judged (Ok (Some x)) e =
      let w = collision_told k.period (span_of k) ds os (first (plan_faults k ds os)) _ _ _ (naming k.period (span_of k) ds os) e in
      at_row_lem x.later w.0 w.1.row w.1.before (hit _ _ ds os x.later x.earlier (crossing_number x.crossing) w.1.met)
  as_judged (Err f) e =
      front_hit (plan_faults k ds os) _ _ _
      (refusal_told k.period (span_of k) ds os (first (plan_faults k ds os)) _ _ (naming k.period (span_of k) ds os) e)

-- of a plan in range only the rows are left to judge
judged_rows : (k : Link) (ds os : List ℕ) → GoodPlan k ds os
    → first (at_row (blocked k.period (span_of k) ds os) (length ds) not_clear ∷ []) ≡ first (clear_faults k ds os)
unfolding clear_faults
judged_rows k ds os g = front_pass (plan_faults k ds os) _ _ (sym (fine_plan k ds os g)) refl

least_moved : (k : Link) (ds os : List ℕ) (r : ℕ) → GoodPlan k ds os
    → least (blocked k.period (span_of k) ds (moved_on k.period r os)) (length ds)
    ≡ least (blocked k.period (span_of k) ds os) (length ds)
unfolding blocked
least_moved k ds os r g =
    least_cong _ _ (length ds)
    (λ j l. ap not (free_moved k.period r g.table.period_low ds os (span_of k) j (omega (arith, g.as_many))))

-- however the circle is turned, a plan in range is judged as before
pub judged_moved : (k : Link) (ds os : List ℕ) (r : ℕ) → GoodPlan k ds os
    → first (clear_faults k ds (moved_on k.period r os)) ≡ first (clear_faults k ds os)
judged_moved k ds os r g =
    sym (judged_rows k ds (moved_on k.period r os) (good_moved k ds os r g))
    ∙ ap (λ (j : ℕ). first (when (ltb j (length ds)) not_clear j ∷ [])) (least_moved k ds os r g) ∙ judged_rows k ds os g
