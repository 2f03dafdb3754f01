-- What the checker promises. Assumes nothing.
use mathlib.Core.Path.{◌≡◌, refl, sym, ◌∙◌, ap}
use mathlib.Core.Bool.{not}
use mathlib.Core.Logic.{◌↔◌}
use mathlib.Core.List.{List}
use Prim.Native.Nat.{ℕ}
use borrow.Author.Tests.{not-false}
use Rattle.std.specs.Prelude.{Some, None, Ok, Err}
use Rattle.link.specs.Range.{GoodPlan}
use Rattle.link.specs.Starts.{crossing_number}
use Rattle.link.specs.declared.Crossing.{Crossing}
use Rattle.link.proofs.Columns.{crossing_of, crossing_again}
use Rattle.ground.proofs.Refusals.{refused, fault_again}
use Rattle.ground.specs.declared.Fault.{Fault}
use Rattle.ground.specs.Judging.{first}
use Rattle.link.specs.Refusal.{plan_faults}
use Rattle.link.specs.Rows.{span_of, Clear, blocked}
use Rattle.link.specs.declared.Link.{Link}
use Rattle.link.proofs.Accepted.{good_plan, fine_plan}
use Rattle.link.proofs.Clearness.{clear_in, clear_rows, rows_clear}
use Rattle.ground.specs.Judging.{Fine}
use Rattle.ground.proofs.Answers as answers
use Rattle.ground.proofs.Bools.{never}
use Rattle.checker.specs.Answer.{Said, Verdict, clear, collision, refusal, Checked, said, found, answer}
use Rattle.checker.specs.Judging.{clear_faults}
use Rattle.checker.specs.Order.{FirstCollision}
use Rattle.checker.specs.declared.Collision.{Collision}
use Rattle.checker.proofs.Naming.{named_clear}
use Rattle.checker.proofs.Collisions.{naming, clear_told, collision_told, refusal_told, first_collision}
use Rattle.checker.proofs.Judging.{fine_clear, clear_fine}

abbrev named_in : Said → Collision
named_in s = record { earlier = s.earlier; later = s.later; crossing = crossing_of s.crossing }

abbrev unsaid_as : Verdict → Said → Checked
unsaid_as clear s = Ok None
unsaid_as collision s = Ok (Some (named_in s))
unsaid_as refusal s = Err (refused s.number s.place)

abbrev unsaid : Said → Checked
unsaid s = unsaid_as s.verdict s

again : (r : Checked) → unsaid (said r) ≡ r
unfolding said found
again (Ok None) = refl
again (Ok (Some x)) =
    ap (λ (c : Crossing). Ok (Some (record { earlier = x.earlier; later = x.later; crossing = c }))) (crossing_again x.crossing)
again (Err f) = ap (λ (g : Fault). Err g) (fault_again f)

-- no second answer meets the contract
pub no_second : (k : Link) (ds os : List ℕ) (r s : Checked) → said r ≡ answer k ds os → said s ≡ answer k ds os → r ≡ s
no_second k ds os r s = answers.no_second said unsaid again

-- a plan that is to be clear is let through exactly then
pub let_through_exactly : (k : Link) (ds os : List ℕ)
    → (first (clear_faults k ds os) ≡ Fine) ↔ (GoodPlan k ds os × Clear k.period (span_of k) ds os)
let_through_exactly k ds os = (fine_clear k ds os, λ w. sym (clear_fine k ds os w.0 w.1))

module _ (k : Link) (ds os : List ℕ) (r : Checked) (e : said r ≡ answer k ds os) where
  -- "The checker says clear exactly when no two messages meet on either crossing"
  pub clear_exactly : (r ≡ Ok None) ↔ (GoodPlan k ds os × Clear k.period (span_of k) ds os)
  unfolding answer said found blocked
  clear_exactly = (there, back)
    where
      there : r ≡ Ok None → GoodPlan k ds os × Clear k.period (span_of k) ds os
      there c =
          let w = clear_told k.period (span_of k) ds os (first (plan_faults k ds os)) (naming k.period (span_of k) ds os)
          (sym (ap said c) ∙ e) in
          let g = good_plan k ds os w.0 in
          (g, clear_rows k.period (span_of k) ds os g.table.period_low (λ j l. not-false _ (w.1 j l)))

      back : GoodPlan k ds os × Clear k.period (span_of k) ds os → r ≡ Ok None
      back w =
          no_second k ds os r (Ok None) e
          (rw (← fine_plan k ds os w.0)
          (named_clear k.period (span_of k) ds os (λ j l. ap not (rows_clear k.period (span_of k) ds os w.1 j l))))

  -- "The collision named is the one with the least later row, then the least earlier row, then crossing 1 before 2."
  pub collision_is_first : (x : Collision) → r ≡ Ok (Some x)
      → GoodPlan k ds os × FirstCollision k.period (span_of k) ds os x.earlier x.later (crossing_number x.crossing)
  unfolding answer said found
  collision_is_first x c =
      let w = collision_told k.period (span_of k) ds os (first (plan_faults k ds os)) _ _ _ (naming k.period (span_of k) ds os)
      (sym (ap said c) ∙ e) in
      let g = good_plan k ds os w.0 in
      (g, first_collision k.period (span_of k) ds os _ _ _ w.1 g.table.period_low)

  -- a collision is answered exactly when the values are in range and the plan isn't clear
  pub collision_exactly : ((x : Collision) × (r ≡ Ok (Some x)))
      ↔ (GoodPlan k ds os × (Clear k.period (span_of k) ds os → ⊥))
  unfolding answer said found
  collision_exactly = (λ w. there (collision_is_first w.0 w.1), λ w. back r refl w.0 w.1)
    where
      there : {i j n : ℕ} → GoodPlan k ds os × FirstCollision k.period (span_of k) ds os i j n
          → GoodPlan k ds os × (Clear k.period (span_of k) ds os → ⊥)
      there {i} {j} (g, f) = (g, λ c. (clear_in c f.crossing).apart i j f.collides.earlier f.collides.later f.collides.meet)

      back : (s : Checked) → r ≡ s → GoodPlan k ds os → (Clear k.period (span_of k) ds os → ⊥) → (x : Collision) × (r ≡ Ok (Some x))
      back (Ok None) f g c = absurd (c (clear_exactly.0 f).1)
      back (Ok (Some x)) f g c = (x, f)
      back (Err z) f g c =
          let t = refusal_told k.period (span_of k) ds os (first (plan_faults k ds os)) _ _ (naming k.period (span_of k) ds os)
          (sym (ap said f) ∙ e) in
          never (cc (fine_plan k ds os g, t))
