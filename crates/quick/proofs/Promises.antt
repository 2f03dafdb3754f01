-- What the quick planners promise, of the planner over any step and count; proofs/FirstFit says it of First Fit by name.
-- Assumes nothing.
use mathlib.Core.Path.{◌≡◌, refl, sym, ap, ◌∙◌}
use mathlib.Core.Bool.{Bool}
use mathlib.Core.Logic.{◌↔◌}
use mathlib.Core.List.{List}
use Prim.Native.Nat.{ℕ, ◌≤◌, ◌<◌}
use native.Mathlib.Omega.{arith}
use lib.ListN.{length}
use Rattle.std.specs.Prelude.{Ok, Err, Option, Some, None}
use Rattle.ground.specs.declared.Fault.{Fault}
use Rattle.ground.specs.Judging.{first}
use Rattle.ground.specs.Least.{least}
use Rattle.ground.specs.Lent.{on_front}
use Rattle.ground.specs.Protocol.{Outcome, gives, keeping}
use Rattle.ground.specs.Judging.{Fine}
use Rattle.ground.proofs.Answers.{Told, stopped, through, told, let_through, goes_on, no_second_outcome}
use Rattle.ground.proofs.Bools.{clash, never}
use Rattle.ground.proofs.Refusals.{refused, fault_again}
use Rattle.link.specs.Limits.{no_offset}
use Rattle.link.specs.Range.{GoodTable}
use Rattle.link.specs.Refusal.{planner_faults}
use Rattle.link.specs.Rows.{span_of, free, Clear}
use Rattle.link.specs.declared.Link.{Link}
use Rattle.link.proofs.Accepted.{good_room, fine_room, planner_low}
use Rattle.link.proofs.Clearness.{clear_rows}
use Rattle.quick.specs.Ways.{FirstOpen}
use Rattle.quick.specs.Plan.{free_at, Progress, rows, stuck, all_placed}
use Rattle.quick.specs.Right.{Placed, GivenPlan, NoOffset}
use Rattle.quick.specs.Answer.{Planned, planned, thirteen, Verdict, plan, refusal, Said, planning, refusing, said, outcome, quick}
use Rattle.quick.proofs.Sound.{Says, all, some_row, says, all_is, stuck_is}

abbrev pub unsaid_as : Verdict → Said → Planned
unsaid_as plan s = planned
unsaid_as refusal s = Err (refused s.number s.place)

abbrev pub unsaid : Said → Planned
unsaid s = unsaid_as s.verdict s

pub again : (r : Planned) → unsaid (said r) ≡ r
unfolding said
again (Ok u) = refl
again (Err f) = ap (λ (x : Fault). Err x) (fault_again f)

-- no second candidate, and not one and none
pub no_second_open : (q : ℕ → Bool) (from count : ℕ) (r s : Option ℕ) → FirstOpen q from count r → FirstOpen q from count s → r ≡ s
no_second_open q from count (Some c) (Some d) w v = ap Some (w.0 ∙ sym v.0)
no_second_open q from count (Some c) None w v = absurd (omega (arith, w.0, w.1, v))
no_second_open q from count None (Some d) w v = absurd (omega (arith, v.0, v.1, w))
no_second_open q from count None None w v = refl

-- no second answer, and no second content of the list, meets the contract
pub no_second : (k : Link) (ds old : List ℕ) (step count : ℕ) (r s : Planned) (new other : List ℕ)
    → gives (said r) new ≡ quick k ds old step count → gives (said s) other ≡ quick k ds old step count → (r ≡ s) × (new ≡ other)
no_second k ds old step count r s new other = no_second_outcome said unsaid again

abbrev Answer : Type 0
Answer = Outcome Said (List ℕ)

abbrev verdict : Answer → Verdict
verdict o = o.says.verdict

-- rows placed right are clear
pub right_clear : (p l : ℕ) (ds : List ℕ) (step count : ℕ) (os : List ℕ) → 0 < p → Placed p l ds step count (length ds) os → Clear p l ds os
unfolding free_at
right_clear p l ds step count os h w = clear_rows p l ds os h (λ j q. let f = w.each j q in rw f.1 f.2.is_free)

module _ (k : Link) (ds old : List ℕ) (step count : ℕ) where
  -- what is left to say of a table that is let through
  answers : first (planner_faults k ds (length old)) ≡ Fine → {x : Answer} {o : Progress}
      → all_placed k.period (span_of k) ds step count ≡ o
      → x ≡ outcome o old → x ≡ quick k ds old step count
  unfolding quick
  answers e f g = goes_on (keeping refusing old) e (rw f g)

  module _ (r : Planned) (new : List ℕ) (e : gives (said r) new ≡ quick k ds old step count) where
    -- rows placed right, in a table in range with room for their offsets, are the plan
    pub right_plan : GoodTable k ds → length ds ≤ length old → (os : List ℕ) → Placed k.period (span_of k) ds step count (length ds) os
        → r ≡ planned
    unfolding outcome said
    right_plan g h os w =
        (no_second k ds old step count r planned new (on_front os old) e
        (answers (sym (fine_room k ds (length old) g h)) (all_is k.period (span_of k) ds step count os (length ds) w) refl)).0

    -- a plan is given exactly when each row has its least free one of the planner's offsets; they are clear, and stand in the list
    pub plan_is_right : (r ≡ planned) ↔ GivenPlan k ds old step count new
    unfolding quick outcome said
    plan_is_right = (there, λ w. right_plan w.table w.room w.offsets w.right)
      where
        there : r ≡ planned → GivenPlan k ds old step count new
        there c =
            let w = let_through (keeping refusing old) (first (planner_faults k ds (length old))) (λ n q h. never (cc (ap verdict h)))
            (ap (λ (x : Planned). gives (said x) new) (sym c) ∙ e) in
            let good = good_room k ds (length old) w.0 in
            go good (says k.period (span_of k) ds step count (length ds)) w.1
          where
            go : GoodTable k ds × (length ds ≤ length old) → {o : Progress} → Says k.period (span_of k) ds step count (length ds) o
                → gives planning new ≡ outcome o old → GivenPlan k ds old step count new
            go good (some_row j h s) g = never (cc (ap verdict g))
            go good (all os w) g =
                record {
                  table = good.0;
                  room = good.1;
                  offsets = os;
                  right = w;
                  written = ap (λ (x : Answer). x.leaves) g;
                  clear = right_clear k.period (span_of k) ds step count os good.0.period_low w;
                }

    -- 13 at row j exactly when the rows before have their least free offsets and row j has none
    pub thirteen_exactly : (j : ℕ) → (r ≡ thirteen j) ↔ NoOffset k ds old step count j
    unfolding quick outcome said
    thirteen_exactly j = (λ c. there (told (keeping refusing old) _ (ap (λ (x : Planned). gives (said x) new) (sym c) ∙ e)), back)
      where
        row : {o : Progress} → GoodTable k ds × (length ds ≤ length old) → Says k.period (span_of k) ds step count (length ds) o
            → gives (refusing no_offset j) new ≡ outcome o old → NoOffset k ds old step count j
        row good (all os w) g = never (cc (ap verdict g))
        row good (some_row i h s) g =
            let same : j ≡ i = ap (λ (x : Answer). x.says.place) g in
            rw same (record { table = good.0; room = good.1; row = h; stuck = s })

        there : Told (keeping refusing old) (first (planner_faults k ds (length old)))
            (outcome (all_placed k.period (span_of k) ds step count) old) (gives (refusing no_offset j) new)
            → NoOffset k ds old step count j
        there (stopped n p f g) =
            let m : no_offset ≡ n = ap (λ (x : Answer). x.says.number) g in
            absurd (omega (arith, planner_low k ds (length old) n p f))
        there (through f g) = row (good_room k ds (length old) f) (says k.period (span_of k) ds step count (length ds)) g

        back : NoOffset k ds old step count j → r ≡ thirteen j
        back w =
            (no_second k ds old step count r (thirteen j) new old e
            (answers (sym (fine_room k ds (length old) w.table w.room))
            (stuck_is k.period (span_of k) ds step count j (length ds) w.row w.stuck) refl)).0

    -- row 0 is never refused
    pub row_0_has_one : 0 < count → r ≡ thirteen 0 → ⊥
    unfolding free_at free least
    row_0_has_one h c = clash refl (((thirteen_exactly 0).0 c).stuck.none 0 h)

    -- "Every refusal .. leaves all output buffers with the bytes and numbers they had."
    pub refusal_keeps : (f : Fault) → r ≡ Err f → new ≡ old
    unfolding quick outcome said
    refusal_keeps f c = go (told (keeping refusing old) _ (ap (λ (x : Planned). gives (said x) new) (sym c) ∙ e))
      where
        row : (o : Progress) → gives (said (Err f)) new ≡ outcome o old → new ≡ old
        row (stuck j) g = ap (λ (x : Answer). x.leaves) g
        row (rows os) g = never (cc (ap verdict g))

        go : Told (keeping refusing old) (first (planner_faults k ds (length old)))
            (outcome (all_placed k.period (span_of k) ds step count) old) (gives (said (Err f)) new) → new ≡ old
        go (stopped m p h g) = ap (λ (x : Answer). x.leaves) g
        go (through f g) = row (all_placed k.period (span_of k) ds step count) g
