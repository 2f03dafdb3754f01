-- What the planner of one-slot messages promises. Assumes nothing.
use mathlib.Core.Path.{◌≡◌, refl, sym, ap, ◌∙◌, subst}
use mathlib.Core.Logic.{◌↔◌}
use mathlib.Core.List.{List}
use Prim.Native.Nat.{ℕ, ◌≤◌, ◌<◌}
use native.Mathlib.Omega.{arith}
use lib.ListN.{length, take}
use lib.Seq.{take-length}
use Rattle.std.specs.Prelude.{Err}
use Rattle.ground.specs.declared.Fault.{Fault as Refused}
use Rattle.ground.specs.Judging.{first}
use Rattle.ground.specs.Lent.{on_front}
use Rattle.ground.specs.Protocol.{Outcome, gives, keeping}
use Rattle.ground.specs.Judging.{Fault}
use Rattle.ground.proofs.Answers.{Told, stopped, through, told, refused, goes_on, no_second_outcome}
use Rattle.ground.proofs.Bools.{never}
use Rattle.link.specs.Limits.{no_offset}
use Rattle.link.specs.Range.{GoodTable}
use Rattle.link.specs.Rows.{span_of, Clear}
use Rattle.link.specs.declared.Link.{Link}
use Rattle.quick.specs.Answer.{Planned, planned, thirteen, Verdict, Said, planning, refusing, said, outcome}
use Rattle.quick.specs.Plan.{Progress, rows}
use Rattle.quick.proofs.Promises.{unsaid, again}
use Rattle.oneslot.specs.Answer.{size_refused, faults, one_slot}
use Rattle.oneslot.specs.Limits.{not_one_slot}
use Rattle.oneslot.specs.Plan.{settled, all_settled}
use Rattle.oneslot.specs.Right.{Reached, NoWay, GivenPlan, NotLetIn}
use Rattle.oneslot.proofs.Accepted.{Good, good_one, fine_one, size_fault, fault_of_size, no_thirteen}
use Rattle.oneslot.proofs.Sound.{Says, all, some_row, says, reached_is, stuck_is, reached_clear, reached_low}

-- no second answer, and no second content of the list, meets the contract
pub no_second : (k : Link) (ds old : List ℕ) (r s : Planned) (new other : List ℕ)
    → gives (said r) new ≡ one_slot k ds old → gives (said s) other ≡ one_slot k ds old → (r ≡ s) × (new ≡ other)
no_second k ds old r s new other = no_second_outcome said unsaid again

abbrev Answer : Type 0
Answer = Outcome Said (List ℕ)

abbrev verdict : Answer → Verdict
verdict o = o.says.verdict

abbrev number : Answer → ℕ
number o = o.says.number

abbrev list : Answer → List ℕ
list o = o.leaves

module _ (k : Link) (ds old : List ℕ) where
  -- what is left to say of a table that is let through
  pub answers : Good k ds (length old) → {x : Answer} {o : Progress} → all_settled k.period (span_of k) ds ≡ o → x ≡ outcome o old
      → x ≡ one_slot k ds old
  unfolding one_slot
  answers w f g = goes_on (keeping refusing old) (sym (fine_one k ds (length old) w)) (rw f g)

  -- rows that came in right, all of them, are clear
  right_clear : 0 < k.period → (os : List ℕ) → length os ≡ length ds → Reached k.period (span_of k) ds os
      → Clear k.period (span_of k) ds os
  right_clear h os n s =
      subst (λ (xs : List ℕ). Clear k.period (span_of k) xs os) (ap (λ (m : ℕ). take m ds) n ∙ take-length ds)
      (reached_clear k.period (span_of k) ds h s (omega arith))

  module _ (r : Planned) (new : List ℕ) (e : gives (said r) new ≡ one_slot k ds old) where
    -- rows that came in right, in a table that is let through, are the plan
    right_plan : Good k ds (length old) → (os : List ℕ) → length os ≡ length ds → Reached k.period (span_of k) ds os
        → (r ≡ planned) × (new ≡ on_front os old)
    unfolding outcome said
    right_plan w os n s =
        let whole = reached_is k.period (span_of k) ds w.table.period_low os s (omega arith) in
        no_second k ds old r planned new (on_front os old) e
        (answers w (subst (λ (m : ℕ). settled k.period (span_of k) ds m ≡ rows os) n whole) refl)

    -- the three ways to an answer s: a fault, a plan, and 13
    data Heard (s : Planned) : Type 0 where
      fault : (n p : ℕ) → first (faults k ds (length old)) ≡ Fault n p → gives (said s) new ≡ keeping refusing old n p → Heard s
      all_in : Good k ds (length old) → (os : List ℕ) → length os ≡ length ds → Reached k.period (span_of k) ds os
          → gives (said s) new ≡ gives planning (on_front os old) → Heard s
      one_not : Good k ds (length old) → (j : ℕ) → j < length ds → NoWay k.period (span_of k) ds j
          → gives (said s) new ≡ keeping refusing old no_offset j → Heard s

    heard : (s : Planned) → r ≡ s → Heard s
    unfolding one_slot outcome
    heard s c = go (told (keeping refusing old) _ (ap (λ (x : Planned). gives (said x) new) (sym c) ∙ e))
      where
        row : Good k ds (length old) → {o : Progress} → Says k.period (span_of k) ds (length ds) o → gives (said s) new ≡ outcome o old
            → Heard s
        row w (all os n t) g = all_in w os n t g
        row w (some_row j h t) g = one_not w j h t g

        go : Told (keeping refusing old) (first (faults k ds (length old))) (outcome (all_settled k.period (span_of k) ds) old)
            (gives (said s) new) → Heard s
        go (stopped n p f g) = fault n p f g
        go (through f g) =
            let w = good_one k ds (length old) f in
            row w (says k.period (span_of k) ds w.table.period_low (length ds) (omega arith)) g

    -- a plan is given exactly when each row came in right; then the offsets are clear, and stand in the list, whose tail is kept
    pub plan_is_right : (r ≡ planned) ↔ GivenPlan k ds old new
    unfolding said
    plan_is_right = (λ c. there (heard planned c), back)
      where
        there : Heard planned → GivenPlan k ds old new
        there (fault n p f g) = never (cc (ap verdict g))
        there (one_not w j h s g) = never (cc (ap verdict g))
        there (all_in w os n s g) =
            record {
              table = w.table;
              is_one_slot = w.is_one_slot;
              room = w.enough;
              offsets = os;
              as_many = n;
              inside = λ i h. reached_low k.period (span_of k) ds s i (omega arith);
              right = s;
              written = ap list g;
              clear = right_clear w.table.period_low os n s;
            }

        back : GivenPlan k ds old new → r ≡ planned
        back w =
            (right_plan (record { table = w.table; enough = w.room; is_one_slot = w.is_one_slot }) w.offsets w.as_many w.right).0

    -- "Refuse with 13 exactly when no such single move exists"
    pub thirteen_exactly : (j : ℕ) → (r ≡ thirteen j) ↔ NotLetIn k ds old j
    unfolding outcome said
    thirteen_exactly j = (λ c. there (heard (thirteen j) c), back)
      where
        there : Heard (thirteen j) → NotLetIn k ds old j
        there (fault n p f g) = absurd (no_thirteen k ds (length old) n p f (sym (ap number g)))
        there (all_in w os n s g) = never (cc (ap verdict g))
        there (one_not w i h s g) =
            let same : j ≡ i = ap (λ (x : Answer). x.says.place) g in
            rw same (record { table = w.table; is_one_slot = w.is_one_slot; room = w.enough; row = h; stuck = s })

        back : NotLetIn k ds old j → r ≡ thirteen j
        back w =
            (no_second k ds old r (thirteen j) new old e
            (answers (record { table = w.table; enough = w.room; is_one_slot = w.is_one_slot })
            (stuck_is k.period (span_of k) ds w.table.period_low j (length ds) w.row (omega arith) w.stuck) refl)).0

    -- "25, after 12's place in the order, if the size isn't 1": everything else is in range, and there is room for the offsets
    pub twenty_five_exactly : (r ≡ size_refused) ↔ (GoodTable k ds × (length ds ≤ length old) × (k.size ≡ 1 → ⊥))
    unfolding one_slot said
    twenty_five_exactly = (λ c. there (heard size_refused c), back)
      where
        there : Heard size_refused → GoodTable k ds × (length ds ≤ length old) × (k.size ≡ 1 → ⊥)
        there (fault n p f g) =
            let same : not_one_slot ≡ n = ap number g in
            fault_of_size k ds (length old) p (rw same f)
        there (all_in w os n t g) = never (cc (ap verdict g))
        there (one_not w j h t g) = let m : not_one_slot ≡ no_offset = ap number g in absurd (omega arith)

        back : GoodTable k ds × (length ds ≤ length old) × (k.size ≡ 1 → ⊥) → r ≡ size_refused
        back w =
            (no_second k ds old r size_refused new old e
            (refused (keeping refusing old) _ (sym (size_fault k ds (length old) w.0 w.1 w.2)))).0

    -- "on refusal nothing is written"
    pub refusal_keeps : (x : Refused) → r ≡ Err x → new ≡ old
    unfolding said
    refusal_keeps x c = there (heard (Err x) c)
      where
        there : Heard (Err x) → new ≡ old
        there (fault m p f g) = ap list g
        there (all_in w os m s g) = never (cc (ap verdict g))
        there (one_not w j h s g) = ap list g
