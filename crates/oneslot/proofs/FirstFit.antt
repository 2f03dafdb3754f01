-- Where First Fit has a plan for messages of one slot, this planner gives the same one, so what Request Three promises of First Fit's light
-- loads holds here too: with n rows a period of 2n-1 is enough. Nothing is promised of fuller periods. Assumes nothing.
use mathlib.Core.Path.{◌≡◌, refl, sym, ap}
use mathlib.Core.List.{List}
use Prim.Native.Nat.{ℕ, zero, suc, ◌-◌, ◌*◌, ◌≤◌}
use native.Mathlib.Nat.{mul-one}
use native.Mathlib.Omega.{arith}
use lib.ListN.{length}
use Rattle.ground.specs.Judging.{first}
use Rattle.ground.specs.Lent.{on_front}
use Rattle.ground.specs.Protocol.{Outcome, gives, keeping}
use Rattle.ground.proofs.Answers.{let_through, goes_on}
use Rattle.ground.proofs.Bools.{never}
use Rattle.link.specs.Range.{GoodTable}
use Rattle.link.specs.Refusal.{planner_faults}
use Rattle.link.specs.Rows.{span_of}
use Rattle.link.specs.declared.Link.{Link}
use Rattle.link.proofs.Accepted.{good_room, fine_room}
use Rattle.quick.specs.Answer.{Planned, planned, thirteen, Said, planning, refusing, said, outcome, quick, first_fit}
use Rattle.quick.specs.Loads.{FirstFitLoad}
use Rattle.quick.specs.Plan.{Progress, rows, stuck, place, placed, all_placed}
use Rattle.quick.proofs.LightLoads.{first_fit_never_thirteen}
use Rattle.oneslot.specs.Answer.{one_slot}
use Rattle.oneslot.specs.Plan.{or_moved, settle, settled}
use Rattle.oneslot.proofs.Promises.{no_second, answers, thirteen_exactly}

-- no row that First Fit places is ever moved
placed_settled : (p l : ℕ) (ds : List ℕ) (n : ℕ) (os : List ℕ) → placed p l ds 1 p n ≡ rows os → settled p l ds n ≡ rows os
unfolding placed place settled settle or_moved
placed_settled p l ds zero os e = e
placed_settled p l ds (suc n) os e = go (placed p l ds 1 p n) (placed_settled p l ds n) refl e
  where
    go : (o : Progress) → ((qs : List ℕ) → placed p l ds 1 p n ≡ rows qs → settled p l ds n ≡ rows qs)
        → placed p l ds 1 p n ≡ o → place p l ds 1 p n o ≡ rows os → settled p l ds (suc n) ≡ rows os
    go (rows qs) before f g = rw (before qs f) (ap (or_moved p l ds qs n) g)
    go (stuck i) before f g = never (cc)

module _ (k : Link) (ds old : List ℕ) where
  abbrev fitted : Progress
  fitted = all_placed k.period (span_of k) ds 1 k.period

  -- where First Fit gives a plan, this gives the same plan
  pub first_fit_same : k.size ≡ 1 → (new : List ℕ) → gives planning new ≡ first_fit k ds old → one_slot k ds old ≡ gives planning new
  unfolding quick outcome
  first_fit_same s new e =
      let w = let_through (keeping refusing old) (first (planner_faults k ds (length old)))
      (λ n q h. never (cc (ap (λ (x : Outcome Said (List ℕ)). x.says.verdict) h))) e in
      go (good_room k ds (length old) w.0) fitted refl w.1
    where
      go : GoodTable k ds × (length ds ≤ length old) → (o : Progress) → fitted ≡ o
          → gives planning new ≡ outcome o old → one_slot k ds old ≡ gives planning new
      go g (rows os) f h =
          sym (answers k ds old (record { table = g.0; enough = g.1; is_one_slot = s })
          (placed_settled k.period (span_of k) ds (length ds) os f) h)
      go g (stuck j) f h = never (cc (ap (λ (x : Outcome Said (List ℕ)). x.says.verdict) h))

  module _ (load : FirstFitLoad k ds) (g : GoodTable k ds) (room : length ds ≤ length old) where
    first_fit_plans : (new : List ℕ) × (gives planning new ≡ first_fit k ds old)
    unfolding quick outcome said
    first_fit_plans = go fitted refl
      where
        go : (o : Progress) → fitted ≡ o → (new : List ℕ) × (gives planning new ≡ first_fit k ds old)
        go (rows os) f = (on_front os old, goes_on (keeping refusing old) (sym (fine_room k ds (length old) g room)) (rw f))
        go (stuck j) f =
            absurd (first_fit_never_thirteen k ds old (thirteen j) old
            (goes_on (keeping refusing old) (sym (fine_room k ds (length old) g room)) (rw f)) load j refl)

  -- for messages of one slot First Fit's number, P above (3n-2)T - n, is 2n-1 slots
  one_slot_load : 2 * length ds - 1 ≤ k.period → GoodTable k ds → k.size ≡ 1 → FirstFitLoad k ds
  one_slot_load h g s = rw (s, mul-one) (omega (arith, h, g.rows_low, g.period_low))

  module _ (r : Planned) (new : List ℕ) (e : gives (said r) new ≡ one_slot k ds old) where
    -- where First Fit's load is light, a table in range with room for its offsets gets a plan
    pub light_is_planned : FirstFitLoad k ds → GoodTable k ds → k.size ≡ 1 → length ds ≤ length old → r ≡ planned
    unfolding said
    light_is_planned load g s room =
        let w = first_fit_plans load g room in
        (no_second k ds old r planned new w.0 e (sym (first_fit_same s w.0 w.1))).0

    -- so 2n-1 slots are enough
    pub is_planned : 2 * length ds - 1 ≤ k.period → GoodTable k ds → k.size ≡ 1 → length ds ≤ length old → r ≡ planned
    is_planned h g s = light_is_planned (one_slot_load h g s) g s

    pub never_thirteen : 2 * length ds - 1 ≤ k.period → (j : ℕ) → r ≡ thirteen j → ⊥
    never_thirteen h j c =
        let w = (thirteen_exactly k ds old r new e j).0 c in
        let p = is_planned h w.table w.is_one_slot w.room in
        never (cc)
