-- What the stretch report promises. Assumes nothing.
use mathlib.Core.Path.{◌≡◌, refl, sym, ◌∙◌, ap}
use mathlib.Core.Bool.{Bool, true, false, not, cond, ◌&&◌}
use mathlib.Core.Logic.{◌↔◌}
use mathlib.Core.List.{List}
use Prim.Native.Nat.{ℕ, ◌+◌, ◌-◌, ◌*◌, ◌≤◌, ◌<◌}
use native.Mathlib.Omega.{arith}
use native.Mathlib.Nat.{mul-le-mul_right}
use lib.ListN.{length}
use borrow.Author.Tests.{not-true}
use Rattle.std.specs.Prelude.{Ok, Err}
use Rattle.link.specs.Range.{GoodPlan}
use Rattle.link.specs.Rows.{Crossing, one, two, span_of, moved_on, Clear}
use Rattle.link.specs.declared.Link.{Link}
use Rattle.link.proofs.Accepted.{in_range}
use Rattle.ground.specs.Judging.{first}
use Rattle.ground.specs.Judging.{Fine}
use Rattle.ground.specs.declared.Fault.{Fault}
use Rattle.ground.specs.declared.Refusal.TheVariants.{NotClear}
use Rattle.ground.proofs.Bools.{never}
use Rattle.ground.proofs.Refusals.{refused as fault_by, fault_again}
use Rattle.ground.proofs.Answers.{refused, goes_on, let_through}
use Rattle.ground.proofs.Answers as answers
use Rattle.checker.specs.Judging.{clear_faults}
use Rattle.checker.specs.Order.{FirstCollision}
use Rattle.checker.proofs.Judging.{clear_fine, fine_clear, unclear, judged_moved}
use Rattle.ground.specs.Count.{count}
use Rattle.ground.proofs.Counting.{count_not, count_some}
use Rattle.report.specs.Runs.{run_begins, width, run_begins_on_line, AllFrom, Run, Within, Longest, runs, widest_of, total_of}
use Rattle.report.specs.Free.{is_free, stretch_of}
use Rattle.report.specs.Answer.{Verdict, reported, refused as refusedly, Said, no_stretch, telling, refusing, Answered, said, told, answer}
use Rattle.report.specs.declared.Stretch.{Stretch}
use Rattle.report.specs.declared.Reported.{Reported}
use Rattle.report.proofs.Widths.{runs_number}
use Rattle.report.proofs.Stretches as stretches
use Rattle.report.proofs.Stretches.{exactly_longest, in_one, in_no_second, none_wider, one_as_wide}
use Rattle.report.proofs.Summed.{total_count, nothing_free}
use Rattle.report.proofs.Total.{free_total}
use Rattle.report.proofs.Joined.{both_parts, over_the_end, one_less}
use Rattle.report.proofs.Fitting.{in_a_run, run_has}
use Rattle.report.proofs.Turning.{same_numbers}

abbrev unsaid_as : Verdict → Said → Answered
unsaid_as reported s = Ok (record { first = s.first; second = s.second })
unsaid_as refusedly s = Err (fault_by s.number s.place)

abbrev unsaid : Said → Answered
unsaid s = unsaid_as s.verdict s

again : (r : Answered) → unsaid (said r) ≡ r
unfolding said
again (Ok x) = refl
again (Err f) = ap (λ (g : Fault). Err g) (fault_again f)

-- no second answer meets the contract
pub no_second : (k : Link) (ds os : List ℕ) (r s : Answered) → said r ≡ answer k ds os → said s ≡ answer k ds os → r ≡ s
no_second k ds os r s = answers.no_second said unsaid again

-- a plan that is not clear, at the row j
abbrev pub not_clear_at : ℕ → Answered
not_clear_at j = Err (record { refusal = NotClear; place = j })

-- the crossing c of both
abbrev pub of : Crossing → Reported → Stretch
of one x = x.first
of two x = x.second

module _ (k : Link) (ds os : List ℕ) where
  -- the free slots of the crossing c, and the numbers of that crossing
  abbrev pub free_in : Crossing → ℕ → Bool
  free_in c = is_free k.period k.size ds os c

  abbrev pub numbers_of : Crossing → Stretch
  numbers_of c = stretch_of (free_in c) k.period

  abbrev both : Reported
  both = record { first = numbers_of one; second = numbers_of two }

  told_of_clear : GoodPlan k ds os → Clear k.period (span_of k) ds os → said (Ok both) ≡ answer k ds os
  unfolding said answer told
  told_of_clear g c = goes_on refusing (sym (clear_fine k ds os g c)) refl

  module _ (r : Answered) (e : said r ≡ answer k ds os) where
    told_so : (x : Reported) → r ≡ Ok x → (first (clear_faults k ds os) ≡ Fine) × (telling x.first x.second ≡ told k.period k.size ds os)
    unfolding said answer
    told_so x f =
        let_through refusing (first (clear_faults k ds os)) (λ n q h. never (cc (ap (λ (s : Said). s.verdict) h))) (ap said (sym f) ∙ e)

    -- "For a clear plan": the report is given exactly then
    pub reports_exactly : ((x : Reported) × (r ≡ Ok x)) ↔ (GoodPlan k ds os × Clear k.period (span_of k) ds os)
    reports_exactly = (
      λ w. fine_clear k ds os (told_so w.0 w.1).0,
      λ w. (both, no_second k ds os r _ e (told_of_clear w.0 w.1)),
    )

    -- "A plan that isn't clear is refused with 18", at "the row .. of the collision the checker names"
    pub not_clear_refused : GoodPlan k ds os → (Clear k.period (span_of k) ds os → ⊥)
        → (i : ℕ) × (j : ℕ) × (n : ℕ) × FirstCollision k.period (span_of k) ds os i j n × (r ≡ not_clear_at j)
    unfolding said answer
    not_clear_refused g c =
        let w = unclear k ds os g c in
        let s : said (not_clear_at w.0) ≡ answer k ds os = refused refusing _ w.1.judged in
        (w.1.earlier, w.0, w.1.crossing, w.1.first_one, no_second k ds os r (not_clear_at w.0) e s)

    module _ (x : Reported) (f : r ≡ Ok x) where
      -- "For .. each crossing: the number of free slots, the number of free stretches, and the length of the widest"
      pub numbers : (c : Crossing) → of c x ≡ numbers_of c
      unfolding told
      numbers one = ap (λ (s : Said). s.first) (told_so x f).1
      numbers two = ap (λ (s : Said). s.second) (told_so x f).1

      -- the free slots and the nT used ones are the period
      pub with_used : (c : Crossing) → (of c x).free + length ds * k.size ≡ k.period
      unfolding stretch_of
      with_used c =
          let w = fine_clear k ds os (told_so x f).0 in
          let total = free_total k.period (span_of k) k.size ds os (in_range k ds os w.0) (omega arith) w.1 c in
          omega (arith, ap (λ (s : Stretch). s.free) (numbers c))

      -- some slot is used: on a circle that is free all round no slot would be in a stretch, and there is none
      pub some_used : (c : Crossing) → (u : ℕ) × (u < k.period) × (free_in c u ≡ false)
      unfolding stretch_of
      some_used c =
          let g = (fine_clear k ds os (told_so x f).0).0.table in
          let rows = mul-le-mul_right k.size g.rows_low in
          let free = ap (λ (s : Stretch). s.free) (numbers c) in
          let used : 0 < count (λ s. not (free_in c s)) k.period =
          omega (arith, free, count_not (free_in c) k.period, with_used c, g.span_low) in
          let w = count_some (λ s. not (free_in c s)) k.period used in
          (w.0, w.1, not-true _ w.2)

      -- "The free slots are counted slot by slot;
      pub counted : (c : Crossing) → (of c x).free ≡ count (free_in c) k.period
      unfolding stretch_of
      counted c = ap (λ (s : Stretch). s.free) (numbers c)

      -- they, the lengths of the stretches summed,
      pub summed : (c : Crossing) → (of c x).free ≡ total_of (runs (free_in c) k.period)
      summed c = counted c ∙ sym (total_count (free_in c) k.period (some_used c))

      -- and P - nT are all equal."
      pub left_over : (c : Crossing) → (of c x).free ≡ k.period - length ds * k.size
      left_over c = omega (arith, with_used c)

      -- "the number of free stretches": one for each free slot that comes after a used one
      pub stretches_counted : (c : Crossing) → (of c x).stretches ≡ count (run_begins (free_in c) k.period) k.period
      unfolding stretch_of
      stretches_counted c = ap (λ (s : Stretch). s.stretches) (numbers c) ∙ runs_number _ k.period k.period

      -- each free slot is in one stretch, and in no second one
      pub in_one_stretch : (c : Crossing) (s : ℕ) → s < k.period → free_in c s ≡ true
          → (v : Run) × Longest (free_in c) k.period v × Within k.period s v
          × ((y : Run) → Longest (free_in c) k.period y → Within k.period s y → y ≡ v)
      in_one_stretch c s l e =
          let w = in_one (free_in c) k.period (some_used c) s l e in
          let m = (exactly_longest (free_in c) k.period w.0).0 w.1 in
          (w.0, m, w.2, λ y n v. in_no_second (free_in c) k.period s y w.0 n m v w.2)

      -- "a run at the end and a run at the start are one stretch": where slots 0 and P-1 are both free there is one stretch fewer than
      -- on the line from slot 0 to slot P-1, else there are as many
      pub joined : (c : Crossing) → (of c x).stretches + cond (free_in c 0 && free_in c (k.period - 1)) 1 0
          ≡ count (run_begins_on_line (free_in c)) k.period
      joined c =
          let w = some_used c in
          omega (arith, stretches_counted c, one_less (free_in c) k.period (omega (arith, w.1)))

      -- "the length of the widest": no longest run of free slots is wider, and where there is a stretch, one is as wide
      pub none_is_wider : (c : Crossing) (s : Run) → Longest (free_in c) k.period s → s.wide ≤ (of c x).widest
      unfolding stretch_of
      none_is_wider c s w =
          let bound = none_wider (runs (free_in c) k.period) s ((exactly_longest _ _ s).1 w) in
          omega (arith, ap (λ (x : Stretch). x.widest) (numbers c))

      pub one_is_as_wide : (c : Crossing) → 0 < (of c x).stretches →
          (s : Run) × Longest (free_in c) k.period s × (s.wide ≡ (of c x).widest)
      unfolding stretch_of
      one_is_as_wide c h =
          let w = one_as_wide (runs (free_in c) k.period) (omega (arith, ap (λ (x : Stretch). x.stretches) (numbers c))) in
          (w.0, (exactly_longest _ _ w.0).0 w.1, w.2 ∙ sym (ap (λ (x : Stretch). x.widest) (numbers c)))

      -- "Planners use the widest stretch to see whether another service fits": l slots in a row are free in the crossing exactly where the
      -- widest stretch has as many
      pub room_exactly : (c : Crossing) (l : ℕ) → 0 < l
          → ((s : ℕ) × (s < k.period) × AllFrom (free_in c) k.period l s) ↔ (l ≤ (of c x).widest)
      unfolding stretch_of
      room_exactly c l h =
          let w : (of c x).widest ≡ widest_of (runs (free_in c) k.period) = ap (λ (x : Stretch). x.widest) (numbers c) in (
            λ r. omega (arith, w, in_a_run (free_in c) k.period (some_used c) l r.0 h r.1 r.2),
            λ m. run_has (free_in c) k.period l h (omega (arith, w)),
          )

      -- rows that fill the period leave no stretch
      pub full : length ds * k.size ≡ k.period → (c : Crossing) → of c x ≡ no_stretch
      full h c = numbers c ∙ nothing_free (free_in c) k.period (omega (arith, counted c, with_used c))

  -- where a stretch has its first slot, and nowhere else, one is counted
  pub begins_exactly : (c : Crossing) (s : ℕ) → s < k.period
      → (run_begins (free_in c) k.period s ≡ true) ↔ ((x : Run) × Longest (free_in c) k.period x × (x.first ≡ s))
  begins_exactly c = stretches.begins_exactly (free_in c) k.period

  -- a stretch with slot P-1 has slot 0 too, if that is free; it is as wide as its part up to slot P-1 and what is free from slot 0 on
  module _ (c : Crossing) (x : Run) (w : Longest (free_in c) k.period x) (u : Within k.period (k.period - 1) x) where
    pub one_stretch : free_in c 0 ≡ true → Within k.period 0 x
    one_stretch = over_the_end (free_in c) k.period x w u

    pub wide_as_both : x.wide ≡ (k.period - x.first) + width (free_in c) k.period 0
    wide_as_both = both_parts (free_in c) k.period x w u

  -- turning the circle changes nothing: all offsets of a plan in range moved on by r slots, modulo P, give the same answer
  pub turning : GoodPlan k ds os → (r : ℕ) → answer k ds (moved_on k.period r os) ≡ answer k ds os
  unfolding answer told
  turning g r =
      let same = same_numbers k.period k.size ds os r g.table.period_low g.as_many in
      rw (judged_moved k ds os r g, same one, same two)
