-- What the exact planner promises, at its contract `Answers k ds budget old r new`: on the link k, the table ds gets the answer r at
-- this budget, and the lent list, which was `old`, is left as `new`. Assumes nothing.
use mathlib.Core.Path.{◌≡◌, refl, sym, ap, ◌∙◌, subst}
use mathlib.Core.Logic.{◌↔◌}
use mathlib.Core.List.{List}
use Rattle.std.specs.Prelude.{Result, Ok, Err}
use Prim.Native.Nat.{ℕ, ◌-◌, ◌≤◌}
use native.Mathlib.Omega.{arith}
use lib.ListN.{length, get_or, take}
use lib.Seq.{take_at}
use borrow.Author.Tests.{le-leb}
use Rattle.ground.specs.Judging.{first}
use Rattle.ground.specs.Lent.{on_front}
use Rattle.ground.specs.Protocol.{Outcome}
use Rattle.ground.specs.Judging.{Fine}
use Rattle.ground.specs.declared.Fault.{Fault}
use Rattle.ground.proofs.Answers.{no_second as one_said, no_second_outcome}
use Rattle.ground.proofs.Bools.{never}
use Rattle.link.specs.Rows.{span_of}
use Rattle.link.specs.declared.Link.{Link}
use Rattle.search.specs.Limits.{max_exact_rows}
use Rattle.search.specs.Refusal.{exact_faults}
use Rattle.search.specs.Builds.{begin, rules_of, sequences_of, LeastWholeOf}
use Rattle.search.specs.Ceilings.{ceiling_of, ceiling_up_to}
use Rattle.search.specs.Answer.{Said, said, Answers, ClearChoice, Fewer, Decided, given}
use Rattle.search.specs.declared.Answer.{Answer}
use Rattle.search.specs.declared.Answer.TheVariants.{Plan, Nothing, Spent}
use Rattle.search.proofs.Accepted.{Accepted}
use Rattle.search.proofs.Least.{none_none}
use Rattle.search.proofs.Listing.{steps_increasing}
use Rattle.search.proofs.Meaning.{choice_plan, no_plan, least_at, found_clear, tests_most}
use Rattle.search.proofs.Thinning.{shorter_plan, fewer_plan}
use Rattle.search.proofs.Verdicts.{unsaid, again, Planned, means, plan_answers, none_answers, says_same}

-- "Show that no second answer satisfies it": nor a second content of the list
pub no_second : (k : Link) (ds : List ℕ) (budget : ℕ) (old : List ℕ) (r s : Result Answer Fault) (new other : List ℕ)
    → Answers k ds budget old r new → Answers k ds budget old s other → (r ≡ s) × (new ≡ other)
no_second k ds budget old r s new other a b = no_second_outcome said unsaid again {r = r} {s = s} a b

module _ (k : Link) (ds : List ℕ) (budget : ℕ) (old : List ℕ) (t : ℕ) (new : List ℕ) where
  -- "The answer is the offsets of the least whole build", with its tests; "A lent buffer longer than needed keeps its tail."
  pub plan_is_least : Answers k ds budget old (Ok (Plan t)) new
      → (s : List ℕ) × LeastWholeOf k ds s t × (new ≡ on_front (take (length ds) s) old)
  plan_is_least a = let w = means k ds budget old (Ok (Plan t)) new a in
      (w.offsets, least_at k ds w.good.table w.offsets t w.is, w.left)

  -- the plan, in front of any list
  front : (w : Planned k ds budget old t new) (list left : List ℕ) → left ≡ on_front (take (length ds) w.offsets) list
      → take (length ds) left ≡ take (length ds) w.offsets
  front w list left e =
      ap (take (length ds)) e
      ∙ take_at (take (length ds) w.offsets) _ (length ds) (found_clear k ds w.good.table w.offsets t w.is).as_many

  -- "it gives a plan only with clear offsets"
  pub plan_is_clear : Answers k ds budget old (Ok (Plan t)) new → ClearChoice k ds (take (length ds) new)
  plan_is_clear a =
      let w = means k ds budget old (Ok (Plan t)) new a in
      rw (front w old new w.left) (found_clear k ds w.good.table w.offsets t w.is)

  -- "the exact search says "none" only if no choice of offsets at all is clear"
  pub none_means_none : Answers k ds budget old (Ok (Nothing t)) new → (os : List ℕ) → ClearChoice k ds os → ⊥
  none_means_none a os c =
      let w = means k ds budget old (Ok (Nothing t)) new a in
      no_plan k ds w.good.table t w.is (λ i. get_or os i 0) (choice_plan k ds w.good.table os c)

  -- "With no whole build, count all such sequences."
  pub none_counts_all : Answers k ds budget old (Ok (Nothing t)) new → length (sequences_of k ds) ≡ t
  none_counts_all a =
      let w = means k ds budget old (Ok (Nothing t)) new a in
      (none_none (rules_of k ds) (steps_increasing k.period (length ds)) (length ds - 1) (begin k.period) t w.is).1

-- any clear plan, a quick planner's too, means that the exact planner never says "none"
pub clear_plan_never_none : (k : Link) (ds os : List ℕ) → ClearChoice k ds os → (budget : ℕ) (old : List ℕ) (t : ℕ) (new : List ℕ)
    → Answers k ds budget old (Ok (Nothing t)) new → ⊥
clear_plan_never_none k ds os c budget old t new a = none_means_none k ds budget old t new a os c

-- "A lent buffer longer than needed keeps its tail. Every refusal and every verdict but a plan leaves all output buffers .."
pub tail_kept : (k : Link) (ds : List ℕ) (budget : ℕ) (old : List ℕ) (r : Result Answer Fault) (new : List ℕ)
    → Answers k ds budget old r new → new ≡ on_front (given r (length ds) new) old
tail_kept k ds budget old (Ok (Plan t)) new a =
    let w = means k ds budget old (Ok (Plan t)) new a in
    w.left ∙ ap (λ (os : List ℕ). on_front os old) (sym (front k ds budget old t new w old new w.left))
tail_kept k ds budget old (Ok (Nothing t)) new a = (means k ds budget old (Ok (Nothing t)) new a).left
tail_kept k ds budget old (Ok (Spent t)) new a = (means k ds budget old (Ok (Spent t)) new a).left
tail_kept k ds budget old (Err f) new a = (means k ds budget old (Err f) new a).left

-- "Once it has given either verdict, a larger test budget gives that verdict again, with the same offsets and count": whatever lists
-- with room are lent, and each keeps its tail
pub larger_budget_same : (k : Link) (ds : List ℕ) (budget larger : ℕ) (old old' : List ℕ) (r s : Result Answer Fault) (new new' : List ℕ)
    → budget ≤ larger → length ds ≤ length old' → Decided r → Answers k ds budget old r new → Answers k ds larger old' s new'
    → (s ≡ r) × (given s (length ds) new' ≡ given r (length ds) new)
    × (new ≡ on_front (given r (length ds) new) old) × (new' ≡ on_front (given s (length ds) new') old')
larger_budget_same k ds budget larger old old' r s new new' h room d a b =
    let w = same r d a in (w.0, w.1, tail_kept k ds budget old r new a, tail_kept k ds larger old' s new' b)
  where
    let_through : Accepted k ds (length old) → Accepted k ds (length old')
    let_through g = record { table = g.table; room = room; few = g.few }

    same : (r : Result Answer Fault) → Decided r → Answers k ds budget old r new
        → (s ≡ r) × (given s (length ds) new' ≡ given r (length ds) new)
    same (Ok (Plan t)) d a =
        let w = means k ds budget old (Ok (Plan t)) new a in
        let q = plan_answers k ds larger old' (let_through w.good) w.offsets t w.is (omega (arith, w.within_budget)) in
        let e = no_second k ds larger old' s (Ok (Plan t)) new' _ b q in
        (e.0, rw e.0 (front k ds budget old t new w old' new' e.1 ∙ sym (front k ds budget old t new w old new w.left)))
    same (Ok (Nothing t)) d a =
        let w = means k ds budget old (Ok (Nothing t)) new a in
        let q = none_answers k ds larger old' (let_through w.good) t w.is (omega (arith, w.within_budget)) in
        let e = no_second k ds larger old' s (Ok (Nothing t)) new' _ b q in
        (e.0, rw e.0)
    same (Ok (Spent t)) d a = absurd d
    same (Err f) d a = absurd d

-- The lent list does not matter: with room in both, two calls at one budget give the same answer and the same offsets.
pub any_list_same : (k : Link) (ds : List ℕ) (budget : ℕ) (old old' : List ℕ) (r s : Result Answer Fault) (new new' : List ℕ)
    → length ds ≤ length old → length ds ≤ length old' → Answers k ds budget old r new → Answers k ds budget old' s new'
    → (s ≡ r) × (given s (length ds) new' ≡ given r (length ds) new)
any_list_same k ds budget old old' r s new new' room room' a b = (e, same r e a)
  where
    e : s ≡ r
    e =
        one_said said unsaid again (ap (λ (o : Outcome Said (List ℕ)). o.says) b)
        (ap (λ (o : Outcome Said (List ℕ)). o.says) a ∙ says_same k ds budget old old' room room')

    same : (r : Result Answer Fault) → s ≡ r → Answers k ds budget old r new → given s (length ds) new' ≡ given r (length ds) new
    same (Ok (Plan t)) e a = (larger_budget_same k ds budget budget old old' (Ok (Plan t)) s new new' (omega arith) room' tt a b).1
    same (Ok (Nothing t)) e a = rw e
    same (Ok (Spent t)) e a = rw e
    same (Err f) e a = rw e

-- "a number that tests never passes"
pub tests_below_ceiling : (k : Link) (ds : List ℕ) (budget : ℕ) (old : List ℕ) (r : Result Answer Fault) (new : List ℕ)
    → Answers k ds budget old r new → (said r).tests ≤ ceiling_up_to (length ds)
unfolding said ceiling_up_to
tests_below_ceiling k ds budget old (Ok (Plan t)) new a =
    let w = means k ds budget old (Ok (Plan t)) new a in
    let m = tests_most k ds w.good.table in
    rw (le-leb (length ds) max_exact_rows w.good.few) (rw w.is at m)
tests_below_ceiling k ds budget old (Ok (Nothing t)) new a =
    let w = means k ds budget old (Ok (Nothing t)) new a in
    let m = tests_most k ds w.good.table in
    rw (le-leb (length ds) max_exact_rows w.good.few) (rw w.is at m)
tests_below_ceiling k ds budget old (Ok (Spent t)) new a =
    let w = means k ds budget old (Ok (Spent t)) new a in
    let m = tests_most k ds w.good.table in
    rw (le-leb (length ds) max_exact_rows w.good.few) (omega (arith, w.all, w.above))
tests_below_ceiling k ds budget old (Err f) new a = omega arith

-- "the ceiling for that many rows is always enough"
pub ceiling_enough : (k : Link) (ds : List ℕ) (budget : ℕ) (old : List ℕ) (t : ℕ) (new : List ℕ) → ceiling_up_to (length ds) ≤ budget
    → Answers k ds budget old (Ok (Spent t)) new → ⊥
unfolding ceiling_up_to
ceiling_enough k ds budget old t new h a =
    let w = means k ds budget old (Ok (Spent t)) new a in
    let m = tests_most k ds w.good.table in
    let c : ceiling_of (length ds) ≤ budget = rw (le-leb (length ds) max_exact_rows w.good.few) at h in
    omega (arith, w.above)

-- at such a budget a table in range gets a plan exactly where some choice of offsets is clear
pub plan_exactly_when_clear : (k : Link) (ds : List ℕ) (budget : ℕ) (old : List ℕ) (r : Result Answer Fault) (new : List ℕ)
    → first (exact_faults k ds (length old)) ≡ Fine → ceiling_up_to (length ds) ≤ budget → Answers k ds budget old r new
    → ((os : List ℕ) × ClearChoice k ds os) ↔ ((t : ℕ) × (r ≡ Ok (Plan t)))
plan_exactly_when_clear k ds budget old r new e h a = (λ w. there r w.0 w.1 a, λ w. back w.0 w.1)
  where
    there : (x : Result Answer Fault) (os : List ℕ) → ClearChoice k ds os → Answers k ds budget old x new → (t : ℕ) × (x ≡ Ok (Plan t))
    there (Ok (Plan t)) os c b = (t, refl)
    there (Ok (Nothing t)) os c b = absurd (none_means_none k ds budget old t new b os c)
    there (Ok (Spent t)) os c b = absurd (ceiling_enough k ds budget old t new h b)
    there (Err f) os c b = let q = (means k ds budget old (Err f) new b).fault in never (cc)

    back : (t : ℕ) → r ≡ Ok (Plan t) → (os : List ℕ) × ClearChoice k ds os
    back t q =
        (take (length ds) new, plan_is_clear k ds budget old t new (subst (λ (x : Result Answer Fault). Answers k ds budget old x new) q a))

module _ (k : Link) (ds : List ℕ) (budget : ℕ) (old : List ℕ) (t : ℕ) (new : List ℕ) (a : Answers k ds budget old (Ok (Plan t)) new) where
  -- "Where a table got a plan, the same table with shorter messages .. never gets "none" at any budget."
  pub shorter_never_none : (m : Link) → m.period ≡ k.period → m.size ≤ k.size → (b : ℕ) (list : List ℕ) (u : ℕ) (left : List ℕ)
      → Answers m ds b list (Ok (Nothing u)) left → ⊥
  shorter_never_none m e h b list u left x =
      let w = means k ds budget old (Ok (Plan t)) new a in
      let v = means m ds b list (Ok (Nothing u)) left x in
      let c = choice_plan k ds w.good.table (take (length ds) new) (plan_is_clear k ds budget old t new a) in
      let A : ℕ → ℕ = λ i. get_or (take (length ds) new) i 0 in
      no_plan m ds v.good.table u v.is A (rw e (shorter_plan k.period (span_of k) (span_of m) ds (length ds) A h c))

  -- "or with rows taken out but at least one left": none left is a refusal
  pub fewer_rows_never_none : (es : List ℕ) → Fewer es ds → (b : ℕ) (list : List ℕ) (u : ℕ) (left : List ℕ)
      → Answers k es b list (Ok (Nothing u)) left → ⊥
  fewer_rows_never_none es f b list u left x =
      let w = means k ds budget old (Ok (Plan t)) new a in
      let v = means k es b list (Ok (Nothing u)) left x in
      let c = choice_plan k ds w.good.table (take (length ds) new) (plan_is_clear k ds budget old t new a) in
      let d = fewer_plan k.period (span_of k) es ds _ f c in
      no_plan k es v.good.table u v.is d.0 d.1
