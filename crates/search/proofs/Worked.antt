-- Each promise, used once on a worked table: on document 01's first table, which gets a plan, and on its third, which gets none.
-- The page's own list of cases stands in `worked`. Assumes nothing.
use mathlib.Core.Path.{◌≡◌, refl, ap, ◌∙◌}
use mathlib.Core.Logic.{◌↔◌}
use mathlib.Core.List.{List, [], ◌∷◌}
use Rattle.std.specs.Prelude.{Result, Ok, Err}
use Prim.Native.Nat.{ℕ, ◌≤◌}
use native.Mathlib.Omega.{arith}
use lib.ListN.{length, take, drop}
use Rattle.ground.specs.Count.{count_in}
use Rattle.ground.specs.Judging.{first, outside, and_then}
use Rattle.ground.specs.declared.Fault.{Fault}
use Rattle.ground.specs.declared.Refusal.TheVariants.{BadLength, TooManyRows}
use Rattle.ground.specs.Least.{one_more, least}
use Rattle.ground.specs.Lent.{on_front}
use Rattle.ground.specs.Series.{from}
use Rattle.link.specs.Slots.{uses, after, meets}
use Rattle.link.specs.Rows.{second, start, hits, either}
use Rattle.link.specs.Refusal.{link_faults, row_faults, room_faults}
use Rattle.link.specs.declared.Link.{Link}
use Rattle.search.specs.Refusal.{exact_faults}
use Rattle.search.specs.Steps.{placed, besides, row_steps, steps, offset_of, puts, in_the_way, good, put}
use Rattle.search.specs.Builds.{order, order_steps, behind, sequences, leads, all_good, is_whole, first_of, counted, least_build}
use Rattle.search.specs.Builds.{sequences_of, LeastWholeOf}
use Rattle.search.specs.Ceilings.{product, products, choices, ceiling_of, ceiling_up_to}
use Rattle.search.specs.Answer.{said, within, outcome, exactly, Answers, ClearChoice, empty, keep, take_out}
use Rattle.search.specs.declared.Answer.{Answer}
use Rattle.search.specs.declared.Answer.TheVariants.{Plan, Nothing, Spent}
use Rattle.search.proofs.Promises.{no_second, plan_is_least, plan_is_clear, none_means_none, none_counts_all}
use Rattle.search.proofs.Promises.{clear_plan_never_none, tail_kept, larger_budget_same, any_list_same, tests_below_ceiling}
use Rattle.search.proofs.Promises.{ceiling_enough, plan_exactly_when_clear, shorter_never_none, fewer_rows_never_none}

abbrev table : ℕ → ℕ → Link
table p t = record { period = p; size = t }

abbrev three : List ℕ
three = 0 ∷ 3 ∷ 7 ∷ []

abbrev tight : List ℕ
tight = 0 ∷ 0 ∷ 1 ∷ []

abbrev nine : List ℕ
nine = 0 ∷ 0 ∷ 0 ∷ 0 ∷ 0 ∷ 0 ∷ 0 ∷ 0 ∷ 0 ∷ []

-- a lent list with a place to spare
abbrev lent : List ℕ
lent = 9 ∷ 9 ∷ 9 ∷ 9 ∷ []

abbrev planned : List ℕ
planned = 0 ∷ 2 ∷ 5 ∷ 9 ∷ []

-- 12 and 11
abbrev too_many : Fault
too_many = record { refusal = TooManyRows; place = 0 }

abbrev too_short : Fault
too_short = record { refusal = BadLength; place = 0 }

-- what the theorems are used on, each with its tests as budget; and "nine get 12", but 11 where there is no room for nine offsets
pub answers :
    Answers (table 10 2) three 3 lent (Ok (Plan 3)) planned
    × Answers (table 3 1) tight 16 lent (Ok (Nothing 16)) lent
    × Answers (table 10 2) nine 5 nine (Err too_many) nine
    × Answers (table 10 2) nine 5 lent (Err too_short) lent
unfolding said exactly outcome within least_build counted count_in first_of is_whole all_good leads sequences behind order_steps order put
    good in_the_way puts offset_of after steps row_steps besides from placed exact_faults room_faults row_faults link_faults and_then
    outside first either hits start second meets uses least one_more
answers = (refl, refl, refl, refl)

pub first_only : (r : Result Answer Fault) (new : List ℕ) → Answers (table 10 2) three 3 lent r new → (r ≡ Ok (Plan 3)) × (new ≡ planned)
first_only r new a = no_second (table 10 2) three 3 lent r (Ok (Plan 3)) new planned a answers.0

pub first_clear : ClearChoice (table 10 2) three (0 ∷ 2 ∷ 5 ∷ [])
first_clear = plan_is_clear (table 10 2) three 3 lent 3 planned answers.0

pub first_least : (s : List ℕ) × LeastWholeOf (table 10 2) three s 3 × (planned ≡ on_front (take 3 s) lent)
first_least = plan_is_least (table 10 2) three 3 lent 3 planned answers.0

pub first_tail : planned ≡ on_front (0 ∷ 2 ∷ 5 ∷ []) lent
first_tail = tail_kept (table 10 2) three 3 lent (Ok (Plan 3)) planned answers.0

-- any budget from 3 on gives that plan, in front of any list with three places
pub first_always : (budget : ℕ) (list : List ℕ) (r : Result Answer Fault) (new : List ℕ) → 3 ≤ budget → 3 ≤ length list
    → Answers (table 10 2) three budget list r new → (r ≡ Ok (Plan 3)) × (new ≡ 0 ∷ 2 ∷ 5 ∷ drop 3 list)
first_always budget list r new h room a =
    let w = larger_budget_same (table 10 2) three 3 budget lent list (Ok (Plan 3)) r planned new h room tt answers.0 a in
    (w.0, w.3 ∙ ap (λ (os : List ℕ). on_front os list) w.1)

-- nine rows get 12, whatever list with nine places is lent
pub nine_always : (list : List ℕ) (r : Result Answer Fault) (new : List ℕ) → 9 ≤ length list
    → Answers (table 10 2) nine 5 list r new → r ≡ Err too_many
nine_always list r new room a =
    (any_list_same (table 10 2) nine 5 nine list (Err too_many) r nine new (omega arith) room answers.2 a).0

-- no budget makes the planner say that there is none, nor with one slot less, nor without row 0
pub first_never_none : (budget t : ℕ) (new : List ℕ) → Answers (table 10 2) three budget lent (Ok (Nothing t)) new → ⊥
first_never_none budget t new a = clear_plan_never_none (table 10 2) three (0 ∷ 2 ∷ 5 ∷ []) first_clear budget lent t new a

pub first_shorter : (budget t : ℕ) (new : List ℕ) → Answers (table 10 1) three budget lent (Ok (Nothing t)) new → ⊥
first_shorter budget t new a =
    shorter_never_none (table 10 2) three 3 lent 3 planned answers.0 (table 10 1) refl (omega arith) budget lent t new a

pub first_fewer : (budget t : ℕ) (new : List ℕ) → Answers (table 10 2) (3 ∷ 7 ∷ []) budget lent (Ok (Nothing t)) new → ⊥
first_fewer budget t new a =
    fewer_rows_never_none (table 10 2) three 3 lent 3 planned answers.0 (3 ∷ 7 ∷ []) (take_out (keep (keep empty))) budget lent t new a

-- the third table has no clear offsets, and its tests are all its step sequences
pub third_none : (os : List ℕ) → ClearChoice (table 3 1) tight os → ⊥
third_none os c = none_means_none (table 3 1) tight 16 lent 16 lent answers.1 os c

pub third_sequences : length (sequences_of (table 3 1) tight) ≡ 16
third_sequences = none_counts_all (table 3 1) tight 16 lent 16 lent answers.1

-- the ceiling of three rows, 20, is enough
pub third_below : 16 ≤ 20
unfolding said ceiling_up_to ceiling_of choices products product
third_below = tests_below_ceiling (table 3 1) tight 16 lent (Ok (Nothing 16)) lent answers.1

pub third_ceiling : (t : ℕ) (new : List ℕ) → Answers (table 3 1) tight 20 lent (Ok (Spent t)) new → ⊥
unfolding ceiling_up_to ceiling_of choices products product
third_ceiling t new a = ceiling_enough (table 3 1) tight 20 lent t new (omega arith) a

pub third_exactly : (r : Result Answer Fault) (new : List ℕ) → Answers (table 3 1) tight 20 lent r new
    → ((os : List ℕ) × ClearChoice (table 3 1) tight os) ↔ ((t : ℕ) × (r ≡ Ok (Plan t)))
unfolding ceiling_up_to ceiling_of choices products product exact_faults room_faults row_faults link_faults and_then outside first least
    one_more
third_exactly r new a = plan_exactly_when_clear (table 3 1) tight 20 lent r new refl (omega arith) a
