-- What each answer means: a plan and 14 are what the search finds within the budget, 15 has more tests than it, and a refusal has a
-- fault. Assumes nothing.
use mathlib.Core.Path.{◌≡◌, refl, sym, ap, ◌∙◌}
use mathlib.Core.Bool.{Bool, true, false, cond}
use mathlib.Core.Logic.{⊎_elim}
use mathlib.Core.List.{List}
use Rattle.std.specs.Prelude.{Result, Ok, Err}
use Prim.Native.Nat.{ℕ, ◌<◌, ◌≤◌}
use lib.Dec.{ltb}
use lib.ListN.{length, take}
use borrow.Author.Tests.{lt-ltb, le-ltb}
use Rattle.ground.specs.Judging.{first}
use Rattle.ground.specs.Lent.{on_front}
use Rattle.ground.specs.Protocol.{gives, keeping, unless}
use Rattle.ground.specs.Judging.{Judged}
use Rattle.ground.specs.Judging.{Fine, Fault}
use Rattle.ground.specs.declared.Fault.{Fault as Refused}
use Rattle.ground.specs.Refusals.{fault_of}
use Rattle.ground.proofs.Answers.{Told, stopped, through, told, goes_on, no_second_outcome}
use Rattle.ground.proofs.Bools.{lt_or_ge}
use Rattle.link.specs.declared.Link.{Link}
use Rattle.search.specs.Limits.{no_build, budget_spent}
use Rattle.search.specs.Refusal.{exact_faults}
use Rattle.search.specs.Builds.{Out, found, none, planned}
use Rattle.search.specs.Answer.{Verdict, plan, nothing, spent, refusal, Said, says, said, within, outcome, refusing, searched}
use Rattle.search.specs.Answer.{exactly, Answers}
use Rattle.search.specs.declared.Answer.{Answer}
use Rattle.search.specs.declared.Answer.TheVariants.{Plan, Nothing, Spent}
use Rattle.search.proofs.Accepted.{Accepted, good_exact, fine_exact, same_judging, named_first}
use Rattle.ground.proofs.Refusals.{refused, fault_again}
use Rattle.search.proofs.Answering.{tests}

-- the paper's form gives the answer back
abbrev pub unsaid : Said → Result Answer Refused
unsaid s = back s.verdict s
  where
    back : Verdict → Said → Result Answer Refused
    back plan s = Ok (Plan s.tests)
    back nothing s = Ok (Nothing s.tests)
    back spent s = Ok (Spent s.tests)
    back refusal s = Err (refused s.number s.place)

pub again : (r : Result Answer Refused) → unsaid (said r) ≡ r
unfolding said
again (Ok (Plan t)) = refl
again (Ok (Nothing t)) = refl
again (Ok (Spent t)) = refl
again (Err f) = ap Err (fault_again f)

module _ (k : Link) (ds : List ℕ) (budget : ℕ) (old : List ℕ) where
  pub record Planned (t : ℕ) (new : List ℕ) : Type 0 where
    pub good : Accepted k ds (length old)
    pub offsets : List ℕ
    pub is : planned k ds ≡ found offsets t
    pub within_budget : t ≤ budget
    pub left : new ≡ on_front (take (length ds) offsets) old

  pub record Hopeless (t : ℕ) (new : List ℕ) : Type 0 where
    pub good : Accepted k ds (length old)
    pub is : planned k ds ≡ none t
    pub within_budget : t ≤ budget
    pub left : new ≡ old

  pub record Over (t : ℕ) (new : List ℕ) : Type 0 where
    pub good : Accepted k ds (length old)
    pub all : t ≡ budget
    pub above : budget < tests (planned k ds)
    pub left : new ≡ old

  pub record Faulty (f : Refused) (new : List ℕ) : Type 0 where
    pub fault : first (exact_faults k ds (length old)) ≡ fault_of f
    pub left : new ≡ old

  abbrev pub Means : Result Answer Refused → List ℕ → Type 0
  Means (Ok (Plan t)) new = Planned t new
  Means (Ok (Nothing t)) new = Hopeless t new
  Means (Ok (Spent t)) new = Over t new
  Means (Err f) new = Faulty f new

  pub means : (r : Result Answer Refused) (new : List ℕ) → Answers k ds budget old r new → Means r new
  unfolding said exactly outcome within
  means r new a = judged (told (keeping refusing old) (first (exact_faults k ds (length old))) a)
    where
      -- what means s means r, where both say the same
      is : (s : Result Answer Refused) (list : List ℕ) → gives (said r) new ≡ gives (said s) list → (new ≡ list → Means s new) → Means r new
      is s list e m = let q = no_second_outcome said unsaid again {r = r} {s = s} e refl in rw q.0 (m q.1)

      ended : (o : Out) → planned k ds ≡ o → Accepted k ds (length old) → gives (said r) new ≡ outcome budget (length ds) old o
          → Means r new
      ended (found s t) e g f =
          ⊎_elim
          (λ h. is (Ok (Spent budget)) old (f ∙ rw (lt-ltb budget t h)) (λ q. record { good = g; all = refl; above = rw e h; left = q }))
          (λ h. is (Ok (Plan t)) (on_front (take (length ds) s) old) (f ∙ rw (le-ltb budget t h))
          (λ q. record { good = g; offsets = s; is = e; within_budget = h; left = q })) (lt_or_ge budget t)
      ended (none t) e g f =
          ⊎_elim
          (λ h. is (Ok (Spent budget)) old (f ∙ rw (lt-ltb budget t h)) (λ q. record { good = g; all = refl; above = rw e h; left = q }))
          (λ h. is (Ok (Nothing t)) old (f ∙ rw (le-ltb budget t h)) (λ q. record { good = g; is = e; within_budget = h; left = q }))
          (lt_or_ge budget t)

      judged : Told (keeping refusing old) (first (exact_faults k ds (length old))) (searched k ds budget old) (gives (said r) new)
          → Means r new
      judged (stopped n p e f) =
          let w = named_first k ds (length old) n p e in is (Err (refused n p)) old (rw w f) (λ q. record { fault = rw w e; left = q })
      judged (through e f) = ended (planned k ds) refl (good_exact k ds (length old) e) f

  -- and the way back, for the two verdicts of the search
  module _ (g : Accepted k ds (length old)) where
    fine : first (exact_faults k ds (length old)) ≡ Fine
    fine = sym (fine_exact k ds (length old) g)

    pub plan_answers : (s : List ℕ) (t : ℕ) → planned k ds ≡ found s t → t ≤ budget
        → Answers k ds budget old (Ok (Plan t)) (on_front (take (length ds) s) old)
    unfolding said exactly outcome within
    plan_answers s t e h = goes_on (keeping refusing old) fine (rw (e, le-ltb budget t h))

    pub none_answers : (t : ℕ) → planned k ds ≡ none t → t ≤ budget → Answers k ds budget old (Ok (Nothing t)) old
    unfolding said exactly outcome within
    none_answers t e h = goes_on (keeping refusing old) fine (rw (e, le-ltb budget t h))

-- what is said does not depend on the list that is lent
outcome_same : (budget n : ℕ) (old old' : List ℕ) (o : Out) → (outcome budget n old o).says ≡ (outcome budget n old' o).says
unfolding outcome within
outcome_same budget n old old' (found s t) = go (ltb budget t)
  where
    go : (b : Bool) → (cond b (gives (says spent budget_spent 0 budget) old) (gives (says plan 0 0 t) (on_front (take n s) old))).says
        ≡ (cond b (gives (says spent budget_spent 0 budget) old') (gives (says plan 0 0 t) (on_front (take n s) old'))).says
    go true = refl
    go false = refl
outcome_same budget n old old' (none t) = go (ltb budget t)
  where
    go : (b : Bool) → (cond b (gives (says spent budget_spent 0 budget) old) (gives (says nothing no_build 0 t) old)).says
        ≡ (cond b (gives (says spent budget_spent 0 budget) old') (gives (says nothing no_build 0 t) old')).says
    go true = refl
    go false = refl

pub says_same : (k : Link) (ds : List ℕ) (budget : ℕ) (old old' : List ℕ) → length ds ≤ length old → length ds ≤ length old'
    → (exactly k ds budget old).says ≡ (exactly k ds budget old').says
unfolding exactly
says_same k ds budget old old' room room' =
    rw (same_judging k ds (length old) (length old') room room') (go (first (exact_faults k ds (length old'))))
  where
    go : (j : Judged) → (unless (keeping refusing old) j (searched k ds budget old)).says
        ≡ (unless (keeping refusing old') j (searched k ds budget old')).says
    go Fine = outcome_same budget (length ds) old old' (planned k ds)
    go (Fault n p) = refl

-- there is an answer to every call
pub some_answer : (k : Link) (ds : List ℕ) (budget : ℕ) (old : List ℕ)
    → (r : Result Answer Refused) × (said r ≡ (exactly k ds budget old).says)
unfolding said exactly outcome within
some_answer k ds budget old = judged (first (exact_faults k ds (length old))) refl
  where
    ended : (o : Out) → (r : Result Answer Refused) × (said r ≡ (outcome budget (length ds) old o).says)
    ended (found s t) =
        ⊎_elim (λ h. (Ok (Spent budget), rw (lt-ltb budget t h))) (λ h. (Ok (Plan t), rw (le-ltb budget t h))) (lt_or_ge budget t)
    ended (none t) =
        ⊎_elim (λ h. (Ok (Spent budget), rw (lt-ltb budget t h))) (λ h. (Ok (Nothing t), rw (le-ltb budget t h))) (lt_or_ge budget t)

    judged : (j : Judged) → first (exact_faults k ds (length old)) ≡ j
        → (r : Result Answer Refused) × (said r ≡ (unless (keeping refusing old) j (searched k ds budget old)).says)
    judged Fine e = ended (planned k ds)
    judged (Fault n p) e = (Err (refused n p), rw (named_first k ds (length old) n p e) refl)
