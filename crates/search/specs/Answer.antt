-- What the exact planner answers, and what it leaves in the lent list.
use Rattle.std.specs.Prelude.{◌≡◌, cond, List, [], ◌∷◌, ℕ, ◌<◌, ltb, length, get_or, take, Result, Ok, Err}
use Rattle.ground.specs.Judging.{first}
use Rattle.ground.specs.Lent.{on_front}
use Rattle.ground.specs.Refusals.{number_of}
use Rattle.ground.specs.declared.Fault.{Fault}
use Rattle.ground.specs.Protocol.{Outcome, gives, keeping, unless}
use Rattle.link.specs.Rows.{span_of, Clear}
use Rattle.link.specs.declared.Link.{Link}
use Rattle.search.specs.Limits.{no_build, budget_spent}
use Rattle.search.specs.Refusal.{exact_faults}
use Rattle.search.specs.Builds.{Out, found, none, planned}
use Rattle.search.specs.declared.Answer.{Answer}
use Rattle.search.specs.declared.Answer.TheVariants.{Plan, Nothing, Spent}

pub data Verdict : Type 0 where
  plan nothing spent refusal : Verdict

-- "Fields of an answer that don't apply are 0; 14 carries its tests and 15 the budget."
pub record Said : Type 0 where
  pub verdict : Verdict
  pub number : ℕ
  pub place : ℕ
  pub tests : ℕ

abbrev pub says : Verdict → ℕ → ℕ → ℕ → Said
says v n p t = record { verdict = v; number = n; place = p; tests = t }

abbrev pub tells : Answer → Said
tells (Plan t) = says plan 0 0 t
tells (Nothing t) = says nothing no_build 0 t
tells (Spent t) = says spent budget_spent 0 t

unfoldable pub said : Result Answer Fault → Said
said (Ok a) = tells a
said (Err f) = says refusal (number_of f.refusal) f.place 0

-- "If this number is above the budget, the answer is 15 with tests equal to the budget; otherwise tests is that number."
unfoldable pub within : ℕ → ℕ → List ℕ → Outcome Said (List ℕ) → Outcome Said (List ℕ)
within budget tests old o = cond (ltb budget tests) (gives (says spent budget_spent 0 budget) old) o

-- a plan's offsets for n rows stand in front: ".. every verdict but a plan leaves all output buffers .."
unfoldable pub outcome : ℕ → ℕ → List ℕ → Out → Outcome Said (List ℕ)
outcome budget n old (found s t) = within budget t old (gives (says plan 0 0 t) (on_front (take n s) old))
outcome budget n old (none t) = within budget t old (gives (says nothing no_build 0 t) old)

-- for values in range: 15, 14 or a plan
abbrev pub searched : Link → List ℕ → ℕ → List ℕ → Outcome Said (List ℕ)
searched k ds budget old = outcome budget (length ds) old (planned k ds)

abbrev pub refusing : ℕ → ℕ → Said
refusing n p = says refusal n p 0

-- 5, 6, 8, 7, 11, 12, then 15, 14 or a plan
unfoldable pub exactly : Link → List ℕ → ℕ → List ℕ → Outcome Said (List ℕ)
exactly k ds budget old = unless (keeping refusing old) (first (exact_faults k ds (length old))) (searched k ds budget old)

-- the contract: on the link k, the table ds gets the answer r at this budget, and the lent list, which was `old`, is left as `new`
abbrev pub Answers : Link → List ℕ → ℕ → List ℕ → Result Answer Fault → List ℕ → Type 0
Answers k ds budget old r new = gives (said r) new ≡ exactly k ds budget old

-- "all offsets 0 to P-1 for all rows": a choice of them that is clear
pub record ClearChoice (k : Link) (ds os : List ℕ) : Type 0 where
  pub as_many : length os ≡ length ds
  pub inside : (i : ℕ) → i < length ds → get_or os i 0 < k.period
  pub clear : Clear k.period (span_of k) ds os

-- "with rows taken out": xs is ys without some of its rows
pub data Fewer : List ℕ → List ℕ → Type 0 where
  empty : Fewer [] []
  keep : {x : ℕ} {xs ys : List ℕ} → Fewer xs ys → Fewer (x ∷ xs) (x ∷ ys)
  take_out : {y : ℕ} {xs ys : List ℕ} → Fewer xs ys → Fewer xs (y ∷ ys)

-- the two verdicts that a larger budget keeps
abbrev pub Decided : Result Answer Fault → Type 0
Decided (Ok (Plan t)) = Unit {0}
Decided (Ok (Nothing t)) = Unit {0}
Decided (Ok (Spent t)) = ⊥
Decided (Err f) = ⊥

-- the offsets that an answer for n rows gives, of the list `new` that it leaves: those of a plan
abbrev pub given : Result Answer Fault → ℕ → List ℕ → List ℕ
given (Ok (Plan t)) n new = take n new
given (Ok (Nothing t)) n new = []
given (Ok (Spent t)) n new = []
given (Err f) n new = []
