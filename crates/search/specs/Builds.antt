-- Step sequences in their order, whole builds, the least of them, and the tests.
use Rattle.std.specs.Prelude.{◌≡◌, Bool, true, false, ◌&&◌, ◌||◌, not, cond, ℕ, zero, suc, ◌-◌, ltb, eqb, length, replicate}
use mathlib.Core.List.{List, [], ◌∷◌, ◌++◌, map, Memᴰ}
use Rattle.ground.specs.Count.{count_in}
use Rattle.link.specs.Limits.{max_rows}
use Rattle.link.specs.Rows.{numbered, span_of}
use Rattle.link.specs.declared.Link.{Link}
use Rattle.search.specs.Steps.{Step, Rules, rules}

-- "non-empty step sequences in which every step but perhaps the last is good"
pub data Sequence (r : Rules) : List ℕ → List Step → Type 0 where
  last : {s : List ℕ} {k : Step} → Memᴰ k (r.steps s) → Sequence r s (k ∷ [])
  onward : {s : List ℕ} {k : Step} {q : List Step} → Memᴰ k (r.steps s) → r.good s k ≡ true → Sequence r (r.put s k) q
      → Sequence r s (k ∷ q)

-- so many good steps: "A whole build is n-1 good steps."
pub data Build (r : Rules) : ℕ → List ℕ → List Step → Type 0 where
  done : {s : List ℕ} → Build r 0 s []
  onward : {u : ℕ} {s : List ℕ} {k : Step} {q : List Step} → Memᴰ k (r.steps s) → r.good s k ≡ true → Build r u (r.put s k) q
      → Build r (suc u) s (k ∷ q)

-- the one before the other by the numbers a and b; where these are the same, by t
unfoldable pub order : ℕ → ℕ → Bool → Bool
order a b t = ltb a b || (eqb a b && t)

-- "Steps are ordered by j, then i, then crossing."
unfoldable pub order_steps : Step → Step → Bool → Bool
order_steps k m t = order k.row m.row (order k.beside m.beside (order (numbered k.crossing) (numbered m.crossing) t))

abbrev pub earlier_step : Step → Step → Bool
earlier_step k m = order_steps k m false

-- "Builds are compared step by step from the first." "a sequence stands before its own extensions"
abbrev pub earlier : List Step → List Step → Bool
earlier [] [] = false
earlier [] (m ∷ q) = true
earlier (k ∷ x) [] = false
earlier (k ∷ x) (m ∷ q) = order_steps k m (earlier x q)

abbrev pub not_later : List Step → List Step → Bool
not_later x q = not (earlier q x)

-- the sequences of at most u steps, in their order: each step, and behind a good one the sequences from where it leads
unfoldable pub behind : (r : Rules) → (List ℕ → List (List Step)) → List ℕ → List Step → List (List Step)
behind r d s [] = []
behind r d s (k ∷ ks) = map (◌∷◌ k) ([] ∷ cond (r.good s k) (d (r.put s k)) []) ++ behind r d s ks

unfoldable pub sequences : Rules → ℕ → List ℕ → List (List Step)
sequences r zero s = []
sequences r (suc u) s = behind r (sequences r u) s (r.steps s)

-- where the steps lead
unfoldable pub leads : Rules → List ℕ → List Step → List ℕ
leads r s [] = s
leads r s (k ∷ q) = leads r (r.put s k) q

-- every step is good
unfoldable pub all_good : Rules → List ℕ → List Step → Bool
all_good r s [] = true
all_good r s (k ∷ q) = r.good s k && all_good r (r.put s k) q

-- a sequence of the list, or the empty one, is a whole build of u steps
unfoldable pub is_whole : Rules → ℕ → List ℕ → List Step → Bool
is_whole r u s q = eqb (length q) u && all_good r s q

-- the first of a list that has f
pub data First : Type 0 where
  first : List Step → First
  nothing : First

unfoldable pub first_of : (List Step → Bool) → List (List Step) → First
first_of f [] = nothing
first_of f (q ∷ qs) = cond (f q) (first q) (first_of f qs)

-- what the planner finds, with the number of tests: offsets, or that there is no whole build
pub data Out : Type 0 where
  found : List ℕ → ℕ → Out
  none : ℕ → Out

-- "count the non-empty step sequences .. which are not later than the answer's build .. With no whole build, count all such sequences."
unfoldable pub counted : Rules → ℕ → List ℕ → First → Out
counted r u s (first q) = found (leads r s q) (count_in (λ x. not_later x q) (sequences r u s))
counted r u s nothing = none (length (sequences r u s))

-- "The answer is the offsets of the least whole build, or 14 if there is none."
unfoldable pub least_build : Rules → ℕ → List ℕ → Out
least_build r u s = counted r u s (first_of (is_whole r u s) ([] ∷ sequences r u s))

-- What is found, said without the search: "the least whole build", where it leads, and its tests, "the non-empty step sequences .. which
-- are not later than the answer's build".
pub record LeastWhole (r : Rules) (u : ℕ) (s s' : List ℕ) (t : ℕ) : Type 0 where
  pub steps : List Step
  pub whole : Build r u s steps
  pub least : (x : List Step) → Build r u s x → not_later steps x ≡ true
  pub offsets : leads r s steps ≡ s'
  pub tests : count_in (λ x. not_later x steps) (sequences r u s) ≡ t

-- "Row 0 stands at offset 0." No other row is placed.
abbrev pub begin : ℕ → List ℕ
begin p = 0 ∷ replicate (max_rows - 1) p

-- The same of a table: the rules of its builds, its sequences and whole builds, and what the planner finds.
abbrev pub rules_of : Link → List ℕ → Rules
rules_of k ds = rules k.period (span_of k) ds (length ds)

abbrev pub sequences_of : Link → List ℕ → List (List Step)
sequences_of k ds = sequences (rules_of k ds) (length ds - 1) (begin k.period)

abbrev pub WholeBuild : Link → List ℕ → List Step → Type 0
WholeBuild k ds q = Build (rules_of k ds) (length ds - 1) (begin k.period) q

abbrev pub LeastWholeOf : Link → List ℕ → List ℕ → ℕ → Type 0
LeastWholeOf k ds s t = LeastWhole (rules_of k ds) (length ds - 1) (begin k.period) s t

abbrev pub planned : Link → List ℕ → Out
planned k ds = least_build (rules_of k ds) (length ds - 1) (begin k.period)
