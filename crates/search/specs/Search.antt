-- How the code searches: candidate by candidate, one row deeper at each good one. proofs/Counting shows that it finds the least build.
use Rattle.std.specs.Prelude.{◌≡◌, Bool, ◌&&◌, ◌||◌, not, cond, List, [], ◌∷◌, ℕ, zero, suc, ◌+◌, ◌-◌, ◌<◌, ◌≤◌, ltb, leb, length, get_or}
use Rattle.link.specs.Limits.{max_period, max_rows}
use Rattle.link.specs.Slots.{apartb}
use Rattle.ground.specs.Least.{some}
use Rattle.link.specs.Rows.{second}
use Rattle.search.specs.Steps.{Step, Rules}
use Rattle.search.specs.Builds.{Out, found, none}
use Rattle.search.specs.declared.Hunt.{Hunt}
use Rattle.search.specs.declared.Hunt.TheVariants.{Found, Nothing, Spent}

-- n more tests
unfoldable pub more : ℕ → Out → Out
more n (found s m) = found s (n + m)
more n (none m) = none (n + m)

unfoldable pub or_else : Out → Out → Out
or_else (found s m) o = found s m
or_else (none m) o = more m o

-- a candidate goes one row deeper by d, if it is good
unfoldable pub tried : Rules → (List ℕ → Out) → List ℕ → Step → Out
tried r d s k = cond (r.good s k) (d (r.put s k)) (none 0)

-- "each candidate either goes one message deeper or hands over to the next candidate; going deeper in vain, it hands over too"
unfoldable pub walk : Rules → (List ℕ → Out) → List ℕ → List Step → Out
walk r d s [] = none 0
walk r d s (k ∷ ks) = more 1 (or_else (tried r d s k) (walk r d s ks))

unfoldable pub deep : Rules → ℕ → List ℕ → Out
deep r zero s = found s 0
deep r (suc u) s = walk r (deep r u) s (r.steps s)

-- what the code answers with so many tests to spend, and what it leaves in the offsets
unfoldable pub verdict : ℕ → Out → Hunt
verdict left (found s n) = cond (leb n left) (Found (left - n)) Spent
verdict left (none n) = cond (leb n left) (Nothing (left - n)) Spent

unfoldable pub leaves : ℕ → List ℕ → Out → List ℕ
leaves left s₀ (found s n) = cond (leb n left) s s₀
leaves left s₀ (none n) = s₀

-- the code's answer h and the offsets s' that it leaves, where s stood and the search gives o
pub record Answered (left : ℕ) (s : List ℕ) (o : Out) (h : Hunt) (s' : List ℕ) : Type 0 where
  pub told : h ≡ verdict left o
  pub kept : s' ≡ leaves left s o

-- a table that may be searched: n rows, with delays below the period
pub record Table (p l : ℕ) (ds : List ℕ) (n : ℕ) : Type 0 where
  pub period : p ≤ max_period
  pub some_span : 0 < l
  pub span : l ≤ p
  pub rows : n ≤ max_rows
  pub delays : (i : ℕ) → get_or ds i 0 < p

-- ys has the second starts of the rows that xs places
pub record Starts (p : ℕ) (ds : List ℕ) (n : ℕ) (xs ys : List ℕ) : Type 0 where
  pub xs_length : length xs ≡ max_rows
  pub ys_length : length ys ≡ max_rows
  pub seconds : (i : ℕ) → i < n → get_or xs i 0 < p → get_or ys i 0 ≡ second p (get_or ds i 0) (get_or xs i 0)

-- a row with the starts x and y, if it is placed, is nearer to a row with the starts a and b than l
unfoldable pub blocked : ℕ → ℕ → ℕ → ℕ → ℕ → ℕ → Bool
blocked p l a b x y = ltb x p && (not (apartb p l x a) || not (apartb p l y b))

unfoldable pub unblocked : ℕ → ℕ → List ℕ → List ℕ → ℕ → ℕ → ℕ → Bool
unblocked p l xs ys n a b = not (some (λ i. blocked p l a b (get_or xs i 0) (get_or ys i 0)) n)
