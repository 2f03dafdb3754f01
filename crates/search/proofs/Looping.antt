-- The loop over the candidates: an answer to what is left is an answer to the whole. Assumes nothing.
use mathlib.Core.Path.{◌≡◌, refl, ap, ◌∙◌}
use mathlib.Core.Bool.{true}
use mathlib.Core.List.{List, [], ◌∷◌}
use Prim.Native.Nat.{ℕ, suc, ◌+◌, ◌-◌, ◌*◌, ◌<◌, ◌≤◌}
use native.Mathlib.Omega.{arith}
use Rattle.link.specs.Limits.{max_rows}
use Rattle.search.specs.Steps.{Step, Rules, rules, is_step}
use Rattle.search.specs.Builds.{Out, none}
use Rattle.search.specs.Numbering.{step_at, Next}
use Rattle.search.specs.Search.{more, or_else, tried, walk, deep, Answered, Table, Starts}
use Rattle.search.specs.declared.Hunt.{Hunt}
use Rattle.search.specs.declared.Hunt.TheVariants.{Found, Nothing, Spent}
use Rattle.search.proofs.Answering.{ended, all_placed, broke, more_or, ends, or_found, or_spent, or_next}
use Rattle.search.proofs.Numbers.{steps_from, none_from, step_from, next_from, all_from}

pub whole : (r : Rules) (v : ℕ) (s : List ℕ) (l : ℕ) → v ≡ 0 → Answered l s (deep r v s) (Found l) s
unfolding deep
whole r v s l e = rw (e, deep) (all_placed l s)

-- where some row is left, the candidates are gone through
goes_through : (r : Rules) (v : ℕ) (s : List ℕ) → (v ≡ 0 → ⊥) → deep r v s ≡ walk r (deep r (v - 1)) s (r.steps s)
unfolding deep
goes_through r v s some = let e : v ≡ suc (v - 1) = omega arith in ap (λ (x : ℕ). deep r x s) e ∙ one_row_more (v - 1)
  where
    one_row_more : (u : ℕ) → deep r (suc u) s ≡ walk r (deep r u) s (r.steps s)
    one_row_more u = refl

-- the offsets are those of the start, and `left` tests are left for the candidates from k on
pub record Going (p l : ℕ) (ds : List ℕ) (n v budget : ℕ) (s xs ys : List ℕ) (left k : ℕ) : Type 0 where
  pub same : xs ≡ s
  pub starts : Starts p ds n xs ys
  pub high : k ≤ n * (2 * max_rows)
  pub lands : k < n * (2 * max_rows) → is_step p n xs (step_at k) ≡ true
  pub rest : (h : Hunt) (s' : List ℕ) → Answered left s (walk (rules p l ds n) (deep (rules p l ds n) (v - 1)) s (steps_from p n s k)) h s'
      → Answered budget s (deep (rules p l ds n) v s) h s'

pub begins : {p l : ℕ} {ds : List ℕ} {n v budget : ℕ} {s ys : List ℕ} {k : ℕ} → Table p l ds n → (v ≡ 0 → ⊥) → Starts p ds n s ys
    → Next p n s 0 k → Going p l ds n v budget s s ys budget k
begins {p} {l} {ds} {n} {v} {s = s} {k = k} t some st x =
    record {
      same = refl;
      starts = st;
      high = x.high;
      lands = x.lands;
      rest = λ h s' a. rw (goes_through (rules p l ds n) v s some, all_from p n t.rows s, next_from p n s 0 k x) a;
    }

module _ (r : Rules) (d : List ℕ → Out) (s : List ℕ) where
  walk_none : (ks : List Step) → ks ≡ [] → walk r d s ks ≡ none 0
  unfolding walk
  walk_none ks e = rw (e, walk)

  walk_step : (k : Step) (ks ms : List Step) → ms ≡ k ∷ ks → walk r d s ms ≡ more 1 (or_else (tried r d s k) (walk r d s ks))
  unfolding walk
  walk_step k ks ms e = rw (e, walk)

module _ {p l : ℕ} {ds : List ℕ} {n v budget : ℕ} {s xs ys : List ℕ} {left k : ℕ} (g : Going p l ds n v budget s xs ys left k) where
  abbrev r : Rules
  r = rules p l ds n

  abbrev d : List ℕ → Out
  d = deep (rules p l ds n) (v - 1)

  pub no_more : n * (2 * max_rows) ≤ k → Answered budget s (deep (rules p l ds n) v s) (Nothing left) xs
  no_more h = g.rest (Nothing left) xs (rw (walk_none r d s _ (none_from p n s k h), g.same) (ended left s))

  module _ (h : k < n * (2 * max_rows)) where
    from_here : steps_from p n s k ≡ step_at k ∷ steps_from p n s (k + 1)
    from_here = step_from p n s k h (rw g.same at (g.lands h))

    -- the candidate at hand, and the later ones
    abbrev here : List ℕ → Out
    here x = more 1 (tried (rules p l ds n) (deep (rules p l ds n) (v - 1)) x (step_at k))

    abbrev later : Out
    later = walk r d s (steps_from p n s (k + 1))

    pub is_broke : left ≡ 0 → Answered budget s (deep (rules p l ds n) v s) Spent xs
    is_broke z = g.rest Spent xs (rw (walk_step r d s (step_at k) (steps_from p n s (k + 1)) _ from_here, g.same) (broke left s _ z))

    -- what both say is what all say
    both : (h : Hunt) (s'' : List ℕ) → Answered left s (or_else (here s) later) h s'' → Answered budget s (deep (rules p l ds n) v s) h s''
    both h s'' a =
        g.rest h s''
        (rw (walk_step r d s (step_at k) (steps_from p n s (k + 1)) _ from_here, ← more_or 1 (tried r d s (step_at k)) later) a)

    module _ {s' : List ℕ} where
      -- any answer to it but "nothing" is the answer
      pub one_ends : (h : Hunt) → ((m : ℕ) → h ≡ Nothing m → ⊥) → Answered left xs (here xs) h s'
          → Answered budget s (deep (rules p l ds n) v s) h s'
      one_ends (Found m) other a = both (Found m) s' (or_found left s s' (here s) later m (rw g.same at a))
      one_ends (Nothing m) other a = absurd (other m refl)
      one_ends Spent other a =
          let b = rw g.same at a in
          rw (ends left s s' (here s) Spent b).same (both Spent s (or_spent left s s' (here s) later b))

      pub one_in_vain : {m : ℕ} {ys' : List ℕ} {k' : ℕ} → Answered left xs (here xs) (Nothing m) s' → Starts p ds n s' ys'
          → Next p n s' (k + 1) k' → Going p l ds n v budget s s' ys' m k'
      one_in_vain {m} {ys'} {k'} a st x =
          let b : Answered left s (here s) (Nothing m) s' = rw g.same at a in
          let e : s' ≡ s = (ends left s s' (here s) (Nothing m) b).same in
          record {
            same = e;
            starts = st;
            high = x.high;
            lands = x.lands;
            rest = λ h s'' c. both h s'' (or_next left s s' (here s) later m h s'' b (rw (next_from p n s (k + 1) k' (rw e at x)) c));
          }
