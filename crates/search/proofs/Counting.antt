-- The search goes through the step sequences in their order: it finds the least whole build, with as many tests as sequences are
-- not later. Assumes nothing.
use mathlib.Core.Path.{◌≡◌, refl, sym, ap, ◌∙◌}
use mathlib.Core.Bool.{Bool, true, false, not, cond, and-false}
use mathlib.Core.List.Memᴰ
use mathlib.Core.List.{List, [], ◌∷◌, ◌++◌, map}
use Prim.Native.Nat.{ℕ, zero, suc, ◌-◌}
use native.Mathlib.Omega.{arith}
use lib.Dec.{eqb-suc-suc}
use lib.ListN.{length}
use borrow.Author.Tests.{ne_eqb}
use Rattle.ground.specs.Count.{count_in}
use Rattle.ground.specs.Series.{Before, Increasing}
use Rattle.ground.proofs.Bools.{never}
use Rattle.ground.proofs.Counting.{count_in_none}
use Rattle.search.specs.Steps.{Step, Rules}
use Rattle.search.specs.Builds.{earlier_step, earlier, not_later, behind, sequences, leads, all_good, is_whole, First, first, nothing}
use Rattle.search.specs.Builds.{first_of, Out, found, none, counted, least_build}
use Rattle.search.specs.Search.{more, or_else, tried, walk, deep}
use Rattle.search.proofs.Answering.{more_or, more_zero}
use Rattle.search.proofs.Orders.{not_itself, one_way}
use Rattle.search.proofs.Sequences.{sequences_increasing}

-- the first of a list that has f, as what g makes of it, with how many stand up to it
module _ (f : List Step → Bool) (g : List Step → List ℕ) where
  scan : List (List Step) → Out
  scan [] = none 0
  scan (q ∷ qs) = cond (f q) (found (g q) 1) (more 1 (scan qs))

  scan_append : (xs ys : List (List Step)) → scan (xs ++ ys) ≡ or_else (scan xs) (scan ys)
  unfolding scan or_else
  scan_append [] ys = sym (more_zero (scan ys))
  scan_append (x ∷ xs) ys = go (scan_append xs ys) (f x)
    where
      go : scan (xs ++ ys) ≡ or_else (scan xs) (scan ys) → (b : Bool)
          → cond b (found (g x) 1) (more 1 (scan (xs ++ ys))) ≡ or_else (cond b (found (g x) 1) (more 1 (scan xs))) (scan ys)
      go e true = refl
      go e false = ap (more 1) e ∙ sym (more_or 1 (scan xs) (scan ys))

  abbrev at : List (List Step) → First → Out
  at qs (first q) = found (g q) (count_in (λ x. not_later x q) qs)
  at qs nothing = none (length qs)

  -- what is first stands behind what is before all
  first_behind : (x : List Step) (qs : List (List Step)) (q : List Step) → Before earlier x qs → first_of f qs ≡ first q
      → earlier x q ≡ true
  unfolding first_of
  first_behind x [] q b e = never (cc)
  first_behind x (y ∷ ys) q b e = go (f y) (first_behind x ys q (λ z m. b z (Memᴰ.tail m))) e
    where
      go : (t : Bool) → (first_of f ys ≡ first q → earlier x q ≡ true) → cond t (first y) (first_of f ys) ≡ first q → earlier x q ≡ true
      go true h w = let v : y ≡ q = cc in rw (← v) (b y (Memᴰ.head refl))
      go false h w = h w

  -- in a list that increases, those up to the first are those that are not later
  scan_first : (qs : List (List Step)) → Increasing earlier qs → scan qs ≡ at qs (first_of f qs)
  unfolding scan first_of count_in more
  scan_first [] s = refl
  scan_first (y ∷ ys) s = go (f y) (first_of f ys) refl (scan_first ys s.1)
    where
      go : (t : Bool) (o : First) → first_of f ys ≡ o → scan ys ≡ at ys o
          → cond t (found (g y) 1) (more 1 (scan ys)) ≡ at (y ∷ ys) (cond t (first y) o)
      go true o e h = rw (not_itself y, count_in_none (λ x. not_later x y) ys (λ x m. ap not (s.0 x m)))
      go false (first q) e h = rw (h, one_way y q (first_behind y ys q s.0 e)) (ap (found (g q)) (omega arith))
      go false nothing e h = rw h (ap none (omega arith))

-- the same test and result make the same scan, behind one more step
scan_map : (f h : List Step → Bool) (g j : List Step → List ℕ) (k : Step) → ((q : List Step) → f (k ∷ q) ≡ h q)
    → ((q : List Step) → g (k ∷ q) ≡ j q)
    → (qs : List (List Step)) → scan f g (map (◌∷◌ k) qs) ≡ scan h j qs
unfolding scan
scan_map f h g j k a b [] = refl
scan_map f h g j k a b (q ∷ qs) = rw (a q, b q, scan_map f h g j k a b qs)

module _ (r : Rules) where
  module _ (s : List ℕ) (k : Step) where
    whole_more : (u : ℕ) → r.good s k ≡ true → (q : List Step) → is_whole r (suc u) s (k ∷ q) ≡ is_whole r u (r.put s k) q
    unfolding is_whole all_good
    whole_more u e q = rw (eqb-suc-suc (length q) u, e)

    bad_not_whole : (u : ℕ) → r.good s k ≡ false → is_whole r (suc u) s (k ∷ []) ≡ false
    unfolding is_whole all_good
    bad_not_whole u e = rw (e, and-false)

    leads_more : (q : List Step) → leads r s (k ∷ q) ≡ leads r (r.put s k) q
    unfolding leads
    leads_more q = refl

  none_is_none : (u : ℕ) (s : List ℕ) → is_whole r (suc u) s [] ≡ false
  unfolding is_whole all_good
  none_is_none u s = rw (ne_eqb 0 (suc u) (omega arith))

  abbrev scanned : ℕ → List ℕ → List (List Step) → Out
  scanned u s qs = scan (is_whole r u s) (leads r s) qs

  module _ (u : ℕ) (ih : (s : List ℕ) → scanned u s ([] ∷ sequences r u s) ≡ more 1 (deep r u s)) (s : List ℕ) where
    bad_scan : (k : Step) → r.good s k ≡ false → scanned (suc u) s ((k ∷ []) ∷ []) ≡ more 1 (none 0)
    unfolding scan
    bad_scan k e = rw (bad_not_whole s k u e)

    tried_scan : (k : Step) (b : Bool) → r.good s k ≡ b
        → scanned (suc u) s (map (◌∷◌ k) ([] ∷ cond b (sequences r u (r.put s k)) [])) ≡ more 1 (cond b (deep r u (r.put s k)) (none 0))
    tried_scan k true e =
        scan_map (is_whole r (suc u) s) (is_whole r u (r.put s k)) (leads r s) (leads r (r.put s k)) k (whole_more s k u e)
        (leads_more s k) ([] ∷ sequences r u (r.put s k)) ∙ ih (r.put s k)
    tried_scan k false e = bad_scan k e

    walk_scan : (ks : List Step) → scanned (suc u) s (behind r (sequences r u) s ks) ≡ walk r (deep r u) s ks
    unfolding walk behind scan tried
    walk_scan [] = refl
    walk_scan (k ∷ ks) =
        scan_append (is_whole r (suc u) s) (leads r s) (map (◌∷◌ k) ([] ∷ cond (r.good s k) (sequences r u (r.put s k)) []))
        (behind r (sequences r u) s ks)
        ∙ rw (tried_scan k (r.good s k) refl, walk_scan ks)
        (more_or 1 (cond (r.good s k) (deep r u (r.put s k)) (none 0)) (walk r (deep r u) s ks))

  deep_scan : (u : ℕ) (s : List ℕ) → scanned u s ([] ∷ sequences r u s) ≡ more 1 (deep r u s)
  unfolding scan deep sequences is_whole all_good leads more
  deep_scan zero s = refl
  deep_scan (suc u) s = rw (none_is_none u s) (ap (more 1) (walk_scan u (deep_scan u) s (r.steps s)))

  -- one test less
  less : Out → Out
  less (found s n) = found s (n - 1)
  less (none n) = none (n - 1)

  less_more : (o : Out) → less (more 1 o) ≡ o
  unfolding less more
  less_more (found s n) = ap (found s) (omega arith)
  less_more (none n) = ap none (omega arith)

  front_counts : (u : ℕ) (s : List ℕ) (o : First) → less (at (is_whole r u s) (leads r s) ([] ∷ sequences r u s) o) ≡ counted r u s o
  unfolding less counted count_in
  front_counts u s (first []) = ap (found (leads r s [])) (omega arith)
  front_counts u s (first (k ∷ q)) = ap (found (leads r s (k ∷ q))) (omega arith)
  front_counts u s nothing = ap none (omega arith)

  -- the search is the definition
  pub deep_least : ((s : List ℕ) → Increasing earlier_step (r.steps s)) → (u : ℕ) (s : List ℕ) → deep r u s ≡ least_build r u s
  unfolding least_build
  deep_least h u s =
      sym (less_more (deep r u s)) ∙ ap less (sym (deep_scan u s)
      ∙ scan_first (is_whole r u s) (leads r s) ([] ∷ sequences r u s) (sequences_increasing r h u s))
      ∙ front_counts u s (first_of (is_whole r u s) ([] ∷ sequences r u s))
