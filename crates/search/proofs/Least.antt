-- What is found is the least whole build; where none is found there is none. Assumes nothing.
use mathlib.Core.Path.{◌≡◌, refl, sym, ap, ◌∙◌, subst}
use mathlib.Core.Logic.{◌⊎◌, inl, inr, ⊎_elim}
use mathlib.Core.Bool.{Bool, true, false, cond}
use mathlib.Core.List.Memᴰ
use mathlib.Core.List.{List, [], ◌∷◌, Memᴰ}
use Prim.Native.Nat.{ℕ, suc, ◌≤◌}
use native.Mathlib.Omega.{arith}
use lib.Dec.{eqb, eqb-suc-suc}
use lib.ListN.{length}
use borrow.Author.Tests.{eqb-true}
use Rattle.ground.specs.Series.{Increasing}
use Rattle.ground.proofs.Bools.{clash, never, and_parts}
use Rattle.search.specs.Steps.{Step, Rules}
use Rattle.search.specs.Builds.{Sequence, last, onward, Build, done, earlier_step, earlier, not_later, sequences, all_good}
use Rattle.search.specs.Builds.{is_whole, First, first, nothing, first_of, found, none, counted, LeastWhole, least_build}
use Rattle.search.proofs.Orders.{not_itself, one_way}
use Rattle.search.proofs.Sequences.{sequences_increasing, sequences_have, sequences_are}

module _ (f : List Step → Bool) where
  first_is : (qs : List (List Step)) (q : List Step) → first_of f qs ≡ first q → Memᴰ q qs × (f q ≡ true)
  unfolding first_of
  first_is [] q e = never (cc)
  first_is (x ∷ qs) q e = go (f x) refl e (first_is qs q)
    where
      go : (b : Bool) → f x ≡ b → cond b (first x) (first_of f qs) ≡ first q → (first_of f qs ≡ first q → Memᴰ q qs × (f q ≡ true))
          → Memᴰ q (x ∷ qs) × (f q ≡ true)
      go true z w h = let v : x ≡ q = cc in (Memᴰ.head (sym v), rw (← v) z)
      go false z w h = let v = h w in (Memᴰ.tail v.0, v.1)

  first_least : (qs : List (List Step)) (q : List Step) → Increasing earlier qs → first_of f qs ≡ first q → (x : List Step) → Memᴰ x qs
      → f x ≡ true → not_later q x ≡ true
  unfolding first_of
  first_least [] q s e x m h = absurd (Memᴰ.not-nil m)
  first_least (y ∷ qs) q s e x m h = go (f y) refl e (Memᴰ.cases_cons m) (λ w. first_least qs q s.1 w x)
    where
      go : (b : Bool) → f y ≡ b → cond b (first y) (first_of f qs) ≡ first q → (x ≡ y) ⊎ Memᴰ x qs
          → (first_of f qs ≡ first q → Memᴰ x qs → f x ≡ true → not_later q x ≡ true) → not_later q x ≡ true
      go true z w (inl g) i = let v : y ≡ q = cc in rw (g, ← v, not_itself y)
      go true z w (inr g) i = let v : y ≡ q = cc in rw (← v, one_way y x (s.0 x g))
      go false z w (inl g) i = clash (sym (ap f g) ∙ h) z
      go false z w (inr g) i = i w g h

  none_first : (qs : List (List Step)) → first_of f qs ≡ nothing → (x : List Step) → Memᴰ x qs → f x ≡ true → ⊥
  unfolding first_of
  none_first [] e x m h = Memᴰ.not-nil m
  none_first (y ∷ qs) e x m h = go (f y) refl e (Memᴰ.cases_cons m) (λ w. none_first qs w x)
    where
      go : (b : Bool) → f y ≡ b → cond b (first y) (first_of f qs) ≡ nothing → (x ≡ y) ⊎ Memᴰ x qs
          → (first_of f qs ≡ nothing → Memᴰ x qs → f x ≡ true → ⊥) → ⊥
      go true z w c i = never (cc)
      go false z w (inl g) i = clash (sym (ap f g) ∙ h) z
      go false z w (inr g) i = i w g h

module _ (r : Rules) where
  whole_done : (s : List ℕ) → is_whole r 0 s [] ≡ true
  unfolding is_whole all_good
  whole_done s = refl

  whole_onward : (u : ℕ) (s : List ℕ) (k : Step) (q : List Step) → r.good s k ≡ true → is_whole r u (r.put s k) q ≡ true
      → is_whole r (suc u) s (k ∷ q) ≡ true
  unfolding is_whole all_good
  whole_onward u s k q g e = rw (eqb-suc-suc (length q) u, g) e

  -- a whole build is a sequence of its length, or the empty one
  build_is_whole : {u : ℕ} {s : List ℕ} {q : List Step} → Build r u s q → is_whole r u s q ≡ true
  build_is_whole {s = s} done = whole_done s
  build_is_whole (onward {u = u} {s = s} {k = k} {q = q} m g b) = whole_onward u s k q g (build_is_whole b)

  -- t is where the step k leads
  sequence_from : {u : ℕ} {s t : List ℕ} {k : Step} {q : List Step} → Memᴰ k (r.steps s) → r.good s k ≡ true → Build r u t q
      → t ≡ r.put s k → Sequence r s (k ∷ q) × (length (k ∷ q) ≤ suc u)
  sequence_from m g done e = (last m, omega arith)
  sequence_from m g (onward n h b) e =
      let w = sequence_from n h b refl in
      (onward m g (rw (← e) w.0), omega (arith, w.1))

  sequence_of : {u : ℕ} {s : List ℕ} {k : Step} {q : List Step} → Memᴰ k (r.steps s) → r.good s k ≡ true → Build r u (r.put s k) q
      → Sequence r s (k ∷ q) × (length (k ∷ q) ≤ suc u)
  sequence_of m g b = sequence_from m g b refl

  build_in : {u : ℕ} {s : List ℕ} {q : List Step} → Build r u s q → Memᴰ q ([] ∷ sequences r u s)
  build_in done = Memᴰ.head refl
  build_in (onward {u = u} m g b) = let w = sequence_of m g b in Memᴰ.tail (sequences_have r (suc u) w.0 w.1)

  good_parts : (s : List ℕ) (k : Step) (q : List Step) → all_good r s (k ∷ q) ≡ true
      → (r.good s k ≡ true) × (all_good r (r.put s k) q ≡ true)
  unfolding all_good
  good_parts s k q e = and_parts (r.good s k) (all_good r (r.put s k) q) e

  build_of : {s : List ℕ} {q : List Step} → Sequence r s q → all_good r s q ≡ true → Build r (length q) s q
  build_of (last {s = s} {k = k} m) e = onward m (good_parts s k [] e).0 done
  build_of (onward {s = s} {k = k} {q = q} m g w) e = onward m g (build_of w (good_parts s k q e).1)

  whole_parts : (u : ℕ) (s : List ℕ) (q : List Step) → is_whole r u s q ≡ true → (length q ≡ u) × (all_good r s q ≡ true)
  unfolding is_whole
  whole_parts u s q e = let w = and_parts (eqb (length q) u) (all_good r s q) e in (eqb-true _ _ w.0, w.1)

  whole_is_build : (u : ℕ) (s : List ℕ) (q : List Step) → Memᴰ q ([] ∷ sequences r u s) → is_whole r u s q ≡ true → Build r u s q
  whole_is_build u s q m e =
      let w = whole_parts u s q e in
      subst (λ (x : ℕ). Build r x s q) w.0 (⊎_elim (λ z. rw z done) (λ h. build_of (sequences_are r u s q h).0 w.1)
      (Memᴰ.cases_cons m))

  module _ (sorted : (s : List ℕ) → Increasing earlier_step (r.steps s)) (u : ℕ) (s : List ℕ) where
    abbrev o : First
    o = first_of (is_whole r u s) ([] ∷ sequences r u s)

    pub found_least : (s' : List ℕ) (t : ℕ) → least_build r u s ≡ found s' t → LeastWhole r u s s' t
    unfolding least_build counted
    found_least s' t e = go o refl e
      where
        go : (x : First) → first_of (is_whole r u s) ([] ∷ sequences r u s) ≡ x → counted r u s x ≡ found s' t → LeastWhole r u s s' t
        go (first q) h g =
            let w = first_is (is_whole r u s) ([] ∷ sequences r u s) q h in
            record {
              steps = q;
              whole = whole_is_build u s q w.0 w.1;
              least = λ x b. first_least (is_whole r u s) ([] ∷ sequences r u s) q (sequences_increasing r sorted u s) h x (build_in b)
                  (build_is_whole b);
              offsets = cc;
              tests = cc;
            }
        go nothing h g = never (cc)

    pub none_none : (t : ℕ) → least_build r u s ≡ none t → ((x : List Step) → Build r u s x → ⊥) × (length (sequences r u s) ≡ t)
    unfolding least_build counted
    none_none t e = go o refl e
      where
        go : (x : First) → first_of (is_whole r u s) ([] ∷ sequences r u s) ≡ x → counted r u s x ≡ none t
            → ((x : List Step) → Build r u s x → ⊥) × (length (sequences r u s) ≡ t)
        go (first q) h g = never (cc)
        go nothing h g = (λ x b. none_first (is_whole r u s) ([] ∷ sequences r u s) h x (build_in b) (build_is_whole b), cc)
