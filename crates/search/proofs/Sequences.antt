-- The list of step sequences holds just the sequences, and it strictly increases. Assumes nothing.
use mathlib.Core.Path.{◌≡◌, refl, sym, ◌∙◌, subst}
use mathlib.Core.Logic.{◌⊎◌, inl, inr, ⊎_elim}
use mathlib.Core.Bool.{Bool, true, false, cond}
use mathlib.Core.List.Memᴰ
use mathlib.Core.List.{List, [], ◌∷◌, map, Memᴰ}
use Prim.Native.Nat.{ℕ, zero, suc, ◌≤◌}
use native.Mathlib.Omega.{arith}
use lib.ListN.{length}
use Rattle.ground.specs.Series.{Before, Increasing}
use Rattle.ground.proofs.Series.{increasing_append, increasing_one}
use Rattle.search.specs.Steps.{Step, Rules}
use Rattle.search.specs.Builds.{Sequence, last, onward, earlier_step, earlier, behind, sequences}
use Rattle.search.proofs.Orders.{decides, itself}

-- x is the step k, and one of the list behind it
record Begins (k : Step) (x : List Step) (qs : List (List Step)) : Type 0 where
  rest : List Step
  is : x ≡ k ∷ rest
  mem : Memᴰ rest qs

map_in : (k : Step) (x : List Step) (qs : List (List Step)) → Memᴰ x (map (◌∷◌ k) qs) → Begins k x qs
map_in k x qs m = let w = Memᴰ.of_map (◌∷◌ k) qs m in record { rest = w.0; is = sym w.2; mem = w.1 }

map_increasing : (k : Step) (qs : List (List Step)) → Increasing earlier qs → Increasing earlier (map (◌∷◌ k) qs)
map_increasing k [] s = tt
map_increasing k (q ∷ qs) s =
    (λ y m. let b = map_in k y qs m in rw b.is (itself k (earlier q b.rest) ∙ s.0 b.rest b.mem), map_increasing k qs s.1)

module _ (r : Rules) (d : List ℕ → List (List Step)) (s : List ℕ) where
  -- what may stand behind the step k: nothing, or where it is good a sequence from where it leads
  abbrev tails : Step → List (List Step)
  tails k = [] ∷ cond (r.good s k) (d (r.put s k)) []

  in_behind : (ks : List Step) (k : Step) (q : List Step) → Memᴰ k ks → Memᴰ q (tails k) → Memᴰ (k ∷ q) (behind r d s ks)
  unfolding behind
  in_behind [] k q m h = absurd (Memᴰ.not-nil m)
  in_behind (x ∷ ks) k q m h =
      ⊎_elim (λ e. Memᴰ.append_left (behind r d s ks) (subst (λ (z : Step). Memᴰ (k ∷ q) (map (◌∷◌ z) (tails z))) e
      (Memᴰ.map (◌∷◌ k) h)))
      (λ g. Memᴰ.append_right (map (◌∷◌ x) (tails x)) (in_behind ks k q g h)) (Memᴰ.cases_cons m)

  record Behind (x : List Step) (ks : List Step) : Type 0 where
    head : Step
    one : Memᴰ head ks
    tail : Begins head x (tails head)

  behind_in : (ks : List Step) (x : List Step) → Memᴰ x (behind r d s ks) → Behind x ks
  unfolding behind
  behind_in [] x m = absurd (Memᴰ.not-nil m)
  behind_in (k ∷ ks) x m =
      ⊎_elim (λ a. record { head = k; one = Memᴰ.head refl; tail = map_in k x (tails k) a })
      (λ b. let w = behind_in ks x b in record { head = w.head; one = Memᴰ.tail w.one; tail = w.tail })
      (Memᴰ.append_cases (map (◌∷◌ k) (tails k)) m)

  tails_increasing : ((s : List ℕ) → Increasing earlier ([] ∷ d s)) → (k : Step) → Increasing earlier (tails k)
  tails_increasing h k = go (r.good s k)
    where
      go : (b : Bool) → Increasing earlier ([] ∷ cond b (d (r.put s k)) [])
      go true = h (r.put s k)
      go false = increasing_one earlier []

  behind_increasing : ((s : List ℕ) → Increasing earlier ([] ∷ d s)) → (ks : List Step) → Increasing earlier_step ks
      → Increasing earlier (behind r d s ks)
  unfolding behind
  behind_increasing h [] o = tt
  behind_increasing h (k ∷ ks) o =
      increasing_append earlier (map (◌∷◌ k) (tails k)) (behind r d s ks) (map_increasing k (tails k) (tails_increasing h k))
      (behind_increasing h ks o.1)
      (λ x m y n. let a = map_in k x (tails k) m in let b = behind_in ks y n in
      rw (a.is, b.tail.is) (decides k b.head (o.0 b.head b.one) (earlier a.rest b.tail.rest)))

module _ (r : Rules) where
  not_empty : (u : ℕ) (s : List ℕ) → Before earlier [] (sequences r u s)
  unfolding sequences
  not_empty zero s y m = absurd (Memᴰ.not-nil m)
  not_empty (suc u) s y m = let b = behind_in r (sequences r u) s (r.steps s) y m in rw b.tail.is

  -- the list strictly increases, the empty sequence in front
  pub sequences_increasing : ((s : List ℕ) → Increasing earlier_step (r.steps s)) → (u : ℕ) (s : List ℕ)
      → Increasing earlier ([] ∷ sequences r u s)
  unfolding sequences
  sequences_increasing h zero s = increasing_one earlier []
  sequences_increasing h (suc u) s =
      (not_empty (suc u) s, behind_increasing r (sequences r u) s (sequences_increasing h u) (r.steps s) (h s))

  -- every sequence of at most u steps is in the list
  pub sequences_have : (u : ℕ) {s : List ℕ} {q : List Step} → Sequence r s q → length q ≤ u → Memᴰ q (sequences r u s)
  unfolding sequences
  sequences_have zero (last m) h = absurd (omega arith)
  sequences_have zero (onward m g w) h = absurd (omega arith)
  sequences_have (suc u) {s} (last m) h = in_behind r (sequences r u) s (r.steps s) _ [] m (Memᴰ.head refl)
  sequences_have (suc u) {s} (onward {k = k} m g w) h =
      in_behind r (sequences r u) s (r.steps s) k _ m (Memᴰ.tail (rw g (sequences_have u w (omega arith))))

  -- and nothing else
  pub sequences_are : (u : ℕ) (s : List ℕ) (q : List Step) → Memᴰ q (sequences r u s) → Sequence r s q × (length q ≤ u)
  unfolding sequences
  sequences_are zero s q m = absurd (Memᴰ.not-nil m)
  sequences_are (suc u) s q m =
      let b = behind_in r (sequences r u) s (r.steps s) q m in
      let k = b.head in
      rw b.tail.is (go k b.one b.tail.rest (r.good s k) refl (sequences_are u (r.put s k))
      (Memᴰ.cases_cons b.tail.mem))
    where
      go : (k : Step) → Memᴰ k (r.steps s) → (x : List Step) (g : Bool) → r.good s k ≡ g
          → ((y : List Step) → Memᴰ y (sequences r u (r.put s k)) → Sequence r (r.put s k) y × (length y ≤ u))
          → (x ≡ []) ⊎ Memᴰ x (cond g (sequences r u (r.put s k)) []) → Sequence r s (k ∷ x) × (length (k ∷ x) ≤ suc u)
      go k o x g e h (inl z) = rw z (last o, omega arith)
      go k o x true e h (inr z) = let w = h x z in (onward o e w.0, omega (arith, w.1))
      go k o x false e h (inr z) = absurd (Memᴰ.not-nil z)
