-- How code shows which row is met first, and what that says of a plan. Assumes nothing.
use mathlib.Core.Path.{◌≡◌, refl, sym, ◌∙◌}
use mathlib.Core.Bool.{Bool, true, false, not, cond, or-true}
use mathlib.Core.Logic.{⊎_elim}
use mathlib.Core.List.{List}
use Prim.Native.Nat.{ℕ, ◌<◌, ◌≤◌}
use native.Mathlib.Omega.{arith}
use native.Mathlib.Nat.{mod-lt}
use lib.ListN.{length, get_or, take}
use lib.Seq.{length-take-le, get_or-take}
use borrow.Author.Tests.{ltb-true}
use Rattle.ground.specs.Least.{least, some}
use Rattle.link.specs.Slots.{after}
use Rattle.link.specs.Rows.{Crossing, one, two, numbered, second, start_at, start, hits, either, free, first_hit, met_at, near}
use Rattle.link.specs.Rows.{first_near, is_nobody}
use Rattle.link.specs.Rows.{Met}
use Rattle.link.specs.Rows.{Nobody, Row}
use Rattle.ground.proofs.Bools.{clash, never, or_none, true_or_false}
use Rattle.link.proofs.OnCircle.{meets_apart}
use Rattle.ground.proofs.Minimum.{least_at, least_is, least_cong, some_at, some_none, some_has}

module _ (h : Crossing → ℕ → Bool) where
  pub neither : (i : ℕ) → h one i ≡ false → h two i ≡ false → either h i ≡ false
  unfolding either
  neither i e f = rw (e, f)

  pub hit_either : (c : Crossing) (i : ℕ) → h c i ≡ true → either h i ≡ true
  unfolding either
  hit_either one i e = rw e
  hit_either two i e = rw (e, or-true)

  pub none_hit : (c : Crossing) (i : ℕ) → either h i ≡ false → h c i ≡ false
  unfolding either
  none_hit one i e = (or_none (h one i) (h two i) e).0
  none_hit two i e = (or_none (h one i) (h two i) e).1

  pub one_hit : (i : ℕ) → either h i ≡ true → (c : Crossing) × (h c i ≡ true)
  unfolding either
  one_hit i e = ⊎_elim (λ f. (one, f)) (λ f. (two, rw f at e)) (true_or_false (h one i))

  pub nobody : (n : ℕ) → ((i : ℕ) → i < n → either h i ≡ false) → Nobody ≡ first_hit h n
  unfolding first_hit
  nobody n b = rw (some_none (either h) n b)

  hit_at : (n i : ℕ) → i < n → ((k : ℕ) → k < i → either h k ≡ false) → either h i ≡ true → Row i (cond (h one i) 1 2) ≡ first_hit h n
  unfolding first_hit
  hit_at n i l b e =
      let at : least (either h) n ≡ i = least_at (either h) n i (omega arith) b (λ _. e) in
      rw (some_at (either h) n i l e, at)

  pub hit_one : (n i : ℕ) → i < n → ((k : ℕ) → k < i → either h k ≡ false) → h one i ≡ true → Row i 1 ≡ first_hit h n
  unfolding either
  hit_one n i l b e = rw e at (hit_at n i l b (rw e))

  pub hit_two : (n i : ℕ) → i < n → ((k : ℕ) → k < i → either h k ≡ false) → h one i ≡ false → h two i ≡ true → Row i 2 ≡ first_hit h n
  unfolding either
  hit_two n i l b e f = rw e at (hit_at n i l b (rw (e, f)))

-- it goes by the tests alone
pub first_hit_cong : (h g : Crossing → ℕ → Bool) (n : ℕ) → ((c : Crossing) (i : ℕ) → i < n → h c i ≡ g c i) → first_hit h n ≡ first_hit g n
unfolding first_hit either
first_hit_cong h g n f = go (some (either g) n) refl
  where
    at : least (either h) n ≡ least (either g) n
    at = least_cong (either h) (either g) n (λ i l. rw (f one i l, f two i l))

    go : (b : Bool) → some (either g) n ≡ b
        → first_hit h n ≡ cond b (Row (least (either g) n) (cond (g one (least (either g) n)) 1 2)) Nobody
    go true e = rw (at, e, f one (least (either g) n) (ltb-true _ _ e))
    go false e = rw (at, e)

pub second_low : (p d a : ℕ) → 0 < p → second p d a < p
unfolding second
second_low p d a h = mod-lt _ h

-- a turn by l slots comes to the slot after them
pub second_after : (p l a : ℕ) → second p l a ≡ after p l a
unfolding second after
second_after p l a = refl

pub start_low : (p : ℕ) (c : Crossing) (d a : ℕ) → a < p → start_at p c d a < p
start_low p one d a h = h
start_low p two d a h = second_low p d a (omega arith)

-- xs and ys have the starts of the first j rows of the plan os
pub record Starts (p l : ℕ) (ds os : List ℕ) (j : ℕ) (xs ys : List ℕ) : Type 0 where
  pub span_high : l ≤ p
  pub xs_length : j ≤ length xs
  pub ys_length : j ≤ length ys
  pub firsts : (i : ℕ) → i < j → get_or xs i 0 ≡ get_or os i 0
  pub seconds : (i : ℕ) → i < j → get_or ys i 0 ≡ start p ds os two i
  pub low : (i : ℕ) → i < j → get_or os i 0 < p

module _ (p l : ℕ) (ds os : List ℕ) (j : ℕ) (xs ys : List ℕ) (s : Starts p l ds os j xs ys) where
  near_hits : (d a : ℕ) → a < p → (c : Crossing) (i : ℕ) → i < j
      → near p l (take j xs) (take j ys) a (second p d a) c i ≡ hits p l ds os d a c i
  unfolding near hits start
  near_hits d a h one i q = rw (get_or-take j xs i 0 q, s.firsts i q) (sym (meets_apart _ _ _ _ (s.low i q) h s.span_high))
  near_hits d a h two i q =
      rw (get_or-take j ys i 0 q, s.seconds i q)
      (sym (meets_apart _ _ _ _ (start_low p two _ _ (s.low i q)) (start_low p two d a h) s.span_high))

  -- what the code's call tells of a row of delay d at the offset a
  pub told : (d a b : ℕ) (m : Met) → a < p → b ≡ second p d a → m ≡ first_near p l (take j xs) (take j ys) a b → m ≡ met_at p l ds os j d a
  unfolding met_at first_near
  told d a b m h e f =
      f ∙ rw (e, length-take-le j xs s.xs_length) (first_hit_cong _ _ j (near_hits d a h))

-- nobody is named exactly where nobody is hit
pub nobody_none : (h : Crossing → ℕ → Bool) (n : ℕ) → is_nobody (first_hit h n) ≡ not (some (either h) n)
unfolding first_hit
nobody_none h n = go (some (either h) n)
  where
    at : ℕ
    at = least (either h) n

    go : (b : Bool) → is_nobody (cond b (Row at (cond (h one at) 1 2)) Nobody) ≡ not b
    go true = refl
    go false = refl

-- a row that meets nobody is free
pub nobody_free : (p l : ℕ) (ds os : List ℕ) (n d a : ℕ) → is_nobody (met_at p l ds os n d a) ≡ free p l ds os n d a
unfolding met_at free
nobody_free p l ds os n d a = nobody_none (hits p l ds os d a) n

-- row i is the least of n that is hit, and c the first crossing in which it is
pub record FirstHit (h : Crossing → ℕ → Bool) (n i : ℕ) (c : Crossing) : Type 0 where
  pub row : i < n
  pub before : (k : ℕ) → k < i → either h k ≡ false
  pub here : h c i ≡ true
  pub first : (x : Crossing) → h x i ≡ true → numbered c ≤ numbered x

-- what `first_hit` names is that row and that crossing
pub hit_is : (h : Crossing → ℕ → Bool) (n i m : ℕ) → first_hit h n ≡ Row i m → (c : Crossing) × (m ≡ numbered c) × FirstHit h n i c
unfolding first_hit either
hit_is h n i m e = go (some (either h) n) refl e
  where
    at : ℕ
    at = least (either h) n

    pick : (x : Bool) → h one at ≡ x → at < n → either h at ≡ true → i ≡ at → m ≡ cond x 1 2
        → (c : Crossing) × (m ≡ numbered c) × FirstHit h n i c
    pick true f l s a b =
        rw (a, b) (one, refl, record { row = l; before = (least_is (either h) n).before; here = f; first = λ x _. low x })
      where
        low : (x : Crossing) → 1 ≤ numbered x
        low one = omega arith
        low two = omega arith
    pick false f l s a b =
        rw (a, b) (two, refl, record { row = l; before = (least_is (either h) n).before; here = rw f at s; first = high })
      where
        high : (x : Crossing) → h x at ≡ true → 2 ≤ numbered x
        high one g = clash g f
        high two g = omega arith

    go : (b : Bool) → some (either h) n ≡ b → cond b (Row at (cond (h one at) 1 2)) Nobody ≡ Row i m
        → (c : Crossing) × (m ≡ numbered c) × FirstHit h n i c
    go true f g = pick (h one at) refl (ltb-true _ _ f) (some_has (either h) n f) (cc) (cc)
    go false f g = never (cc)
