-- Counting the numbers below n that have a test: gaps, runs, two tests that exclude each other, and the rest; round a circle; by their
-- places; and those of a list. Assumes nothing.
use mathlib.Core.Path.{◌≡◌, refl, sym, ◌∙◌, ap}
use mathlib.Core.Bool.{Bool, true, false, not, cond, ◌&&◌, ◌||◌, and-true}
use mathlib.Core.List.{List, [], ◌∷◌, Memᴰ}
use mathlib.Core.Logic.{⊎_elim}
use Prim.Native.Nat.{ℕ, zero, suc, ◌+◌, ◌-◌, ◌≤◌, ◌<◌}
use native.Mathlib.Omega.{arith}
use lib.Dec.{eqb}
use lib.ListN.{length}
use borrow.Author.Tests.{eqb-true, eqb-false, not-true}
use Rattle.ground.proofs.Bools.{clash, is_false, and_parts, true_or_false, lt_or_ge}
use Rattle.ground.specs.Count.{count, count_in}

-- what no number from x to before y changes is at y what it was at x
pub same_up : {A : Type 0} (f : ℕ → A) (x y : ℕ) → x ≤ y → ((s : ℕ) → x ≤ s → s < y → f (suc s) ≡ f s) → f y ≡ f x
same_up f x zero l h = let e : 0 ≡ x = omega arith in ap f e
same_up f x (suc y) l h =
    ⊎_elim (λ m. let e : suc y ≡ x = omega arith in ap f e)
    (λ m. h y m (omega arith) ∙ same_up f x y m (λ s a b. h s a (omega arith))) (lt_or_ge y x)

module _ (q : ℕ → Bool) where
  pub count_in_lem : (n : ℕ) → q n ≡ true → count q (suc n) ≡ suc (count q n)
  unfolding count
  count_in_lem n e = rw e (omega arith)

  pub count_out : (n : ℕ) → q n ≡ false → count q (suc n) ≡ count q n
  unfolding count
  count_out n e = rw e (omega arith)

  pub count_gap : (x y : ℕ) → x ≤ y → ((s : ℕ) → x ≤ s → s < y → q s ≡ false) → count q y ≡ count q x
  count_gap x y l h = same_up (count q) x y l (λ s a b. count_out s (h s a b))

  pub count_run : (x y : ℕ) → x ≤ y → ((s : ℕ) → x ≤ s → s < y → q s ≡ true) → count q y ≡ count q x + (y - x)
  count_run x zero l h = let e : 0 ≡ x = omega arith in omega (arith, ap (count q) e)
  count_run x (suc y) l h =
      ⊎_elim (λ m. let e : suc y ≡ x = omega arith in omega (arith, ap (count q) e))
      (λ m. omega (arith, count_in_lem y (h y m (omega arith)), count_run x y m (λ s a b. h s a (omega arith)))) (lt_or_ge y x)

  pub count_low : (n : ℕ) → count q n ≤ n
  unfolding count
  count_low zero = omega arith
  count_low (suc n) =
      ⊎_elim (λ e. omega (arith, count_low n, count_in_lem n e)) (λ e. omega (arith, count_low n, count_out n e)) (true_or_false (q n))

  pub count_none : (n : ℕ) → count q n ≡ 0 → (s : ℕ) → s < n → q s ≡ false
  count_none zero h s l = absurd (omega arith)
  count_none (suc n) h s l =
      ⊎_elim (λ m. count_none n (omega (arith, count_out n last)) s m) (λ m. let i : s ≡ n = omega arith in rw i last) (lt_or_ge s n)
    where
      last : q n ≡ false
      last = is_false _ (λ e. omega (arith, count_in_lem n e))

pub count_cong : (q r : ℕ → Bool) (n : ℕ) → ((s : ℕ) → s < n → q s ≡ r s) → count q n ≡ count r n
unfolding count
count_cong q r zero h = refl
count_cong q r (suc n) h = rw (h n (omega arith), count_cong q r n (λ s l. h s (omega arith)))

-- the numbers that have a test, and those that have it not
pub count_not : (q : ℕ → Bool) (n : ℕ) → count (λ s. not (q s)) n + count q n ≡ n
unfolding count
count_not q zero = omega arith
count_not q (suc n) =
    let i = count_not q n in
    ⊎_elim (λ e. omega (arith, count_in_lem q n e, count_out (λ s. not (q s)) n (ap not e)))
    (λ e. omega (arith, count_out q n e, count_in_lem (λ s. not (q s)) n (ap not e))) (true_or_false (q n))

abbrev pub or_of : (ℕ → Bool) → (ℕ → Bool) → ℕ → Bool
or_of q r s = q s || r s

-- two tests that no number below n has both of
pub count_or : (q r : ℕ → Bool) (n : ℕ) → ((s : ℕ) → s < n → q s ≡ true → r s ≡ true → ⊥) → count (or_of q r) n ≡ count q n + count r n
unfolding count
count_or q r zero h = omega arith
count_or q r (suc n) h =
    let i = count_or q r n (λ s l. h s (omega arith)) in
    ⊎_elim
    (λ e. let f = is_false (r n) (h n (omega arith) e) in
    omega (arith, count_in_lem q n e, count_out r n f, count_in_lem (or_of q r) n (rw e)))
    (λ e. ⊎_elim (λ f. omega (arith, count_out q n e, count_in_lem r n f, count_in_lem (or_of q r) n (rw (e, f))))
    (λ f. omega (arith, count_out q n e, count_out r n f, count_out (or_of q r) n (rw (e, f)))) (true_or_false (r n)))
    (true_or_false (q n))

-- some number that is counted
pub count_some : (q : ℕ → Bool) (n : ℕ) → 0 < count q n → (j : ℕ) × (j < n) × (q j ≡ true)
unfolding count
count_some q zero h = absurd (omega arith)
count_some q (suc n) h =
    ⊎_elim (λ e. (n, omega arith, e))
    (λ e. let w = count_some q n (omega (arith, count_out q n e)) in (w.0, omega (arith, w.1), w.2)) (true_or_false (q n))

-- one number loses the property
pub count_less : (q r : ℕ → Bool) (j n : ℕ) → j < n → q j ≡ true → r j ≡ false → ((i : ℕ) → (i ≡ j → ⊥) → q i ≡ r i)
    → count q n ≡ suc (count r n)
count_less q r j zero l e f h = absurd (omega arith)
count_less q r j (suc n) l e f h = ⊎_elim (λ m. before m (count_less q r j n m e f h)) (λ m. last (omega arith)) (lt_or_ge j n)
  where
    before : j < n → count q n ≡ suc (count r n) → count q (suc n) ≡ suc (count r (suc n))
    before m i =
        let s = h n (λ t. omega arith) in
        ⊎_elim (λ t. omega (arith, i, count_in_lem q n (s ∙ t), count_in_lem r n t))
        (λ t. omega (arith, i, count_out q n (s ∙ t), count_out r n t))
        (true_or_false (r n))

    last : n ≡ j → count q (suc n) ≡ suc (count r (suc n))
    last s =
        omega (arith, count_in_lem q n (rw s e), count_out r n (rw s f), count_cong q r n (λ i k. h i (λ t. omega arith)))

-- counted from the front
pub count_front : (q : ℕ → Bool) (n : ℕ) → count q (suc n) ≡ cond (q 0) 1 0 + count (λ i. q (suc i)) n
unfolding count
count_front q zero = refl
count_front q (suc n) =
    ⊎_elim (λ e. omega (arith, count_in_lem q (suc n) e, count_in_lem (λ i. q (suc i)) n e, count_front q n))
    (λ e. omega (arith, count_out q (suc n) e, count_out (λ i. q (suc i)) n e, count_front q n)) (true_or_false (q (suc n)))

-- once round a circle of p numbers, from wherever one begins
pub count_turn : (q : ℕ → Bool) (p : ℕ) → ((x : ℕ) → q (x + p) ≡ q x) → (r : ℕ) → count (λ s. q (s + r)) p ≡ count q p
count_turn q p h zero = count_cong (λ s. q (s + 0)) q p (λ s _. let e : s + 0 ≡ s = omega arith in rw e)
count_turn q p h (suc r) =
    let here = count_front (λ s. q (s + r)) p in
    let on = count_cong (λ s. q (s + suc r)) (λ s. q (suc s + r)) p (λ s _. let e : s + suc r ≡ suc s + r = omega arith in rw e) in
    let e : p + r ≡ 0 + r + p = omega arith in
    let last : q (p + r) ≡ q (0 + r) = rw e (h (0 + r)) in
    ⊎_elim (λ t. omega (arith, on, here, rw t at here, count_in_lem (λ s. q (s + r)) p (last ∙ t), count_turn q p h r))
    (λ t. omega (arith, on, here, rw t at here, count_out (λ s. q (s + r)) p (last ∙ t), count_turn q p h r)) (true_or_false (q (0 + r)))

-- f, but not at a
abbrev without : (ℕ → Bool) → ℕ → ℕ → Bool
without f a s = f s && not (eqb s a)

without_it : (f : ℕ → Bool) (a : ℕ) → without f a a ≡ false
without_it f a = is_false _ (λ t. eqb-false a a (not-true _ (and_parts (f a) (not (eqb a a)) t).1) refl)

without_else : (f : ℕ → Bool) (a s : ℕ) → (s ≡ a → ⊥) → f s ≡ without f a s
without_else f a s d = rw (is_false (eqb s a) (λ t. d (eqb-true _ _ t)), and-true)

earlier : (i n : ℕ) → i < suc n → (i ≡ n → ⊥) → i < n
earlier i n l d = ⊎_elim (λ m. m) (λ m. absurd (d (omega arith))) (lt_or_ge i n)

-- each number below p that has f is one of the places e 0, .., e (n-1)
abbrev pub AtPlaces : (ℕ → Bool) → ℕ → (ℕ → ℕ) → ℕ → Type 0
AtPlaces f p e n = (s : ℕ) → s < p → f s ≡ true → (i : ℕ) × (i < n) × (e i ≡ s)

module _ (f : ℕ → Bool) (p : ℕ) (e : ℕ → ℕ) (n : ℕ) (h : AtPlaces f p e (suc n)) where
  places_without : AtPlaces (without f (e n)) p e n
  places_without s l u =
      let v = and_parts (f s) (not (eqb s (e n))) u in
      let w = h s l v.0 in
      (w.0, earlier w.0 n w.1 (λ d. eqb-false s (e n) (not-true _ v.1) (sym w.2 ∙ ap e d)), w.2)

  places_out : f (e n) ≡ false → AtPlaces f p e n
  places_out t s l u = let w = h s l u in (w.0, earlier w.0 n w.1 (λ d. clash (rw (← d, w.2) u) t), w.2)

-- where no two places are the same, there are as many numbers below p that have f as places that have it
pub count_places : (f : ℕ → Bool) (p : ℕ) (e : ℕ → ℕ) (n : ℕ) → ((i : ℕ) → i < n → e i < p)
    → ((i j : ℕ) → i < j → j < n → e i ≡ e j → ⊥) → AtPlaces f p e n → count f p ≡ count (λ i. f (e i)) n
unfolding count
count_places f p e zero low apart h =
    count_gap f 0 p (omega arith) (λ s _ l. is_false (f s) (λ t. let w = h s l t in omega (arith, w.1)))
count_places f p e (suc n) low apart h =
    let lower : (i : ℕ) → i < n → e i < p = λ i l. low i (omega arith) in
    let differ : (i j : ℕ) → i < j → j < n → e i ≡ e j → ⊥ = λ i j l m. apart i j l (omega arith) in
    ⊎_elim (λ t. in_last t (count_places (without f (e n)) p e n lower differ (places_without f p e n h)))
    (λ t. count_places f p e n lower differ (places_out f p e n h t) ∙ sym (count_out (λ i. f (e i)) n t)) (true_or_false (f (e n)))
  where
    -- the last place, and the others
    in_last : f (e n) ≡ true → count (without f (e n)) p ≡ count (λ i. without f (e n) (e i)) n
        → count f p ≡ count (λ i. f (e i)) (suc n)
    in_last t others =
        let same : (i : ℕ) → i < n → without f (e n) (e i) ≡ f (e i) =
        λ i l. sym (without_else f (e n) (e i) (apart i n l (omega arith))) in
        count_less f (without f (e n)) (e n) p (low n (omega arith)) t (without_it f (e n)) (without_else f (e n))
        ∙ ap suc (others ∙ count_cong (λ i. without f (e n) (e i)) (λ i. f (e i)) n same) ∙ sym (count_in_lem (λ i. f (e i)) n t)

-- of a list: none that is not counted, and no more than there are
pub count_in_none : {A : Type 0} (f : A → Bool) (xs : List A) → ((x : A) → Memᴰ x xs → f x ≡ false) → count_in f xs ≡ 0
unfolding count_in
count_in_none f [] h = refl
count_in_none f (x ∷ xs) h = rw (h x (Memᴰ.head refl)) (omega (arith, count_in_none f xs (λ y m. h y (Memᴰ.tail m))))

pub count_in_low : {A : Type 0} (f : A → Bool) (xs : List A) → count_in f xs ≤ length xs
unfolding count_in
count_in_low f [] = omega arith
count_in_low f (x ∷ xs) = go (f x) (count_in_low f xs)
  where
    go : (b : Bool) → count_in f xs ≤ length xs → cond b 1 0 + count_in f xs ≤ suc (length xs)
    go true h = omega arith
    go false h = omega arith
