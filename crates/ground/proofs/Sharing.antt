-- At most how many numbers below m have a test. They are shared out, each to one number i below n, and the shares add up. Assumes nothing.
use mathlib.Core.Path.{◌≡◌, sym, ◌∙◌}
use mathlib.Core.Bool.{Bool, true, false, cond, ◌||◌, or-true}
use mathlib.Core.Logic.{⊎_elim}
use Prim.Native.Nat.{ℕ, zero, suc, ◌+◌, ◌*◌, ◌≤◌, ◌<◌}
use native.Mathlib.Omega.{arith}
use native.Mathlib.Nat.{suc-mul, mul-one}
use lib.Dec.{ltb, eqb}
use borrow.Author.Tests.{ltb-true, lt-ltb, eqb-true, eq-eqb}
use Rattle.ground.specs.Count.{count, sum}
use Rattle.ground.specs.Least.{least}
use Rattle.ground.proofs.Bools.{is_false, same_test, true_or_false, lt_or_ge}
use Rattle.ground.proofs.Counting.{count_in_lem, count_out, count_gap, count_cong, count_or, or_of}
use Rattle.ground.proofs.Minimum.{least_is}

-- no more have a test than another that it implies
pub count_upto : (q r : ℕ → Bool) (n : ℕ) → ((s : ℕ) → s < n → q s ≡ true → r s ≡ true) → count q n ≤ count r n
unfolding count
count_upto q r zero h = omega arith
count_upto q r (suc n) h =
    let i = count_upto q r n (λ s l. h s (omega arith)) in
    ⊎_elim (λ e. omega (arith, i, count_in_lem q n e, count_in_lem r n (h n (omega arith) e)))
    (λ e. ⊎_elim (λ f. omega (arith, i, count_out q n e, count_in_lem r n f)) (λ f. omega (arith, i, count_out q n e, count_out r n f))
    (true_or_false (r n))) (true_or_false (q n))

-- no more have one of two tests than have each of them, added
pub count_either : (q r : ℕ → Bool) (n : ℕ) → count (or_of q r) n ≤ count q n + count r n
unfolding count
count_either q r zero = omega arith
count_either q r (suc n) = go (q n) (r n) (count_either q r n)
  where
    go : (x y : Bool) → count (or_of q r) n ≤ count q n + count r n
        → cond (x || y) 1 0 + count (or_of q r) n ≤ cond x 1 0 + count q n + (cond y 1 0 + count r n)
    go true true h = omega arith
    go true false h = omega arith
    go false true h = omega arith
    go false false h = omega arith

-- at most one has a test that no two have
pub count_once : (q : ℕ → Bool) (n : ℕ) → ((s t : ℕ) → s < t → t < n → q s ≡ true → q t ≡ true → ⊥) → count q n ≤ 1
unfolding count
count_once q zero h = omega arith
count_once q (suc n) h =
    ⊎_elim
    (λ e. omega (arith, count_in_lem q n e, count_gap q 0 n (omega arith) (λ s _ l. is_false (q s) (λ f. h s n l (omega arith) f e))))
    (λ e. omega (arith, count_out q n e, count_once q n (λ s t l m. h s t l (omega arith)))) (true_or_false (q n))

-- n numbers of at most b each, the first of at most e more, are at most n b + e
pub sum_most : (f : ℕ → ℕ) (b e n : ℕ) → (0 < n → f 0 ≤ b + e) → ((i : ℕ) → 0 < i → i < n → f i ≤ b) → sum f n ≤ n * b + e
unfolding sum
sum_most f b e zero first others = omega arith
sum_most f b e (suc zero) first others = omega (arith, suc-mul 0 b, first (omega arith))
sum_most f b e (suc (suc n)) first others =
    omega (
      arith,
      suc-mul (suc n) b,
      others (suc n) (omega arith) (omega arith),
      sum_most f b e (suc n) (λ _. first (omega arith)) (λ i h l. others i h (omega arith)),
    )

-- below suc n: n, or below it
below_suc : (x n : ℕ) → (eqb x n || ltb x n) ≡ ltb x (suc n)
below_suc x n = same_test _ _ there back
  where
    there : (eqb x n || ltb x n) ≡ true → ltb x (suc n) ≡ true
    there e =
        ⊎_elim (λ i. lt-ltb x (suc n) (omega (arith, eqb-true x n i))) (λ i. lt-ltb x (suc n) (omega (arith, ltb-true x n (rw i at e))))
        (true_or_false (eqb x n))

    back : ltb x (suc n) ≡ true → (eqb x n || ltb x n) ≡ true
    back e =
        ⊎_elim (λ l. rw (lt-ltb x n l, or-true)) (λ l. rw (eq-eqb x n (omega (arith, ltb-true x (suc n) e)))) (lt_or_ge x n)

-- of the numbers c below m, those with f c below n: so many have f c = 0, so many 1, .., and these add up to all
pub shares : (f : ℕ → ℕ) (m n : ℕ) → sum (λ i. count (λ c. eqb (f c) i) m) n ≡ count (λ c. ltb (f c) n) m
unfolding sum count
shares f m zero = sym (count_gap (λ c. ltb (f c) 0) 0 m (omega arith) (λ c _ _. is_false _ (λ e. omega (arith, ltb-true (f c) 0 e))))
shares f m (suc n) =
    rw (shares f m n)
    (sym (count_or (λ c. eqb (f c) n) (λ c. ltb (f c) n) m (λ c _ e l. omega (arith, eqb-true (f c) n e, ltb-true (f c) n l)))
    ∙ count_cong (λ c. eqb (f c) n || ltb (f c) n) (λ c. ltb (f c) (suc n)) m (λ c _. below_suc (f c) n))

-- at most n of them, if no two have the same f c
pub count_values : (f : ℕ → ℕ) (m n : ℕ) → ((c d : ℕ) → c < d → d < m → f c < n → f c ≡ f d → ⊥) → count (λ c. ltb (f c) n) m ≤ n
count_values f m n h = omega (arith, shares f m n, sum_most _ 1 0 n (λ l. each 0 l) (λ i _ l. each i l), mul-one n)
  where
    each : (i : ℕ) → i < n → count (λ c. eqb (f c) i) m ≤ 1
    each i l =
        count_once _ m
        (λ c d k j e g. let x = eqb-true (f c) i e in let y = eqb-true (f d) i g in h c d k j (omega arith) (omega arith))

-- c is shared out to i, the least with which it has q: no more than have q with i
pub least_has : (q : ℕ → ℕ → Bool) (m n i : ℕ) → i < n → count (λ c. eqb (least (q c) n) i) m ≤ count (λ c. q c i) m
least_has q m n i l = count_upto _ _ m (λ c _ e. has c (eqb-true (least (q c) n) i e))
  where
    has : (c : ℕ) → least (q c) n ≡ i → q c i ≡ true
    has c e = rw e at ((least_is (q c) n).here (omega (arith, e)))
