-- The least number with q from a place on, and a walk over all that have q, one after the other. Assumes nothing.
use mathlib.Core.Path.{◌≡◌, sym}
use mathlib.Core.Bool.{Bool, true, false, ◌&&◌}
use mathlib.Core.Logic.{⊎_elim}
use Prim.Native.Nat.{ℕ, ◌+◌, ◌≤◌, ◌<◌}
use native.Mathlib.Omega.{arith}
use lib.Dec.{leb}
use borrow.Author.Tests.{leb-true, le-leb}
use Rattle.ground.specs.Least.{least, least_from}
use Rattle.ground.proofs.Bools.{clash, is_false, lt_or_ge, and_parts, and_both}
use Rattle.ground.proofs.Minimum.{least_is, least_at}

module _ (q : ℕ → Bool) where
  -- how code shows that it has found it
  pub from_at : (a n k : ℕ) → a ≤ k → k ≤ n → ((i : ℕ) → a ≤ i → i < k → q i ≡ false) → (k < n → q k ≡ true) → least_from q a n ≡ k
  unfolding least_from
  from_at a n k h l b here = least_at _ n k l before (λ m. rw (le-leb a k h) (here m))
    where
      before : (i : ℕ) → i < k → (leb a i && q i) ≡ false
      before i m = is_false _ (λ e. let w = and_parts (leb a i) (q i) e in clash w.1 (b i (leb-true a i w.0) m))

  -- one number more that does not have q
  pub between : (a k : ℕ) → ((i : ℕ) → a ≤ i → i < k → q i ≡ false) → q k ≡ false → (i : ℕ) → a ≤ i → i < k + 1 → q i ≡ false
  between a k b h i l m = ⊎_elim (λ o. b i l o) (λ o. let e : i ≡ k = omega arith in rw e h) (lt_or_ge i k)

  -- what it has found: it is not past n, none between has q, and it has q itself
  from_high : (a n : ℕ) → least_from q a n ≤ n
  unfolding least_from
  from_high a n = (least_is (λ i. leb a i && q i) n).low

  pub from_before : (a n i : ℕ) → a ≤ i → i < least_from q a n → q i ≡ false
  unfolding least_from
  from_before a n i h l = is_false (q i) (λ e. clash (and_both _ _ (le-leb a i h) e) ((least_is (λ i. leb a i && q i) n).before i l))

  from_here : (a n : ℕ) → least_from q a n < n → (a ≤ least_from q a n) × (q (least_from q a n) ≡ true)
  unfolding least_from
  from_here a n l =
      let w = and_parts (leb a (least_from q a n)) (q (least_from q a n)) ((least_is (λ i. leb a i && q i) n).here l) in
      (leb-true a (least_from q a n) w.0, w.1)

  pub from_low : (a n : ℕ) → a ≤ n → a ≤ least_from q a n
  from_low a n h = ⊎_elim (λ l. (from_here a n l).0) (λ g. omega arith) (lt_or_ge (least_from q a n) n)

  -- where none before a has q it is the least of all
  pub from_least : (a n : ℕ) → ((i : ℕ) → i < a → q i ≡ false) → least_from q a n ≡ least q n
  from_least a n b =
      sym (least_at q n (least_from q a n) (from_high a n) (λ i l. ⊎_elim (b i) (λ g. from_before a n i g l) (lt_or_ge i a))
      (λ l. (from_here a n l).1))

-- The walk looks for a number with r, and only those with q can have it: it stands at k, and none before k has r.
pub record Walked (q r : ℕ → Bool) (n k : ℕ) : Type 0 where
  pub high : k ≤ n
  pub here : k < n → q k ≡ true
  pub before : (i : ℕ) → i < k → r i ≡ false

module _ (q r : ℕ → Bool) (n : ℕ) (only : (i : ℕ) → i < n → q i ≡ false → r i ≡ false) where
  -- on to the next number with q
  pub walk_on : (a k : ℕ) → k ≡ least_from q a n → ((i : ℕ) → i < a → r i ≡ false) → Walked q r n k
  walk_on a k e b =
      rw e (record {
        high = from_high q a n;
        here = λ l. (from_here q a n l).1;
        before = λ i l. ⊎_elim (b i) (λ g. only i (omega (arith, from_high q a n)) (from_before q a n i g l)) (lt_or_ge i a);
      })

module _ (q r : ℕ → Bool) (n k : ℕ) (w : Walked q r n k) where
  pub walk_ends : n ≤ k → (i : ℕ) → i < n → r i ≡ false
  walk_ends h i l = w.before i (omega arith)

  pub walk_finds : r k ≡ true → least r n ≡ k
  walk_finds e = least_at r n k w.high w.before (λ _. e)
