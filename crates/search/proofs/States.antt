-- The offsets that steps lead to: row 0 stands at 0, and each step leaves one row less to place. Assumes nothing.
use mathlib.Core.Path.{◌≡◌, refl, sym, ap, ◌∙◌}
use mathlib.Core.Bool.{true, false, not}
use mathlib.Core.List.{List}
use Prim.Native.Nat.{ℕ, zero, suc, ◌-◌, ◌<◌, ◌≤◌}
use native.Mathlib.Omega.{arith}
use lib.Dec.{ltb}
use lib.ListN.{length, get_or, length-set, length-replicate, get_or-replicate}
use lib.Seq.{get_or-set_same, get_or-set_other}
use borrow.Author.Tests.{lt-ltb, le-ltb, ltb-true}
use Rattle.ground.specs.Count.{count}
use Rattle.ground.proofs.Counting.{count_run, count_less, count_front}
use Rattle.link.specs.Limits.{max_rows}
use Rattle.link.proofs.OnCircle.{after_low}
use Rattle.search.specs.Steps.{Step, placed, puts, put, is_step}
use Rattle.search.specs.Builds.{begin}
use Rattle.search.proofs.Offsets.{offset_low}
use Rattle.search.proofs.Numbers.{names}

-- u of the n rows are not placed
pub record At (p n u : ℕ) (s : List ℕ) : Type 0 where
  pub long : n ≤ length s
  pub first : get_or s 0 0 ≡ 0
  pub left : count (λ i. not (placed p s i)) n ≡ u

pub is_placed : (p : ℕ) (s : List ℕ) (i : ℕ) → get_or s i 0 < p → placed p s i ≡ true
unfolding placed
is_placed p s i h = lt-ltb _ _ h

pub placed_low : (p : ℕ) (s : List ℕ) (i : ℕ) → placed p s i ≡ true → get_or s i 0 < p
unfolding placed
placed_low p s i e = ltb-true _ _ e

pub not_placed : (p : ℕ) (s : List ℕ) (i : ℕ) → p ≤ get_or s i 0 → placed p s i ≡ false
unfolding placed
not_placed p s i h = le-ltb _ _ h

pub puts_low : (p l : ℕ) (ds s : List ℕ) (k : Step) → 0 < p → puts p l ds s k < p
unfolding puts
puts_low p l ds s k h = offset_low p h k.crossing _ _ (after_low p h l _)

module _ (p l : ℕ) (ds s : List ℕ) (k : Step) where
  pub put_other : (i : ℕ) → (i ≡ k.row → ⊥) → get_or (put p l ds s k) i 0 ≡ get_or s i 0
  unfolding put
  put_other i n = get_or-set_other s k.row i (puts p l ds s k) 0 n

  pub put_here : k.row < length s → get_or (put p l ds s k) k.row 0 ≡ puts p l ds s k
  unfolding put
  put_here h = get_or-set_same s k.row (puts p l ds s k) 0 h

  pub placed_other : (i : ℕ) → (i ≡ k.row → ⊥) → placed p (put p l ds s k) i ≡ placed p s i
  unfolding placed
  placed_other i n = ap (λ (x : ℕ). ltb x p) (put_other i n)

  pub placed_here : 0 < p → k.row < length s → placed p (put p l ds s k) k.row ≡ true
  placed_here h l' = is_placed p _ k.row (rw (put_here l') (puts_low p l ds s k h))

  length_put : length (put p l ds s k) ≡ length s
  unfolding put
  length_put = length-set s k.row (puts p l ds s k)

  pub put_at : (n u : ℕ) → 0 < p → is_step p n s k ≡ true → At p n (suc u) s → At p n u (put p l ds s k)
  put_at n u h e a =
      let w = names p n s k e in
      let c = count_less (λ i. not (placed p s i)) (λ i. not (placed p (put p l ds s k) i)) k.row n w.row_low
      (ap not (not_placed p s k.row w.row_free)) (ap not (placed_here h (omega (arith, w.row_low, a.long))))
      (λ i q. ap not (sym (placed_other i q))) in
      record {
        long = omega (arith, length_put, a.long);
        first = put_other 0 (λ z. let q : get_or s 0 0 ≡ get_or s k.row 0 = ap (λ (x : ℕ). get_or s x 0) z in absurd
            (omega (arith, a.first, w.row_free))) ∙ a.first;
        left = omega (arith, c, a.left);
      }

-- row 0 stands at offset 0, and no other row is placed
module _ (p n : ℕ) (some : 0 < p) (one : 0 < n) (few : n ≤ max_rows) where
  pub begin_free : (i : ℕ) → i < n → placed p (begin p) i ≡ true → i ≡ 0
  begin_free zero h e = refl
  begin_free (suc i) h e =
      absurd (omega (arith, placed_low p (begin p) (suc i) e, get_or-replicate {A = ℕ} (max_rows - 1) i p 0 (omega arith)))

  others_free : (i : ℕ) → suc i < max_rows → not (placed p (begin p) (suc i)) ≡ true
  others_free i h = ap not (not_placed p (begin p) (suc i) (omega (arith, get_or-replicate {A = ℕ} (max_rows - 1) i p 0 (omega arith))))

  all_but_one : (m : ℕ) → suc m ≤ max_rows → count (λ i. not (placed p (begin p) i)) (suc m) ≡ m
  unfolding count
  all_but_one m h =
      count_front (λ i. not (placed p (begin p) i)) m
      ∙ rw (
        is_placed p (begin p) 0 some,
        count_run (λ i. not (placed p (begin p) (suc i))) 0 m (omega arith) (λ i a b. others_free i (omega arith)),
      ) (omega arith)

  pub begin_at : At p n (n - 1) (begin p)
  begin_at =
      let e : n ≡ suc (n - 1) = omega arith in
      record {
        long = omega (arith, length-replicate (max_rows - 1) p);
        first = refl;
        left = ap (count (λ i. not (placed p (begin p) i))) e ∙ all_but_one (n - 1) (omega arith);
      }
