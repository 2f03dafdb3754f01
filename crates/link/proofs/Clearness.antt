-- A plan is clear exactly where each row's offset is free of the rows before it. Assumes nothing.
use mathlib.Core.Path.{◌≡◌, ap}
use mathlib.Core.Bool.{true, false, not}
use mathlib.Core.List.{List}
use Prim.Native.Nat.{ℕ, ◌≤◌, ◌<◌}
use native.Mathlib.Omega.{arith}
use lib.Dec.{ltb}
use lib.ListN.{length, get_or}
use borrow.Author.Tests.{not-true}
use Rattle.link.specs.Slots.{Uses}
use Rattle.link.specs.Rows.{Crossing, one, two, start, hits, either, free, ClearIn, Clear}
use Rattle.ground.proofs.Bools.{clash, is_false}
use Rattle.ground.proofs.Minimum.{none_has, some_none, least_cong}
use Rattle.link.proofs.OnCircle.{meets_true, meets_slot}
use Rattle.link.proofs.Meeting.{neither, none_hit}

module _ {p l : ℕ} {ds os : List ℕ} where
  pub clear_in : Clear p l ds os → (c : Crossing) → ClearIn p l ds os c
  clear_in w one = w.in_one
  clear_in w two = w.in_two

  pub clear_both : ((c : Crossing) → ClearIn p l ds os c) → Clear p l ds os
  clear_both w = record { in_one = w one; in_two = w two }

module _ (p l : ℕ) (ds os : List ℕ) where
  -- at a free offset a row meets no earlier one, in either crossing
  pub free_meets_none : (n d a : ℕ) → free p l ds os n d a ≡ true → (c : Crossing) (i : ℕ) → i < n → hits p l ds os d a c i ≡ false
  unfolding free
  free_meets_none n d a f c i q = none_hit (hits p l ds os d a) c i (none_has (either (hits p l ds os d a)) n (not-true _ f) i q)

  pub clear_rows : 0 < p → ((j : ℕ) → j < length ds → free p l ds os j (get_or ds j 0) (get_or os j 0) ≡ true) → Clear p l ds os
  unfolding hits start
  clear_rows h f =
      clear_both (λ c. record {
        apart = λ i j d m q.
            clash (meets_true p l (start p ds os c i) (start p ds os c j) h q)
            (free_meets_none j (get_or ds j 0) (get_or os j 0) (f j m) c i d);
      })

  pub rows_clear : Clear p l ds os → (j : ℕ) → j < length ds → free p l ds os j (get_or ds j 0) (get_or os j 0) ≡ true
  unfolding free hits start
  rows_clear c j m = ap not (some_none _ j (λ i d. neither _ i (at one i d) (at two i d)))
    where
      at : (x : Crossing) (i : ℕ) → i < j → hits p l ds os (get_or ds j 0) (get_or os j 0) x i ≡ false
      at x i d = is_false _ (λ e. (clear_in c x).apart i j d m (meets_slot _ _ _ _ e))

-- whether an offset is free goes by the rows before
pub free_cong : (p l : ℕ) (ds os ps : List ℕ) (n d a : ℕ) → ((i : ℕ) → i < n → get_or os i 0 ≡ get_or ps i 0)
    → free p l ds os n d a ≡ free p l ds ps n d a
unfolding free hits either start
free_cong p l ds os ps n d a h = ap (λ (x : ℕ). not (ltb x n)) (least_cong _ _ n (λ i q. rw (h i q)))

pub free_table : (p l : ℕ) (ds es os : List ℕ) (n d a : ℕ) → ((i : ℕ) → i < n → get_or ds i 0 ≡ get_or es i 0)
    → free p l ds os n d a ≡ free p l es os n d a
unfolding free hits either start
free_table p l ds es os n d a h = ap (λ (x : ℕ). not (ltb x n)) (least_cong _ _ n (λ i q. rw (h i q)))

-- messages that are clear of each other at a distance are so at a shorter one
pub narrower : (p l t : ℕ) (ds os : List ℕ) → t ≤ l → Clear p l ds os → Clear p t ds os
narrower p l t ds os h w =
    clear_both (λ c. record { apart = λ i j a b m. (clear_in w c).apart i j a b (m.0, wide _ _ m.1, wide _ _ m.2) })
  where
    wide : (a s : ℕ) → Uses p t a s → Uses p l a s
    wide a s u = (u.0, omega (arith, u.1), u.2)
