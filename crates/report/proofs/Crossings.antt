-- The starts that the code hands to `crossing` are those of the plan's crossings. Assumes nothing.
use mathlib.Core.Path.{◌≡◌, refl, ◌∙◌, ap, ap₂, fun_ext}
use mathlib.Core.Bool.{Bool, not}
use mathlib.Core.List.{List}
use Prim.Native.Nat.{ℕ, ◌+◌, ◌≤◌, ◌<◌}
use native.Mathlib.Omega.{arith}
use lib.Dec.{ltb}
use lib.ListN.{length, get_or, take, set, length-set}
use lib.Seq.{length-take-le, get_or-take}
use Rattle.link.specs.Limits.{max_rows}
use Rattle.link.specs.Rows.{Crossing, one, two, second, start, Clear}
use Rattle.link.specs.Range.{InRange}
use Rattle.ground.proofs.Filling.{stored}
use Rattle.link.proofs.Meeting.{start_low}
use Rattle.link.proofs.Clearness.{clear_in}
use Rattle.ground.proofs.Minimum.{least_cong}
use Rattle.report.specs.Free.{used_of, free_of, is_free, stretch_of}
use Rattle.report.specs.Steps.{Placed, free_at}
use Rattle.report.specs.Answer.{telling, told}
use Rattle.report.specs.declared.Stretch.{Stretch}

-- xs has the starts of the crossing c, row by row
pub record StartsOf (p : ℕ) (ds os : List ℕ) (c : Crossing) (xs : List ℕ) : Type 0 where
  pub as_many : length xs ≡ length ds
  pub each : (i : ℕ) → i < length ds → get_or xs i 0 ≡ start p ds os c i

-- which slots are free goes by the starts
pub same_free : (p t : ℕ) (ds os : List ℕ) (c : Crossing) (xs : List ℕ) → StartsOf p ds os c xs → free_at p t xs ≡ is_free p t ds os c
unfolding free_of used_of
same_free p t ds os c xs w =
    fun_ext (λ s. rw w.as_many (ap (λ (k : ℕ). not (ltb k (length ds))) (least_cong _ _ (length ds) (λ i l. rw (w.each i l)))))

module _ {p t : ℕ} {ds os : List ℕ} (r : InRange p t ds os) where
  pub placed : {c : Crossing} {xs : List ℕ} → 0 < t → Clear p t ds os → StartsOf p ds os c xs → Placed p t xs
  unfolding start
  placed {c} h k w =
      record {
        size_low = h;
        size_high = r.span_high;
        low = λ i l. rw (w.each i (omega (arith, w.as_many))) (start_low p c _ _ (r.offsets i (omega (arith, w.as_many, r.as_many))));
        apart = λ i j l m s.
            (clear_in k c).apart i j l (omega (arith, w.as_many))
            (rw (w.each i (omega (arith, w.as_many)), w.each j (omega (arith, w.as_many))) at s);
      }

  pub firsts : StartsOf p ds os one os
  unfolding start
  firsts = record { as_many = r.as_many; each = λ i l. refl }

-- the rows before j have their second starts in ss
pub record Seconds (p : ℕ) (ds os ss : List ℕ) (j : ℕ) : Type 0 where
  pub room : length ss ≡ max_rows
  pub each : (i : ℕ) → i < j → get_or ss i 0 ≡ start p ds os two i

module _ {p t : ℕ} {ds os ss : List ℕ} {j : ℕ} (r : InRange p t ds os) (w : Seconds p ds os ss j) where
  pub one_more : {b : ℕ} → j < length ds → b ≡ second p (get_or ds j 0) (get_or os j 0) → Seconds p ds os (set ss j b) (j + 1)
  unfolding start
  one_more {b} l e =
      record {
        room = length-set ss j b ∙ w.room;
        each = stored _ ss j b (omega (arith, r.rows_high, w.room)) w.each e;
      }

  fits : length ds ≤ length ss
  fits = omega (arith, r.rows_high, w.room)

  pub seconds : length ds ≤ j → StartsOf p ds os two (take (length ds) ss)
  seconds l =
      record {
        as_many = length-take-le (length ds) ss fits;
        each = λ i q. get_or-take (length ds) ss i 0 q ∙ w.each i (omega arith);
      }

-- the numbers of a call are the crossing's, and those of both calls are the answer
module _ {p : ℕ} (t : ℕ) {ds os : List ℕ} where
  of_crossing : {c : Crossing} {xs : List ℕ} {a : Stretch} → StartsOf p ds os c xs →
      a ≡ stretch_of (free_at p t xs) p → a ≡ stretch_of (is_free p t ds os c) p
  of_crossing {c} {xs} w e = e ∙ ap (λ (q : ℕ → Bool). stretch_of q p) (same_free p t ds os c xs w)

  pub tells : {xs ys : List ℕ} {a b : Stretch} → StartsOf p ds os one xs → StartsOf p ds os two ys →
      a ≡ stretch_of (free_at p t xs) p → b ≡ stretch_of (free_at p t ys) p → telling a b ≡ told p t ds os
  unfolding told
  tells u v e f = ap₂ telling (of_crossing u e) (of_crossing v f)
