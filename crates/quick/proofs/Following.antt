-- In First Fit's plan each row but the first starts right after an earlier one, in one of the crossings: one slot before its offset it
-- met that row. Assumes nothing.
use mathlib.Core.Path.{◌≡◌, refl, subst}
use mathlib.Core.Bool.{Bool, true, false}
use mathlib.Core.Logic.{⊎_elim}
use mathlib.Core.List.{List}
use Prim.Native.Nat.{ℕ, suc, ◌-◌, ◌≤◌, ◌<◌}
use native.Mathlib.Omega.{arith}
use lib.ListN.{get_or}
use borrow.Author.Tests.{ltb-true, not-false}
use Rattle.ground.specs.Least.{least, some}
use Rattle.ground.proofs.Bools.{clash, lt_or_ge}
use Rattle.ground.proofs.Minimum.{some_has}
use Rattle.link.specs.Rows.{Crossing, one, start_at, start, hits, either, free}
use Rattle.link.proofs.OnCircle.{apart_of}
use Rattle.link.proofs.Clearness.{free_meets_none}
use Rattle.link.proofs.Meeting.{start_low, one_hit}
use Rattle.link.proofs.Touching.{start_back, right_after}
use Rattle.quick.specs.Loads.{Follows}
use Rattle.quick.specs.Right.{LeastFreeOffset}

module _ (p l : ℕ) (ds os : List ℕ) (span_high : l ≤ p) (some_span : 0 < l) where
  -- what a row of delay d meets at the offset a
  abbrev met : ℕ → ℕ → Crossing → ℕ → Bool
  met d a = hits p l ds os d a

  -- the offset b + 1 is free for row i and b is not
  behind : (i b : ℕ) → get_or os i 0 ≡ suc b → suc b < p → ((e : ℕ) → e < i → get_or os e 0 < p)
      → free p l ds os i (get_or ds i 0) (suc b) ≡ true → free p l ds os i (get_or ds i 0) b ≡ false → Follows p l ds os i
  unfolding free hits start
  behind i b at high before f g =
      let d = get_or ds i 0 in
      let taken = not-false (some (either (met d b)) i) g in
      let e = least (either (met d b)) i in
      let q : e < i = ltb-true _ _ taken in
      let w = one_hit (met d b) e (some_has (either (met d b)) i taken) in
      let x = w.0 in
      let there = start_low p x (get_or ds e 0) (get_or os e 0) (before e q) in
      let apart = apart_of p l _ _ there (start_low p x d (suc b) high) span_high (free_meets_none p l ds os i d (suc b) f x e q) in
      record {
        earlier = e;
        is_earlier = q;
        crossing = x;
        right_after = rw at (right_after p l (start p ds os x e) (start_at p x d (suc b)) (start_at p x d b) some_span span_high there
            (start_low p x d b (omega arith)) apart (start_back p x d b high) w.1);
      }

  module _ (n : ℕ) (each : (i : ℕ) → i < n → LeastFreeOffset p l ds os i) where
    first_at_0 : 0 < n → get_or os 0 0 ≡ 0
    unfolding free least
    first_at_0 h = ⊎_elim (λ a. clash refl ((each 0 h).least 0 a)) (λ a. omega arith) (lt_or_ge 0 (get_or os 0 0))

    -- no later row has the offset 0, where row 0 stands
    not_at_0 : (i : ℕ) → 0 < i → i < n → 0 < get_or os i 0
    unfolding hits start
    not_at_0 i h q =
        let apart = apart_of p l (get_or os 0 0) (get_or os i 0) (each 0 (omega arith)).low (each i q).low span_high
        (free_meets_none p l ds os i (get_or ds i 0) (get_or os i 0) (each i q).is_free one 0 h) in
        ⊎_elim (λ a. a) (λ a. absurd (omega (arith, first_at_0 (omega arith), apart))) (lt_or_ge 0 (get_or os i 0))

    pub follows : (i : ℕ) → 0 < i → i < n → Follows p l ds os i
    follows i h q =
        let a = get_or os i 0 in
        let w = each i q in
        let at : a ≡ suc (a - 1) = omega (arith, not_at_0 i h q) in
        behind i (a - 1) at (omega (arith, w.low)) (λ e k. (each e (omega arith)).low)
        (subst (λ (z : ℕ). free p l ds os i (get_or ds i 0) z ≡ true) at w.is_free) (w.least (a - 1) (omega arith))
