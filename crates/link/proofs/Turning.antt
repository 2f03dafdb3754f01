-- The circle turned by r slots: each row starts r slots on in both crossings and uses the slots r on, so the same rows meet.
-- Assumes nothing.
use mathlib.Core.Path.{◌≡◌, refl, sym, ◌∙◌, ap, ap₂}
use mathlib.Core.Bool.{not}
use mathlib.Core.List.{List}
use Prim.Native.Nat.{ℕ, ◌+◌, ◌-◌, ◌%◌, ◌≤◌, ◌<◌}
use native.Mathlib.Omega.{arith}
use native.Mathlib.Nat.{mod-mod, mod-add-mod}
use lib.Dec.{ltb}
use lib.ListN.{length, get_or, length-map}
use Rattle.ground.proofs.Bools.{same_test}
use Rattle.ground.proofs.Elements.{get_or_mapped}
use Rattle.ground.proofs.Minimum.{least_cong}
use Rattle.ground.proofs.Remainders.{same_on, same_back, back_and_on}
use Rattle.link.specs.Slots.{uses, after, meets, Uses, Meet}
use Rattle.link.specs.Rows.{Crossing, one, two, start_at, start, moved_on, hits, either, free}
use Rattle.link.specs.Range.{GoodPlan}
use Rattle.link.specs.declared.Link.{Link}
use Rattle.link.proofs.Meeting.{second_after}
use Rattle.link.proofs.OnCircle.{Apart, apart_of, apart_met, after_low, uses_true, uses_slot, meets_true, meets_slot}

module _ (p r : ℕ) (some : 0 < p) where
  -- r slots on from a
  abbrev on : ℕ → ℕ
  on = after p r

  -- r slots on and then k, or k and then r
  first_on : (a k : ℕ) → (on a + k) % p ≡ on (a + k)
  unfolding after
  first_on a k = let e : a + r + k ≡ a + k + r = omega arith in mod-add-mod (a + r) p k ∙ ap (λ (x : ℕ). x % p) e

  -- the slot that is y slots on from slot 0
  module _ (l a y : ℕ) where
    uses_on : Uses p l a (y % p) → Uses p l (on a) (on y)
    unfolding after
    uses_on u = (u.0, u.1, first_on a u.0 ∙ same_on p (a + u.0) y r u.2)

    uses_back : Uses p l (on a) (on y) → Uses p l a (y % p)
    unfolding after
    uses_back u = (u.0, u.1, same_back p (a + u.0) y r some (sym (first_on a u.0) ∙ u.2))

    pub uses_moved : uses p l (on a) (on y) ≡ uses p l a (y % p)
    uses_moved =
        same_test _ _ (λ e. uses_true p l a (y % p) (uses_back (uses_slot p l (on a) (on y) e)))
        (λ e. uses_true p l (on a) (on y) (uses_on (uses_slot p l a (y % p) e)))

  -- a used slot is a slot of the period, and r slots on from the one r slots before it
  used_low : (l x s : ℕ) → Uses p l x s → Uses p l x (s % p)
  used_low l x s u = (u.0, u.1, sym (mod-mod (x + u.0) p) ∙ ap (λ (z : ℕ). z % p) u.2)

  used_back : (l x s : ℕ) → Uses p l x s → Uses p l x (on (s + (p - r % p)))
  unfolding after
  used_back l x s u = let w = used_low l x s u in (w.0, w.1, w.2 ∙ sym (back_and_on p some r s))

  module _ (l a b : ℕ) where
    meet_on : Meet p l a b → Meet p l (on a) (on b)
    meet_on m = (on m.0, uses_on l a m.0 (used_low l a m.0 m.1), uses_on l b m.0 (used_low l b m.0 m.2))

    meet_back : Meet p l (on a) (on b) → Meet p l a b
    meet_back m =
        let y = m.0 + (p - r % p) in
        (y % p, uses_back l a y (used_back l (on a) m.0 m.1), uses_back l b y (used_back l (on b) m.0 m.2))

    pub meets_moved : meets p l (on a) (on b) ≡ meets p l a b
    meets_moved =
        same_test _ _ (λ e. meets_true p l a b some (meet_back (meets_slot p l (on a) (on b) e)))
        (λ e. meets_true p l (on a) (on b) some (meet_on (meets_slot p l a b e)))

    pub apart_moved : a < p → b < p → l ≤ p → Apart p l a b → Apart p l (on a) (on b)
    apart_moved ha hb hl w =
        apart_of p l (on a) (on b) (after_low p some r a) (after_low p some r b) hl (meets_moved ∙ apart_met p l a b ha hb hl w)

  pub after_on : (d a : ℕ) → after p d (on a) ≡ on (after p d a)
  unfolding after
  after_on d a = first_on a d ∙ sym (mod-add-mod (a + d) p r)

  pub start_on : (c : Crossing) (d a : ℕ) → start_at p c d (on a) ≡ on (start_at p c d a)
  start_on one d a = refl
  start_on two d a = rw (second_after, second_after) (after_on d a)

  module _ (ds os : List ℕ) where
    moved_at : (i : ℕ) → i < length os → get_or (moved_on p r os) i 0 ≡ on (get_or os i 0)
    moved_at i l = get_or_mapped on os 0 0 i l

    pub start_moved : (c : Crossing) (i : ℕ) → i < length os → start p ds (moved_on p r os) c i ≡ on (start p ds os c i)
    unfolding start
    start_moved c i l = ap (start_at p c (get_or ds i 0)) (moved_at i l) ∙ start_on c (get_or ds i 0) (get_or os i 0)

    met_moved : (l : ℕ) (c : Crossing) (i j : ℕ) → i < length os → j < length os
        → meets p l (start p ds (moved_on p r os) c i) (start p ds (moved_on p r os) c j)
        ≡ meets p l (start p ds os c i) (start p ds os c j)
    met_moved l c i j a b = ap₂ (meets p l) (start_moved c i a) (start_moved c j b) ∙ meets_moved l (start p ds os c i) (start p ds os c j)

    -- row j meets an earlier row exactly where it did
    pub free_moved : (l j : ℕ) → j < length os
        → free p l ds (moved_on p r os) j (get_or ds j 0) (get_or (moved_on p r os) j 0) ≡ free p l ds os j (get_or ds j 0) (get_or os j 0)
    unfolding free hits either start
    free_moved l j m =
        ap (λ (x : ℕ). not (ltb x j))
        (least_cong _ _ j (λ i q. rw (met_moved l one i j (omega arith) m, met_moved l two i j (omega arith) m)))

-- a plan in range is so however it is turned
pub good_moved : (k : Link) (ds os : List ℕ) (r : ℕ) → GoodPlan k ds os → GoodPlan k ds (moved_on k.period r os)
good_moved k ds os r g =
    let n = length-map os (after k.period r) in
    record {
      table = g.table;
      as_many = n ∙ g.as_many;
      offsets = λ i l.
          let e = get_or_mapped (after k.period r) os 0 0 i (omega arith) in
          let low = after_low k.period g.table.period_low r (get_or os i 0) in
          omega (arith, e);
    }
