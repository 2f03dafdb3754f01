-- How many of several starts one message can meet. It meets those in the 2l-1 slots around its start, and of starts that are s slots
-- apart from each other no two are in the same s slots. Assumes nothing.
use mathlib.Core.Path.{◌≡◌, sym, ap, ◌∙◌}
use mathlib.Core.Bool.{Bool, true, false, not, ◌&&◌}
use mathlib.Core.Logic.{inl, inr, ⊎_elim}
use Prim.Native.Nat.{ℕ, ◌+◌, ◌-◌, ◌*◌, ◌/◌, ◌%◌, ◌≤◌, ◌<◌}
use native.Mathlib.Omega.{arith}
use native.Mathlib.Nat.{add-mod_left, mod-eq_of_lt, div-mul-le_self, lt-div-mul-add, div-lt_iff_lt-mul}
use borrow.Author.Tests.{not-true, lt-ltb}
use lib.Dec.{ltb}
use Rattle.ground.specs.Count.{count}
use Rattle.ground.proofs.Bools.{clash, and_parts, lt_or_ge}
use Rattle.ground.proofs.Sharing.{count_upto, count_values}
use Rattle.link.specs.Slots.{after, meets}
use Rattle.link.proofs.OnCircle.{Apart, Turned, turned, apart_of, apart_met, after_low}
use Rattle.link.proofs.Turning.{meets_moved, apart_moved, after_on}

-- the turn that brings the start a to b
abbrev turn_to : ℕ → ℕ → ℕ → ℕ
turn_to p a b = p - a + b

comes_to : (p a b : ℕ) → a < p → b < p → after p (turn_to p a b) a ≡ b
unfolding after
comes_to p a b ha hb =
    let e : a + (p - a + b) ≡ p + b = omega arith in
    ap (λ (x : ℕ). x % p) e ∙ add-mod_left p b ∙ mod-eq_of_lt hb

ends_at_0 : (p l a : ℕ) → a < p → l ≤ p → 0 < l → after p l a ≡ 0 → a + l ≡ p
unfolding after
ends_at_0 p l a ha hl some e = go (rw e at (turned p (a + l) (omega arith)))
  where
    go : Turned p (a + l) 0 → a + l ≡ p
    go (inl u) = omega arith
    go (inr u) = omega arith

module _ (p l a : ℕ) (hl : l ≤ p) (some : 0 < l) (ha : a < p) where
  -- turned so that the message starts in slot l-1, those that meet it start in the first 2l-1 slots
  around_it : (z : ℕ) → z < p → meets p l a z ≡ true → after p (turn_to p a (l - 1)) z < l + l - 1
  around_it z hz e = ⊎_elim (λ h. h) (λ h. clash e (far h)) (lt_or_ge y (l + l - 1))
    where
      r : ℕ
      r = turn_to p a (l - 1)

      y : ℕ
      y = after p r z

      far : l + l - 1 ≤ y → meets p l a z ≡ false
      far h =
          let low : y < p = after_low p (omega arith) r z in
          sym (meets_moved p r (omega arith) l a z)
          ∙ rw (comes_to p a (l - 1) ha (omega arith)) (apart_met p l (l - 1) y (omega arith) low hl (omega arith))

  abbrev b : ℕ
  b = after p l a

  -- turned so that the message right after it starts in slot 0, those that meet that one but not it start in the first l slots
  behind_it : (z : ℕ) → z < p → meets p l b z ≡ true → meets p l a z ≡ false → after p (turn_to p b 0) z < l
  behind_it z hz e f = ⊎_elim (λ h. h) (λ h. clash e (far h)) (lt_or_ge y l)
    where
      hb : b < p
      hb = after_low p (omega arith) l a

      r : ℕ
      r = turn_to p b 0

      y : ℕ
      y = after p r z

      a' : ℕ
      a' = after p r a

      ends : after p l a' ≡ 0
      ends = after_on p r (omega arith) l a ∙ comes_to p b 0 hb (omega arith)

      far : l ≤ y → meets p l b z ≡ false
      far h =
          let low : y < p = after_low p (omega arith) r z in
          let last = ends_at_0 p l a' (after_low p (omega arith) r a) hl some ends in
          let apart = apart_moved p r (omega arith) l a z ha hz hl (apart_of p l a z ha hz hl f) in
          sym (meets_moved p r (omega arith) l b z)
          ∙ rw (comes_to p b 0 hb (omega arith)) (apart_met p l 0 y (omega arith) low hl (omega arith))

-- two starts that are s slots apart are not in the same s slots
same_part : (p s y z : ℕ) → 0 < s → Apart p s y z → y / s ≡ z / s → ⊥
same_part p s y z step w e =
    let same : y / s * s ≡ z / s * s = ap (λ (i : ℕ). i * s) e in
    omega (arith, w, same, div-mul-le_self y s, lt-div-mul-add {a = y} step, div-mul-le_self z s, lt-div-mul-add {a = z} step)

-- m starts that are s slots apart from each other
module _ (p s : ℕ) (x : ℕ → ℕ) (m : ℕ) (step : 0 < s) (low : (c : ℕ) → c < m → x c < p)
    (apart : (c d : ℕ) → c < d → d < m → Apart p s (x c) (x d)) where
  -- at most k of them come to start in the first w slots when the circle is turned, where k s is at least w
  in_front : (q : ℕ → Bool) (r w k : ℕ) → w ≤ k * s → ((c : ℕ) → c < m → q c ≡ true → after p r (x c) < w) → count q m ≤ k
  in_front q r w k wide h =
      omega (arith, count_upto q (λ c. ltb (after p r (x c) / s) k) m inside, count_values (λ c. after p r (x c) / s) m k one)
    where
      inside : (c : ℕ) → c < m → q c ≡ true → ltb (after p r (x c) / s) k ≡ true
      inside c l e = let y = h c l e in lt-ltb _ _ ((div-lt_iff_lt-mul step).1 (omega arith))

      one : (c d : ℕ) → c < d → d < m → after p r (x c) / s < k → after p r (x c) / s ≡ after p r (x d) / s → ⊥
      one c d l i _ e =
          let w = apart c d l i in
          let a = low d i in
          same_part p s (after p r (x c)) (after p r (x d)) step
          (apart_moved p r (omega arith) s (x c) (x d) (low c (omega arith)) a (omega arith) w) e

  module _ (l a : ℕ) (hl : l ≤ p) (some : 0 < l) (ha : a < p) (k : ℕ) where
    -- a message of l slots meets at most k of them, where k s is at least 2l-1
    pub met_most : l + l - 1 ≤ k * s → count (λ c. meets p l a (x c)) m ≤ k
    met_most wide = in_front (λ c. meets p l a (x c)) _ (l + l - 1) k wide (λ c h. around_it p l a hl some ha (x c) (low c h))

    -- the message right after it, at b, meets at most k that it does not, where k s is at least l
    pub met_behind : (b : ℕ) → b ≡ after p l a → l ≤ k * s → count (λ c. meets p l b (x c) && not (meets p l a (x c))) m ≤ k
    met_behind b right wide =
        in_front (λ c. meets p l b (x c) && not (meets p l a (x c))) _ l k wide
        (λ c h e. let w = and_parts (meets p l b (x c)) (not (meets p l a (x c))) e in
        behind_it p l a hl some ha (x c) (low c h) (rw right at w.0) (not-true _ w.1))
