-- When two messages on the circle of p slots use a common slot: the difference test and the linear test. Assumes nothing.
use mathlib.Core.Path.{◌≡◌, refl, sym, ap, ◌∙◌, subst}
use mathlib.Core.Bool.{Bool, true, false, not, ◌&&◌}
use mathlib.Core.Logic.{◌⊎◌, inl, inr, ⊎_elim}
use Prim.Native.Nat.{ℕ, ◌+◌, ◌-◌, ◌*◌, ◌%◌, ◌≤◌, ◌<◌}
use native.Mathlib.Omega.{arith}
use native.Mathlib.Nat.{mod-lt, mod-eq_of_lt, mod-eq-sub-mod}
use lib.Dec.{leb, eqb}
use borrow.Author.Tests.{ltb-true, leb-true, le-leb, eqb-true, eq-eqb, not-false}
use Rattle.ground.specs.Least.{least, some}
use Rattle.link.specs.Slots.{uses, after, meets, differ, gap, apartb, Uses, Meet}
use Rattle.ground.proofs.Bools.{clash, is_false, lt_or_ge, same_test, and_parts, and_both}
use Rattle.ground.proofs.Minimum.{some_at, some_none, some_has}

abbrev pub Apart : ℕ → ℕ → ℕ → ℕ → Type 0
Apart p l a b = (l ≤ gap a b) × (gap a b + l ≤ p)

pub apart_parts : (p l a b : ℕ) → apartb p l a b ≡ true → Apart p l a b
unfolding apartb
apart_parts p l a b e = let w = and_parts (leb l (gap a b)) (leb (gap a b + l) p) e in (leb-true _ _ w.0, leb-true _ _ w.1)

pub apart_true : (p l a b : ℕ) → Apart p l a b → apartb p l a b ≡ true
unfolding apartb
apart_true p l a b w = and_both _ _ (le-leb _ _ w.0) (le-leb _ _ w.1)

pub apart_sym : (p l a b : ℕ) → Apart p l a b → Apart p l b a
apart_sym p l a b w = omega arith

-- nearer than the span
pub apart_near : (p l a b : ℕ) → gap a b < l → apartb p l a b ≡ false
apart_near p l a b h = is_false _ (λ e. let w = apart_parts p l a b e in omega arith)

-- where the distance d is at least the span, one comparison tells
pub apart_when : (p l a b d : ℕ) → l ≤ d → d ≡ gap a b → leb (d + l) p ≡ apartb p l a b
unfolding apartb
apart_when p l a b d h e = rw (← e, le-leb _ _ h)

-- a remainder of a number below two periods
abbrev pub Turned : ℕ → ℕ → ℕ → Type 0
Turned p x r = ((x < p) × (r ≡ x)) ⊎ ((p ≤ x) × (r + p ≡ x))

pub turned : (p x : ℕ) → x < p + p → Turned p x (x % p)
turned p x h =
    ⊎_elim (λ l. inl (l, mod-eq_of_lt l))
    (λ g. let e : x % p ≡ x - p = mod-eq-sub-mod g ∙ mod-eq_of_lt (omega arith) in inr (g, omega arith)) (lt_or_ge x p)

-- how code shows it, where two spans fit the period: the distance d less the span, as a number that wraps at m, is at most r
pub apart_wrapped : (p l a b d m r : ℕ) → p + l < m → d < m → d ≡ gap a b → 2 * l ≤ p → r ≡ p - 2 * l
    → leb ((d + (m - l)) % m) r ≡ apartb p l a b
apart_wrapped p l a b d m r g f e h k =
    ⊎_elim (λ near. beyond near ∙ sym (apart_near p l a b (omega (arith, e))))
    (λ far. linear far ∙ apart_when p l a b d far e) (lt_or_ge d l)
  where
    beyond : d < l → leb ((d + (m - l)) % m) r ≡ false
    beyond near =
        let same : (d + (m - l)) % m ≡ d + (m - l) = mod-eq_of_lt (omega arith) in
        is_false _ (λ t. let u = leb-true _ _ t in omega (arith, same))

    linear : l ≤ d → leb ((d + (m - l)) % m) r ≡ leb (d + l) p
    linear far =
        let less : (d + (m - l)) % m ≡ (d + (m - l)) - m = mod-eq-sub-mod (omega arith) ∙ mod-eq_of_lt (omega arith) in
        same_test _ _
        (λ t. let u = leb-true _ _ t in le-leb _ _ (omega (arith, less)))
        (λ t. let u = leb-true _ _ t in le-leb _ _ (omega (arith, less)))

-- where they do not, everybody meets
pub none_apart : (p l a b : ℕ) → p < 2 * l → apartb p l a b ≡ false
none_apart p l a b h = is_false _ (λ e. let w = apart_parts p l a b e in omega arith)

-- how code shows it: below the period, or one turn less
pub turned_low : (p x : ℕ) → x < p → x ≡ x % p
turned_low p x h = sym (mod-eq_of_lt h)

pub turned_high : (p x r : ℕ) → r + p ≡ x → r < p → r ≡ x % p
turned_high p x r e h = go (turned p x (omega arith))
  where
    go : {y : ℕ} → Turned p x y → r ≡ y
    go (inl u) = omega arith
    go (inr u) = omega arith

pub after_low : (p : ℕ) → 0 < p → (l a : ℕ) → after p l a < p
unfolding after
after_low p h l a = mod-lt (a + l) h

module _ (p l a b : ℕ) (ha : a < p) (hb : b < p) (hl : l ≤ p) where
  -- 01's difference test is the linear one
  pub differ_apart : differ p l a b ≡ apartb p l a b
  unfolding differ
  differ_apart =
      same_test _ _
      (λ e. let w = and_parts (leb l ((a + (p - b)) % p)) (leb l ((b + (p - a)) % p)) e in
      apart_true p l a b (there (leb-true _ _ w.0) (leb-true _ _ w.1) x y))
      (λ e. let w = back (apart_parts p l a b e) x y in and_both _ _ (le-leb _ _ w.0) (le-leb _ _ w.1))
    where
      x : Turned p (a + (p - b)) ((a + (p - b)) % p)
      x = turned p (a + (p - b)) (omega arith)

      y : Turned p (b + (p - a)) ((b + (p - a)) % p)
      y = turned p (b + (p - a)) (omega arith)

      there : {r s : ℕ} → l ≤ r → l ≤ s → Turned p (a + (p - b)) r → Turned p (b + (p - a)) s → Apart p l a b
      there h k (inl u) (inl v) = omega arith
      there h k (inl u) (inr v) = omega arith
      there h k (inr u) (inl v) = omega arith
      there h k (inr u) (inr v) = omega arith

      back : {r s : ℕ} → Apart p l a b → Turned p (a + (p - b)) r → Turned p (b + (p - a)) s → (l ≤ r) × (l ≤ s)
      back w (inl u) (inl v) = omega arith
      back w (inl u) (inr v) = omega arith
      back w (inr u) (inl v) = omega arith
      back w (inr u) (inr v) = omega arith

  uses_at : (s x k : ℕ) → x < p → k < l → Turned p (x + k) s → uses p l x s ≡ true
  unfolding uses
  uses_at s x k hx hk t = some_at _ l k hk (eq-eqb _ _ (same t (turned p (x + k) (omega arith))))
    where
      same : {r : ℕ} → Turned p (x + k) s → Turned p (x + k) r → r ≡ s
      same (inl u) (inl v) = omega arith
      same (inl u) (inr v) = omega arith
      same (inr u) (inl v) = omega arith
      same (inr u) (inr v) = omega arith

  uses_has : (s x : ℕ) → x < p → uses p l x s ≡ true → (k : ℕ) × (k < l) × Turned p (x + k) s
  unfolding uses
  uses_has s x hx e =
      let k = least (λ k. eqb ((x + k) % p) s) l in
      let h : k < l = ltb-true _ _ e in
      let m : (x + k) % p ≡ s = eqb-true _ _ (some_has (λ k. eqb ((x + k) % p) s) l e) in
      (k, h, rw m at (turned p (x + k) (omega arith)))

  -- they use no common slot exactly where the linear test says so
  pub meets_apart : meets p l a b ≡ not (apartb p l a b)
  unfolding meets
  meets_apart = go (apartb p l a b) refl
    where
      both : (s : ℕ) → s < p → uses p l a s ≡ true → uses p l b s ≡ true → meets p l a b ≡ true
      both s h u v = some_at _ p s h (and_both _ _ u v)

      apart_not : (s k j : ℕ) → Apart p l a b → k < l → j < l → Turned p (a + k) s → Turned p (b + j) s → ⊥
      apart_not s k j w hk hj (inl u) (inl v) = omega arith
      apart_not s k j w hk hj (inl u) (inr v) = omega arith
      apart_not s k j w hk hj (inr u) (inl v) = omega arith
      apart_not s k j w hk hj (inr u) (inr v) = omega arith

      none : Apart p l a b → (s : ℕ) → s < p → (uses p l a s && uses p l b s) ≡ false
      none w s h =
          is_false _ (λ e. let t = and_parts (uses p l a s) (uses p l b s) e in
          let u = uses_has s a ha t.0 in
          let v = uses_has s b hb t.1 in
          apart_not s u.0 v.0 w u.1 v.1 u.2 v.2)

      at_start : (x : ℕ) {m : ℕ} → x < p → m < l → uses p l x x ≡ true
      at_start x h k = uses_at x x 0 h (omega arith) (inl (omega arith))

      meet : (Apart p l a b → ⊥) → meets p l a b ≡ true
      meet n =
          ⊎_elim
          (λ near. ⊎_elim (λ o. both b hb (uses_at b a (b - a) ha (omega arith) (inl (omega arith))) (at_start b hb near))
          (λ o. both a ha (at_start a ha near) (uses_at a b (a - b) hb (omega arith) (inl (omega arith)))) (lt_or_ge a b))
          (λ far. let g : p < gap a b + l = ⊎_elim (λ o. o) (λ o. absurd (n (far, o))) (lt_or_ge p (gap a b + l)) in
          let some : 0 < l = omega arith in
          ⊎_elim (λ o. both a ha (at_start a ha some) (uses_at a b (p - (b - a)) hb (omega arith) (inr (omega arith))))
          (λ o. both b hb (uses_at b a (p - (a - b)) ha (omega arith) (inr (omega arith))) (at_start b hb some)) (lt_or_ge a b))
          (lt_or_ge (gap a b) l)

      go : (x : Bool) → apartb p l a b ≡ x → some (λ s. uses p l a s && uses p l b s) p ≡ not x
      go true e = some_none _ p (none (apart_parts p l a b e))
      go false e = meet (λ w. clash (apart_true p l a b w) e)

  pub apart_of : meets p l a b ≡ false → Apart p l a b
  apart_of e = apart_parts p l a b (not-false (apartb p l a b) (sym meets_apart ∙ e))

  pub apart_met : Apart p l a b → meets p l a b ≡ false
  apart_met w = meets_apart ∙ ap not (apart_true p l a b w)

  pub near_met : (Apart p l a b → ⊥) → meets p l a b ≡ true
  near_met n = meets_apart ∙ ap not (is_false (apartb p l a b) (λ e. n (apart_parts p l a b e)))

-- the test is the statement
pub uses_true : (p l a s : ℕ) → Uses p l a s → uses p l a s ≡ true
unfolding uses
uses_true p l a s u = some_at _ l u.0 u.1 (eq-eqb _ _ u.2)

pub uses_slot : (p l a s : ℕ) → uses p l a s ≡ true → Uses p l a s
unfolding uses
uses_slot p l a s e = (least (λ k. eqb ((a + k) % p) s) l, ltb-true _ _ e, eqb-true _ _ (some_has (λ k. eqb ((a + k) % p) s) l e))

pub meets_true : (p l a b : ℕ) → 0 < p → Meet p l a b → meets p l a b ≡ true
unfolding meets
meets_true p l a b h m =
    some_at _ p m.0 (subst (λ (x : ℕ). x < p) m.1.2 (mod-lt _ h))
    (and_both _ _ (uses_true p l a m.0 m.1) (uses_true p l b m.0 m.2))

pub meets_slot : (p l a b : ℕ) → meets p l a b ≡ true → Meet p l a b
unfolding meets
meets_slot p l a b e =
    let s = least (λ s. uses p l a s && uses p l b s) p in
    let w = and_parts (uses p l a s) (uses p l b s) (some_has (λ s. uses p l a s && uses p l b s) p e) in
    (s, uses_slot p l a s w.0, uses_slot p l b s w.1)

-- two starts have no slot in common exactly where they are apart
module _ (p l a b : ℕ) (ha : a < p) (hb : b < p) (hl : l ≤ p) where
  pub no_slot : Apart p l a b → Meet p l a b → ⊥
  no_slot w m = clash (meets_true p l a b (omega arith) m) (apart_met p l a b ha hb hl w)

  pub apart_slots : (Meet p l a b → ⊥) → Apart p l a b
  apart_slots n = apart_of p l a b ha hb hl (is_false (meets p l a b) (λ e. n (meets_slot p l a b e)))
