-- A row one slot back: it is one slot back in both crossings, and two starts stay apart unless the one that moves stood right after the
-- other. Assumes nothing.
use mathlib.Core.Path.{◌≡◌, refl}
use mathlib.Core.Bool.{true}
use mathlib.Core.Logic.{inl, inr, ⊎_elim}
use Prim.Native.Nat.{ℕ, suc, ◌+◌, ◌%◌, ◌≤◌, ◌<◌}
use native.Mathlib.Omega.{arith}
use native.Mathlib.Nat.{mod-lt, suc-mod}
use lib.Dec.{eqb}
use borrow.Author.Tests.{eqb-true, eqb-false}
use Rattle.ground.proofs.Bools.{clash, true_or_false}
use Rattle.link.specs.Slots.{after, meets}
use Rattle.link.specs.Rows.{Crossing, one, two, second, start_at}
use Rattle.link.proofs.OnCircle.{Apart, Turned, turned, apart_met}

-- both starts one slot back
pub apart_both : (p l a b a' b' : ℕ) → 0 < l → a' < p → b' < p → Apart p l a b → Turned p (suc a') a → Turned p (suc b') b
    → Apart p l a' b'
apart_both p l a b a' b' h i j w (inl x) (inl y) = omega arith
apart_both p l a b a' b' h i j w (inl x) (inr y) = omega arith
apart_both p l a b a' b' h i j w (inr x) (inl y) = omega arith
apart_both p l a b a' b' h i j w (inr x) (inr y) = omega arith

-- the second one slot back, if it does not stand right after the first
pub apart_one : (p l a b b' : ℕ) → 0 < l → l ≤ p → a < p → b' < p → Apart p l a b → Turned p (suc b') b → (b ≡ after p l a → ⊥)
    → Apart p l a b'
unfolding after
apart_one p l a b b' h k i j w y n = go (turned p (a + l) (omega arith)) n y
  where
    go : {r : ℕ} → Turned p (a + l) r → (b ≡ r → ⊥) → Turned p (suc b') b → Apart p l a b'
    go (inl u) m (inl x) = omega arith
    go (inl u) m (inr x) = omega arith
    go (inr u) m (inl x) = omega arith
    go (inr u) m (inr x) = omega arith

-- a row one slot back is one slot back in both crossings
pub start_back : (p : ℕ) (c : Crossing) (d a : ℕ) → suc a < p → Turned p (suc (start_at p c d a)) (start_at p c d (suc a))
unfolding second
start_back p one d a h = inl (h, refl)
start_back p two d a h =
    let e : suc a + d ≡ suc (a + d) = omega arith in
    let some : 0 < p = omega arith in
    rw (e, suc-mod (a + d) p) (turned p (suc ((a + d) % p)) (omega (arith, mod-lt (a + d) some)))

-- where it met the other one slot back, and does not now, it stands right after it
pub right_after : (p l a b b' : ℕ) → 0 < l → l ≤ p → a < p → b' < p → Apart p l a b → Turned p (suc b') b → meets p l a b' ≡ true
    → b ≡ after p l a
right_after p l a b b' h k i j w y e =
    ⊎_elim (λ t. eqb-true b (after p l a) t)
    (λ t. clash e (apart_met p l a b' i j k (apart_one p l a b b' h k i j w y (eqb-false b (after p l a) t))))
    (true_or_false (eqb b (after p l a)))
