-- Round a circle of p numbers by d, and back again. Assumes nothing.
use mathlib.Core.Path.{◌≡◌, sym, ap, ◌∙◌}
use Prim.Native.Nat.{ℕ, ◌+◌, ◌-◌, ◌%◌, ◌<◌}
use native.Mathlib.Omega.{arith}
use native.Mathlib.Nat.{mod-lt, mod-add-mod, add-mod-mod, add-mod_right}

module _ (p : ℕ) (some : 0 < p) (d x : ℕ) where
  pub there_and_back : ((x + d) % p + (p - d % p)) % p ≡ x % p
  there_and_back =
      let l = mod-lt d some in
      let e : x + d % p + (p - d % p) ≡ x + p = omega arith in
      ap (λ (y : ℕ). (y + (p - d % p)) % p) (sym (add-mod-mod x d p)) ∙ mod-add-mod (x + d % p) p (p - d % p) ∙ ap (λ (y : ℕ). y % p) e
      ∙ add-mod_right x p

  pub back_and_on : (x + (p - d % p) + d) % p ≡ x % p
  back_and_on =
      let l = mod-lt d some in
      let e : x + (p - d % p) + d % p ≡ x + p = omega arith in
      sym (add-mod-mod (x + (p - d % p)) d p) ∙ ap (λ (y : ℕ). y % p) e ∙ add-mod_right x p

  pub back_and_there : ((x + (p - d % p)) % p + d) % p ≡ x % p
  back_and_there = mod-add-mod (x + (p - d % p)) p d ∙ back_and_on

-- two that are the same place on the circle are so d further on, and were so d before
pub same_on : (p x y d : ℕ) → x % p ≡ y % p → (x + d) % p ≡ (y + d) % p
same_on p x y d e = sym (mod-add-mod x p d) ∙ ap (λ (z : ℕ). (z + d) % p) e ∙ mod-add-mod y p d

pub same_back : (p x y d : ℕ) → 0 < p → (x + d) % p ≡ (y + d) % p → x % p ≡ y % p
same_back p x y d some e =
    sym (there_and_back p some d x) ∙ ap (λ (z : ℕ). (z + (p - d % p)) % p) e ∙ there_and_back p some d y
