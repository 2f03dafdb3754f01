-- How a number is spelt from its last digit to its first. Assumes nothing.
use mathlib.Core.Path.{◌≡◌, sym, ◌∙◌, subst}
use mathlib.Core.Bool.{Bool, true, false, cond}
use mathlib.Core.List.{List, [], ◌∷◌, ◌++◌, append_assoc}
use Prim.Native.Nat.{ℕ, zero, suc, ◌+◌, ◌-◌, ◌/◌, ◌%◌, ◌^◌, ◌≤◌, ◌<◌}
use native.Mathlib.Omega.{arith}
use native.Mathlib.Nat.{mod-eq_of_lt, div-lt_iff_lt-mul, pow-suc}
use lib.Dec.{ltb}
use lib.ListN.{length, drop, set, length-set, length-append}
use lib.Seq.{drop-cons, get_or-set_same, drop-set-lt}
use borrow.Author.Tests.{lt-ltb, le-ltb}
use Rattle.text.specs.Writing.{digits_in}
use Rattle.console.specs.Printed.{max_digits, number}

-- `from` digits of n are still to be spelt, those of rest; the others stand in ds behind them
pub record Spelling (n : ℕ) (ds : List ℕ) (from rest : ℕ) : Type 0 where
  pub low : 1 ≤ from
  pub high : from ≤ max_digits
  pub size : length ds ≡ max_digits
  pub small : rest < 10 ^ from
  pub digits : number n ≡ digits_in from rest ++ drop from ds

-- at least one digit is still to be spelt
pub some_to_spell : {n : ℕ} {ds : List ℕ} {from rest : ℕ} → Spelling n ds from rest → Spelling n ds (suc (from - 1)) rest
some_to_spell {n} {ds} {from} {rest} s =
    let e : from ≡ suc (from - 1) = omega (arith, s.low) in
    subst (λ (m : ℕ). Spelling n ds m rest) e s

one_digit : (k rest : ℕ) → rest < 10 → digits_in (suc k) rest ≡ ((48 + rest) ∷ [])
unfolding digits_in
one_digit k rest h = rw (lt-ltb rest 10 h)

more_digits : (k rest : ℕ) → 10 ≤ rest → digits_in (suc k) rest ≡ digits_in k (rest / 10) ++ ((48 + rest % 10) ∷ [])
unfolding digits_in
more_digits k rest h = rw (le-ltb rest 10 h)

module _ (n : ℕ) (ds : List ℕ) (k rest : ℕ) (s : Spelling n ds (suc k) rest) where
  written : drop k (set ds k (48 + rest % 10)) ≡ (48 + rest % 10) ∷ drop (suc k) ds
  written =
      drop-cons (set ds k (48 + rest % 10)) k 0 (omega (arith, length-set ds k (48 + rest % 10), s.size, s.high))
      ∙ rw (
        get_or-set_same ds k (48 + rest % 10) 0 (omega (arith, s.size, s.high)),
        drop-set-lt (suc k) ds k (48 + rest % 10) (omega arith),
      )

  pub ends : rest < 10 → drop k (set ds k (48 + rest % 10)) ≡ number n
  ends h = written ∙ rw (mod-eq_of_lt h) (sym (s.digits ∙ rw (one_digit k rest h)))

  some_left : 10 ≤ rest → 1 ≤ k
  some_left h = go k s.small
    where
      go : (m : ℕ) → rest < 10 ^ suc m → 1 ≤ m
      go zero q = absurd (omega arith)
      go (suc m) q = omega arith

  pub goes_on : 10 ≤ rest → Spelling n (set ds k (48 + rest % 10)) k (rest / 10)
  goes_on h =
      record {
        low = some_left h;
        high = omega (arith, s.high);
        size = length-set ds k (48 + rest % 10) ∙ s.size;
        small = (div-lt_iff_lt-mul {k = 10} {x = rest} {y = 10 ^ k} (omega arith)).1 (subst (λ (m : ℕ). rest < m) (pow-suc 10 k) s.small);
        digits = s.digits ∙ rw (more_digits k rest h, written)
            (append_assoc (digits_in k (rest / 10)) ((48 + rest % 10) ∷ []) (drop (suc k) ds));
      }

-- no number has more
digits_short : (k n : ℕ) → length (digits_in k n) ≤ k
unfolding digits_in
digits_short zero n = omega arith
digits_short (suc k) n = go (ltb n 10) (digits_short k (n / 10))
  where
    go : (b : Bool) → length (digits_in k (n / 10)) ≤ k
        → length (cond b ((48 + n) ∷ []) (digits_in k (n / 10) ++ ((48 + n % 10) ∷ []))) ≤ suc k
    go true h = omega arith
    go false h = rw (length-append (digits_in k (n / 10)) ((48 + n % 10) ∷ [])) (omega arith)

pub number_short : (n : ℕ) → length (number n) ≤ max_digits
number_short n = digits_short max_digits n
