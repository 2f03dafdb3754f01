-- What a decimal number is, and its value digit by digit, with the bound on it. Assumes nothing.
use mathlib.Core.Path.{◌≡◌, refl, sym, ap, ◌∙◌}
use mathlib.Core.Bool.{Bool, true, false, not, ◌&&◌, and-false}
use mathlib.Core.List.{List, [], ◌∷◌, ◌++◌}
use mathlib.Core.Logic.{⊎_elim}
use Prim.Native.Nat.{ℕ, zero, suc, ◌+◌, ◌-◌, ◌*◌, ◌≤◌, ◌<◌, ◌^◌}
use native.Mathlib.Numerals.{add-one}
use native.Mathlib.Omega.{arith}
use native.Mathlib.Nat.{pow-suc, pow-le-pow_right}
use lib.ListN.{length, get_or, take}
use lib.Seq.{take-suc, take-length, take-take, get_or-take, length-take-le}
use borrow.Author.Count.{below_more, below_none}
use borrow.Author.Tests.{not-true, lt-leb, le-leb}
use Rattle.ground.specs.Judging.{outside}
use Rattle.std.specs.Char.{is_ascii_digit}
use Rattle.ground.proofs.Bools.{and_parts, and_both, lt_or_ge}
use Rattle.ground.proofs.Minimum.{none_has, some_at, some_none}
use Rattle.ground.proofs.Faults.{below, above, inside, within}
use Rattle.text.specs.Decimal.{max_digits, naught, nine, is_other, all_digits, leading_zero, is_decimal, value_from, value}
use Rattle.text.specs.Steps.{Counted, InFront}

abbrev pub Digits : List ℕ → Type 0
Digits bs = (i : ℕ) → i < length bs → is_other (get_or bs i 0) ≡ false

-- at most k digits, with no leading zero
pub record Spelt (k : ℕ) (bs : List ℕ) : Type 0 where
  pub some_digit : 1 ≤ length bs
  pub short : length bs ≤ k
  pub led : leading_zero bs ≡ false
  pub digits : Digits bs

abbrev pub Decimal : List ℕ → Type 0
Decimal bs = Spelt max_digits bs

-- `is_other` is the library's test, turned round
other_digit : (b : ℕ) → is_other b ≡ not (is_ascii_digit b)
unfolding is_other
other_digit b =
    ⊎_elim (λ h. rw (below naught nine b h, lt-leb naught b h))
    (λ h. ⊎_elim (λ l. rw (above naught nine b l, lt-leb b nine l, and-false))
    (λ l. rw (inside naught nine b h l, le-leb naught b h, le-leb b nine l)) (lt_or_ge nine b)) (lt_or_ge b naught)

-- what the test told
pub told_other : (b : ℕ) {r t : Bool} → r ≡ is_ascii_digit b → r ≡ t → is_other b ≡ not t
told_other b e f = other_digit b ∙ ap not (sym e ∙ f)

pub digit : (b : ℕ) → is_other b ≡ false → (naught ≤ b) × (b ≤ nine)
unfolding is_other
digit b e = within _ _ b e

pub decimal : (bs : List ℕ) → is_decimal bs ≡ true → Decimal bs
unfolding is_decimal all_digits
decimal bs e =
    let a = and_parts (not (outside 1 max_digits (length bs))) (not (leading_zero bs) && all_digits bs) e in
    let b = and_parts (not (leading_zero bs)) (all_digits bs) a.1 in
    let n = within 1 max_digits (length bs) (not-true _ a.0) in
    record { some_digit = n.0; short = n.1; led = not-true _ b.0; digits = none_has _ _ (not-true _ b.1) }

pub is_decimal_lem : (bs : List ℕ) → Decimal bs → is_decimal bs ≡ true
unfolding is_decimal all_digits
is_decimal_lem bs d =
    and_both _ _ (ap not (inside 1 max_digits (length bs) d.some_digit d.short))
    (and_both _ _ (ap not d.led) (ap not (some_none _ _ d.digits)))

-- one digit more
pub value_from_more : (n : ℕ) (bs : List ℕ) (b : ℕ) → value_from n (bs ++ b ∷ []) ≡ value_from n bs * 10 + (b - naught)
unfolding value_from
value_from_more n [] b = refl
value_from_more n (x ∷ bs) b = value_from_more (n * 10 + (x - naught)) bs b

-- The code stands at byte i: those before it are digits, and v is their value.
pub none_counted : (bs : List ℕ) → Counted bs 0 0
unfolding value_from
none_counted bs = record { inside = omega arith; digits = below_none _; so_far = refl }

module _ (bs : List ℕ) where
  value_more : (i : ℕ) → i < length bs → value (take (suc i) bs) ≡ value (take i bs) * 10 + (get_or bs i 0 - naught)
  value_more i l = ap value (take-suc bs i 0 l) ∙ value_from_more 0 (take i bs) (get_or bs i 0)

  -- a number of k digits is below the k-th power of ten
  value_low : (k : ℕ) → ((j : ℕ) → j < k → is_other (get_or bs j 0) ≡ false) → k ≤ length bs → value (take k bs) < 10 ^ k
  unfolding value_from
  value_low zero d l = omega arith
  value_low (suc k) d l =
      let p : 10 ^ suc k ≡ 10 ^ k * 10 = pow-suc 10 k in
      let b = digit (get_or bs k 0) (d k (omega arith)) in
      omega (arith, value_low k (λ j m. d j (omega arith)) (omega arith), value_more k (omega arith))

  module _ (i v : ℕ) (w : Counted bs i v) where
    -- before its last digit a number is below ten million
    pub counted_low : i < max_digits → v < 10 ^ 7
    counted_low h =
        let p : 10 ^ i ≤ 10 ^ 7 = pow-le-pow_right (omega arith) {i = i} {j = 7} (omega arith) in
        omega (arith, w.so_far, value_low i w.digits w.inside)

    pub counted_more : i < length bs → is_other (get_or bs i 0) ≡ false → Counted bs (i + 1) (v * 10 + (get_or bs i 0 - naught))
    counted_more l d = record {
      inside = omega arith;
      digits = below_more _ i w.digits d;
      so_far = rw (add-one, w.so_far) (sym (value_more i l));
    }

  -- of the first k bytes, as many as there are up to 8, the first d are digits, and the next is none
  pub in_front : (k d v : ℕ) → k ≤ length bs → k ≤ max_digits → (k < max_digits → k ≡ length bs) → Counted (take k bs) d v
      → (d < k → is_other (get_or (take k bs) d 0) ≡ true) → InFront bs d v
  in_front k d v l few all w other =
      let low : d ≤ k = omega (arith, w.inside, length-take-le k bs l) in
      record {
        counted = record {
          inside = omega arith;
          digits = λ j h. ap is_other (sym (get_or-take k bs j 0 (omega arith))) ∙ w.digits j h;
          so_far = w.so_far ∙ ap value (take-take d k bs low);
        };
        few = omega arith;
        no_more = λ h m.
            let b : d < k = ⊎_elim (λ n. omega (arith, all n)) (λ n. omega arith) (lt_or_ge k max_digits) in
            ap is_other (sym (get_or-take k bs d 0 b)) ∙ other b;
      }

  -- the digits in front decide whether all are
  module _ (d v : ℕ) (w : InFront bs d v) where
    pub not_all : d < length bs → length bs ≤ max_digits → all_digits bs ≡ false
    unfolding all_digits
    not_all l h = rw (some_at (λ j. is_other (get_or bs j 0)) (length bs) d l (w.no_more l (omega arith)))

    pub all_digits_lem : length bs ≤ d → (all_digits bs ≡ true) × (v ≡ value bs)
    unfolding all_digits
    all_digits_lem h =
        let n : d ≡ length bs = omega (arith, w.counted.inside) in (
          ap not (some_none (λ j. is_other (get_or bs j 0)) (length bs) (λ j m. w.counted.digits j (omega arith))),
          w.counted.so_far ∙ rw (n, take-length),
        )
