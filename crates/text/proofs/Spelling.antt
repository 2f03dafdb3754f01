-- A number and its digits: each number below 10^8 has one spelling, which is its value's. Assumes nothing.
use mathlib.Core.Path.{◌≡◌, refl, sym, ap, ◌∙◌}
use mathlib.Core.Bool.{Bool, true, false, cond, and-false}
use mathlib.Core.List.{List, [], ◌∷◌, ◌++◌}
use mathlib.Core.Logic.{⊎_elim}
use Prim.Native.Nat.{ℕ, zero, suc, ◌+◌, ◌-◌, ◌*◌, ◌/◌, ◌%◌, ◌≤◌, ◌<◌, ◌^◌}
use native.Mathlib.Omega.{arith}
use native.Mathlib.Nat.{pow-suc}
use lib.Dec.{ltb, eqb}
use lib.ListN.{length, get_or, length-append, get_or-append}
use lib.Seq.{get_or-append_seam}
use borrow.Author.Tests.{ltb-true, ltb-false, lt-ltb, le-ltb, ne_eqb, eqb-false}
use Rattle.ground.proofs.Bools.{lt_or_ge}
use Rattle.ground.proofs.Elements.{last_one}
use Rattle.ground.proofs.Faults.{inside}
use Rattle.text.specs.Decimal.{max_digits, naught, nine, is_other, leading_zero, is_decimal, value_from, value}
use Rattle.text.specs.Writing.{digits_in, digits}
use Rattle.text.proofs.Decimals.{Digits, Spelt, digit, decimal, is_decimal_lem, value_from_more}

a_digit : (b : ℕ) → naught ≤ b → b ≤ nine → is_other b ≡ false
unfolding is_other
a_digit b h k = inside naught nine b h k

-- the first byte is no zero
abbrev Front : List ℕ → Type 0
Front bs = eqb (get_or bs 0 0) naught ≡ false

not_led : (bs : List ℕ) → Front bs → leading_zero bs ≡ false
unfolding leading_zero
not_led bs f = rw (f, and-false)

one_digit : (k b : ℕ) → is_other b ≡ false → Spelt (suc k) (b ∷ [])
unfolding leading_zero
one_digit k b d =
    record { some_digit = omega arith; short = omega arith; led = refl; digits = λ i l. let z : i ≡ 0 = omega arith in rw z d }

one_more : (k : ℕ) (bs : List ℕ) (b : ℕ) → Spelt k bs → Front bs → is_other b ≡ false → Spelt (suc k) (bs ++ b ∷ []) × Front (bs ++ b ∷ [])
one_more k bs b s f d =
    let n = length-append bs (b ∷ []) in
    let front : Front (bs ++ b ∷ []) = ap (λ (x : ℕ). eqb x naught) (get_or-append bs (b ∷ []) 0 0 s.some_digit) ∙ f in (
      record {
        some_digit = omega (arith, s.some_digit);
        short = omega (arith, s.short);
        led = not_led _ front;
        digits = λ i l.
            ⊎_elim (λ h. ap is_other (get_or-append bs (b ∷ []) 0 i h) ∙ s.digits i h)
            (λ h. let z : i ≡ length bs = omega arith in ap is_other (rw z (get_or-append_seam bs b [] 0)) ∙ d) (lt_or_ge i (length bs));
      },
      front,
    )

-- the spelling of n, with at most k digits
record Spells (k n : ℕ) (bs : List ℕ) : Type 0 where
  pub spelt : Spelt k bs
  pub same_value : value bs ≡ n
  pub front : 1 ≤ n → Front bs

spells_one : (k n : ℕ) → n < 10 → Spells (suc k) n ((naught + n) ∷ [])
unfolding value_from
spells_one k n l =
    record {
      spelt = one_digit k _ (a_digit _ (omega arith) (omega arith));
      same_value = omega arith;
      front = λ h. ne_eqb
          (naught + n) naught (λ e. omega arith);
    }

spells_more : (k n : ℕ) (bs : List ℕ) → 10 ≤ n → Spells k (n / 10) bs → Spells (suc k) n (bs ++ (naught + n % 10) ∷ [])
spells_more k n bs l s =
    let w = one_more k bs (naught + n % 10) s.spelt (s.front (omega arith)) (a_digit _ (omega arith) (omega arith)) in
    record { spelt = w.0; same_value = value_from_more 0 bs (naught + n % 10) ∙ rw s.same_value (omega arith); front = λ h. w.1 }

spells_if : (k n : ℕ) (bs : List ℕ) (b : Bool) → ltb n 10 ≡ b → (10 ≤ n → Spells k (n / 10) bs)
    → Spells (suc k) n (cond b ((naught + n) ∷ []) (bs ++ ((naught + n % 10) ∷ [])))
spells_if k n bs true e s = spells_one k n (ltb-true _ _ e)
spells_if k n bs false e s = spells_more k n bs (ltb-false _ _ e) (s (ltb-false _ _ e))

spells : (k n : ℕ) → n < 10 ^ suc k → Spells (suc k) n (digits_in (suc k) n)
unfolding digits_in
spells zero n h = spells_if zero n [] (ltb n 10) refl (λ l. absurd (omega arith))
spells (suc k) n h = spells_if (suc k) n _ (ltb n 10) refl (λ l. spells k (n / 10) (omega (arith, pow-suc 10 (suc k))))

module _ (n : ℕ) (h : n < 10 ^ 8) where
  pub digits_decimal : is_decimal (digits n) ≡ true
  digits_decimal = is_decimal_lem _ (spells 7 n h).spelt

  pub digits_value : value (digits n) ≡ n
  digits_value = (spells 7 n h).same_value

  pub digits_short : length (digits n) ≤ max_digits
  digits_short = (spells 7 n h).spelt.short

  pub digits_all : Digits (digits n)
  digits_all = (spells 7 n h).spelt.digits

-- and back
value_grows : (n : ℕ) (bs : List ℕ) → n ≤ value_from n bs
unfolding value_from
value_grows n [] = omega arith
value_grows n (b ∷ bs) = omega (arith, value_grows (n * 10 + (b - naught)) bs)

front_digit : (bs : List ℕ) → Digits bs → 2 ≤ length bs → leading_zero bs ≡ false → naught < get_or bs 0 0
unfolding leading_zero
front_digit bs d h e =
    let z : eqb (get_or bs 0 0) naught ≡ false = rw (lt-ltb 1 (length bs) h) at e in
    let w = digit (get_or bs 0 0) (d 0 (omega arith)) in
    let n = eqb-false (get_or bs 0 0) naught z in
    ⊎_elim (λ l. l) (λ g. absurd (n (omega arith))) (lt_or_ge naught (get_or bs 0 0))

-- a digit, or one behind a number that is not 0
one_again : (k b : ℕ) → is_other b ≡ false → digits_in (suc k) (value (b ∷ [])) ≡ b ∷ []
unfolding digits_in value_from
one_again k b d =
    let w = digit b d in
    let e : naught + (0 * 10 + (b - naught)) ≡ b = omega arith in
    rw (lt-ltb (0 * 10 + (b - naught)) 10 (omega arith), e)

more_again : (k : ℕ) (xs : List ℕ) (b : ℕ) → is_other b ≡ false → 1 ≤ value xs → digits_in k (value xs) ≡ xs
    → digits_in (suc k) (value (xs ++ b ∷ [])) ≡ xs ++ b ∷ []
unfolding digits_in
more_again k xs b d v e =
    let w = digit b d in
    let n : value (xs ++ b ∷ []) ≡ value xs * 10 + (b - naught) = value_from_more 0 xs b in
    let q : (value xs * 10 + (b - naught)) / 10 ≡ value xs = omega arith in
    let r : naught + (value xs * 10 + (b - naught)) % 10 ≡ b = omega arith in
    rw (n, le-ltb (value xs * 10 + (b - naught)) 10 (omega arith), q, r, e)

again_if : (k : ℕ) → ((ys : List ℕ) → Spelt k ys → digits_in k (value ys) ≡ ys) → (xs : List ℕ) (b : ℕ)
    → Spelt (suc k) (xs ++ b ∷ []) → digits_in (suc k) (value (xs ++ b ∷ [])) ≡ xs ++ b ∷ []
unfolding value_from
again_if k ih [] b s = one_again k b (s.digits 0 (omega arith))
again_if k ih (x ∷ xs) b s =
    let n = length-append (x ∷ xs) (b ∷ []) in
    let f : naught < x = front_digit (x ∷ xs ++ b ∷ []) s.digits (omega arith) s.led in
    let last : is_other b ≡ false = ap is_other (sym (get_or-append_seam (x ∷ xs) b [] 0)) ∙ s.digits (length (x ∷ xs)) (omega arith) in
    more_again k (x ∷ xs) b last (omega (arith, value_grows (0 * 10 + (x - naught)) xs))
    (ih (x ∷ xs) (record {
      some_digit = omega arith;
      short = omega (arith, s.short);
      led = not_led (x ∷ xs) (ne_eqb x naught (λ e. omega arith));
      digits = λ i l. ap is_other (sym (get_or-append (x ∷ xs) (b ∷ []) 0 i l)) ∙ s.digits i (omega arith);
    }))

again : (k : ℕ) (bs : List ℕ) → Spelt k bs → digits_in k (value bs) ≡ bs
again zero bs s = absurd (omega (arith, s.some_digit, s.short))
again (suc k) bs s = let w = last_one bs s.some_digit in rw w.2 (again_if k (again k) w.0 w.1 (rw w.2 at s))

-- a decimal number is spelt as its value is
pub decimal_digits : (bs : List ℕ) → is_decimal bs ≡ true → digits (value bs) ≡ bs
decimal_digits bs e = again max_digits bs (decimal bs e)
