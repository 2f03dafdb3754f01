-- The form of each line, and its spelling: a line is of its form exactly where it is spelt so. Assumes nothing.
use mathlib.Core.Path.{◌≡◌, sym, ap, ◌∙◌}
use mathlib.Core.Bool.{true, false}
use mathlib.Core.List.{List, ◌∷◌, ◌++◌}
use Prim.Native.Nat.{ℕ, suc, ◌<◌, ◌^◌}
use native.Mathlib.Numerals.{add-one}
use native.Mathlib.Omega.{arith}
use lib.ListN.{length, get_or, take, drop}
use lib.Seq.{split_at, take-append_seam, drop-append-add, drop-append_seam}
use Rattle.ground.proofs.Bools.{is_false, and_both}
use Rattle.ground.proofs.Beginning.{begins_with, begins_self}
use Rattle.link.specs.declared.Link.{Link}
use Rattle.text.specs.Bytes.{newline, space, seek, end_word}
use Rattle.text.specs.Decimal.{naught, is_decimal, value}
use Rattle.text.specs.Faults.{first_part, second_part, is_pair, link_of, is_last, count_part}
use Rattle.text.specs.Writing.{digits, pair_line, last_line}
use Rattle.text.proofs.Decimals.{digit, decimal}
use Rattle.text.proofs.Spelling.{digits_decimal, digits_value, digits_all, decimal_digits}
use Rattle.text.proofs.Finding.{Without, without_append, without_each, seek_first, found}
use Rattle.text.proofs.LineForms.{pair_parts}

-- digits have no space and no byte 10 among them
pub digits_without : (b n : ℕ) → b < naught → n < 10 ^ 8 → Without b (digits n)
digits_without b n h l =
    without_each b (digits n) (λ i m e. let w = digit (get_or (digits n) i 0) (digits_all n l i m) in omega arith)

-- line two
module _ (k : Link) (hp : k.period < 10 ^ 8) (hs : k.size < 10 ^ 8) where
  seek_pair : seek space (pair_line k) ≡ length (digits k.period)
  unfolding pair_line
  seek_pair = seek_first space (digits k.period) (digits k.size) (digits_without space k.period (omega arith) hp)

  first_of : first_part (pair_line k) ≡ digits k.period
  unfolding first_part pair_line
  first_of = rw seek_pair (take-append_seam (digits k.period) (space ∷ digits k.size))

  second_of : second_part (pair_line k) ≡ digits k.size
  unfolding second_part pair_line
  second_of =
      rw seek_pair
      (ap (λ (m : ℕ). drop m (pair_line k)) (sym (add-one (length (digits k.period))))
      ∙ drop-append-add (digits k.period) (space ∷ digits k.size) 1)

  pub pair_is : is_pair (pair_line k) ≡ true
  unfolding is_pair
  pair_is = and_both _ _ (ap is_decimal first_of ∙ digits_decimal _ hp) (ap is_decimal second_of ∙ digits_decimal _ hs)

  pub link_is : link_of (pair_line k) ≡ k
  unfolding link_of
  link_is = rw (first_of, second_of, digits_value _ hp, digits_value _ hs)

  pub pair_free : Without newline (pair_line k)
  unfolding pair_line
  pair_free =
      without_append newline (digits k.period) (space ∷ digits k.size) (digits_without newline k.period (omega arith) hp)
      ((λ e. omega arith), digits_without newline k.size (omega arith) hs)

two_parts : (l : List ℕ) → seek space l < length l → l ≡ first_part l ++ space ∷ second_part l
unfolding first_part second_part
two_parts l h =
    split_at l (seek space l) 0 h
    ∙ ap (λ (b : ℕ). take (seek space l) l ++ b ∷ drop (suc (seek space l)) l) (found space l h)

pub pair_spelt : (l : List ℕ) → is_pair l ≡ true → l ≡ pair_line (link_of l)
unfolding pair_line link_of
pair_spelt l e =
    let w = pair_parts l e in
    two_parts l w.2
    ∙ ap (λ (a : List ℕ). a ++ space ∷ second_part l) (sym (decimal_digits _ w.0))
    ∙ ap (λ (b : List ℕ). digits (value (first_part l)) ++ space ∷ b) (sym (decimal_digits _ w.1))

-- the last line
module _ (n : ℕ) (h : n < 10 ^ 8) where
  count_of : count_part (last_line n) ≡ digits n
  unfolding count_part last_line
  count_of = drop-append_seam end_word (digits n)

  pub last_is : is_last (last_line n) ≡ true
  unfolding is_last last_line
  last_is = begins_self end_word (digits n)

  pub count_decimal : is_decimal (count_part (last_line n)) ≡ true
  count_decimal = ap is_decimal count_of ∙ digits_decimal n h

  pub count_value : value (count_part (last_line n)) ≡ n
  count_value = ap value count_of ∙ digits_value n h

  pub last_free : Without newline (last_line n)
  unfolding last_line
  last_free = without_append newline end_word (digits n)
      ((λ e. omega arith), ((λ e. omega arith), ((λ e. omega arith), ((λ e. omega arith), tt))))
      (digits_without newline n (omega arith) h)

pub last_spelt : (n : ℕ) (l : List ℕ) → is_last l ≡ true → is_decimal (count_part l) ≡ true → value (count_part l) ≡ n → l ≡ last_line n
unfolding is_last count_part last_line
last_spelt n l e d v = begins_with end_word l e ∙ ap (λ (r : List ℕ). end_word ++ r) (sym (decimal_digits _ d) ∙ ap digits v)

-- a number is no last line
pub row_not_last : (l : List ℕ) → is_decimal l ≡ true → is_last l ≡ false
unfolding is_last
row_not_last l e =
    is_false _ (λ t. let w = digit (get_or l 0 0) ((decimal l e).digits 0 (decimal l e).some_digit) in
    let f : get_or l 0 0 ≡ 101 = ap (λ (r : List ℕ). get_or r 0 0) (begins_with end_word l t) in
    omega arith)
