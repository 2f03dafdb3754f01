-- A line that is a number, told by its digits and the byte 10 behind them. Assumes nothing.
use mathlib.Core.Path.{◌≡◌, ap, ◌∙◌}
use mathlib.Core.Bool.{true}
use mathlib.Core.List.{List}
use Prim.Native.Nat.{ℕ, ◌+◌, ◌-◌, ◌<◌}
use native.Mathlib.Omega.{arith}
use lib.Dec.{eqb}
use Rattle.std.specs.Prelude.{Some}
use lib.ListN.{length, get_or, take, drop, length-drop}
use lib.Seq.{length-take-le, get_or-take, get_or-drop}
use borrow.Author.Tests.{eq-eqb, ne_eqb}
use Rattle.ground.proofs.Filling.{tail_part}
use Rattle.ground.proofs.Minimum.{least_at}
use Rattle.text.specs.Bytes.{newline, seek}
use Rattle.text.specs.Decimal.{is_decimal}
use Rattle.text.specs.Steps.{Counted, InFront, NumberLine, LineAt, number_says, delay_says, line_says, LineSaid}
use Rattle.text.proofs.Decimals.{digit, is_decimal_lem}
use Rattle.text.proofs.Forms.{row_not_last}
use Rattle.text.proofs.Lined.{line_there, row_answer}
use Rattle.text.proofs.LineForms.{row_value}

-- d digits, and byte 10 behind them
module _ (y : List ℕ) (d v : ℕ) (w : Counted y d v) where
  ends_there : d < length y → get_or y d 0 ≡ newline → seek newline y ≡ d
  unfolding seek
  ends_there l e =
      least_at (λ i. eqb (get_or y i 0) newline) (length y) d w.inside
      (λ i h. ne_eqb (get_or y i 0) newline (λ f. let b = digit (get_or y i 0) (w.digits i h) in omega (arith, f, b))) (λ _. eq-eqb _ _ e)

module _ (x : List ℕ) (at d v : ℕ) (w : InFront (take (length x - at) (drop at x)) d v) (n : NumberLine x at (at + d)) where
  counted : Counted (drop at x) d v
  counted = rw (tail_part x at) at w.counted

  there : LineAt x at (take (at + d - at) (drop at x)) at (at + d + 1)
  there =
      let l : d < length (drop at x) = omega (arith, length-drop at x, n.inside) in
      line_there x at d (ends_there (drop at x) d v counted l (get_or-drop at x d 0 ∙ n.ends)) l

  -- the line, as the code takes it
  as_long : length (take (at + d - at) (drop at x)) ≡ d
  as_long = let k : at + d - at ≡ d = omega arith in rw k (length-take-le d (drop at x) counted.inside)

  is_number : is_decimal (take (at + d - at) (drop at x)) ≡ true
  is_number =
      let k : at + d - at ≡ d = omega arith in
      is_decimal_lem _ (record {
        some_digit = omega (arith, as_long, n.some);
        short = omega (arith, as_long, w.few);
        led = n.led;
        digits = λ i h. let l : i < d = omega (arith, as_long) in rw (k, get_or-take d (drop at x) i 0 l) (counted.digits i l);
      })

  -- its number, and so the row
  says_number : Some v ≡ number_says (take (at + d - at) (drop at x))
  unfolding number_says
  says_number = let k : at + d - at ≡ d = omega arith in rw is_number (ap Some (rw k counted.so_far))

  pub number_answer : (rows : ℕ) (r : LineSaid) → r ≡ delay_says rows v at (at + d + 1) → r ≡ line_says x at rows
  number_answer rows r e =
      row_answer x at _ at (at + d + 1) there rows r (row_not_last _ is_number)
      (row_value rows _ at (at + d + 1) v r says_number e)
