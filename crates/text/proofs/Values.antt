-- The delays of the first rows, as they are kept one by one. Assumes nothing.
use mathlib.Core.Path.{◌≡◌, refl, ◌∙◌}
use mathlib.Core.List.{List}
use Prim.Native.Nat.{ℕ, zero, suc, ◌<◌}
use native.Mathlib.Numerals.{add-one}
use lib.ListN.{length, take, set, length-append}
use lib.Seq.{take-suc-set}
use Rattle.text.specs.Lines.{line}
use Rattle.text.specs.Decimal.{value}
use Rattle.text.specs.Answer.{delays_of}

pub length_delays : (x : List ℕ) (n : ℕ) → length (delays_of x n) ≡ n
unfolding delays_of
length_delays x zero = refl
length_delays x (suc n) = length-append (delays_of x n) _ ∙ rw (length_delays x n) (add-one n)

pub one_more_kept : (x kept : List ℕ) (n v : ℕ) → n < length kept → take n kept ≡ delays_of x n → v ≡ value (line x (suc (suc n)))
    → take (suc n) (set kept n v) ≡ delays_of x (suc n)
unfolding delays_of
one_more_kept x kept n v l d e = take-suc-set kept n v l ∙ rw (d, e)
