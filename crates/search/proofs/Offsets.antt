-- The offset of a row that is to start at a slot. Assumes nothing.
use mathlib.Core.Path.{◌≡◌, refl, ◌∙◌}
use Prim.Native.Nat.{ℕ, ◌+◌, ◌-◌, ◌%◌, ◌<◌}
use native.Mathlib.Nat.{mod-lt, mod-eq_of_lt}
use Rattle.link.specs.Rows.{Crossing, one, two, second, start_at}
use Rattle.ground.proofs.Remainders.{there_and_back, back_and_there}
use Rattle.search.specs.Steps.{offset_of}

module _ (p : ℕ) (some : 0 < p) where
  -- a row that starts at x has that offset, and no other
  pub offset_start : (c : Crossing) (d a : ℕ) → a < p → offset_of p c d (start_at p c d a) ≡ a
  unfolding offset_of second
  offset_start one d a h = refl
  offset_start two d a h = there_and_back p some d a ∙ mod-eq_of_lt h

  pub start_offset : (c : Crossing) (d x : ℕ) → x < p → start_at p c d (offset_of p c d x) ≡ x
  unfolding offset_of second
  start_offset one d x h = refl
  start_offset two d x h = back_and_there p some d x ∙ mod-eq_of_lt h

  pub offset_low : (c : Crossing) (d x : ℕ) → x < p → offset_of p c d x < p
  unfolding offset_of
  offset_low one d x h = h
  offset_low two d x h = mod-lt (x + (p - d % p)) some
