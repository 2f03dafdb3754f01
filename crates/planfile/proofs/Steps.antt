-- The reader's steps: the tag, a number, the rows. Assumes nothing.
use mathlib.Core.Path.{◌≡◌, refl, sym, ◌∙◌}
use mathlib.Core.List.{List, []}
use Prim.Native.Nat.{ℕ, zero, suc, ◌+◌, ◌-◌, ◌≤◌, ◌<◌}
use native.Mathlib.Omega.{arith}
use native.Mathlib.Numerals.{add-one}
use lib.ListN.{length, take, drop, set, length-drop, length-set}
use lib.Seq.{take-suc-set}
use Rattle.ground.specs.Refusals.{number_of}
use Rattle.ground.proofs.Faults.{below, above, inside}
use Rattle.planfile.specs.Number.{Value, formed, refusal_of, read_number, form_fault}
use Rattle.planfile.specs.FileMeaning.{got, stopped, ranged, number, row, rows}
use Rattle.planfile.specs.declared.Malformed.{Malformed}
use Rattle.planfile.specs.declared.Malformed.TheVariants.{Cut as IsCut, TooLong as IsTooLong, Needless as IsNeedless}
use Rattle.planfile.proofs.Numbers.{small}

form_stops : (at lo hi fault : ℕ) (m : Malformed) → stopped (form_fault (formed m)) at ≡ ranged (formed m) at lo hi fault
form_stops at lo hi fault IsCut = refl
form_stops at lo hi fault IsTooLong = refl
form_stops at lo hi fault IsNeedless = refl

-- what is wrong with a form has one number
pub refusal_number : (m : Malformed) → number_of (refusal_of m) ≡ form_fault (formed m)
unfolding form_fault
refusal_number IsCut = refl
refusal_number IsTooLong = refl
refusal_number IsNeedless = refl

-- a number: its form, then its range
module _ (bs : List ℕ) (at lo hi fault : ℕ) where
  pub number_form : (m : Malformed) → formed m ≡ read_number (drop at bs) → stopped (form_fault (formed m)) at ≡ number bs at lo hi fault
  unfolding number
  number_form m e = rw (← e) (form_stops at lo hi fault m)

  module _ (v n : ℕ) (e : read_number (drop at bs) ≡ Value v n) where
    pub number_low : v < lo → stopped fault at ≡ number bs at lo hi fault
    unfolding number
    number_low h = rw (e, below lo hi v h)

    pub number_high : hi < v → stopped fault at ≡ number bs at lo hi fault
    unfolding number
    number_high h = rw (e, above lo hi v h)

    pub number_in : lo ≤ v → v ≤ hi → got v (at + n) ≡ number bs at lo hi fault
    unfolding number
    number_in h k = rw (e, inside lo hi v h k)

-- a number ends within the bytes
pub number_ends : (bs : List ℕ) (at v n : ℕ) → read_number (drop at bs) ≡ Value v n → at + n ≤ length bs
unfolding read_number
number_ends bs at v n e = let s = small _ _ _ v n e in omega (arith, s.low, s.within, length-drop at bs)

-- the rows that are left, after j of n
module _ (bs : List ℕ) (p n j : ℕ) where
  pub rows_stop : (ds os : List ℕ) (at m q : ℕ) → j < n → row bs p at ≡ stopped m q → rows bs p (n - j) ds os at ≡ stopped m q
  unfolding rows
  rows_stop ds os at m q h e = let s : n - j ≡ suc (n - suc j) = omega arith in rw (s, rows, e)

  pub rows_end : (ds os : List ℕ) (at : ℕ) → n ≤ j → rows bs p (n - j) ds os at ≡ got (record { delays = ds; offsets = os }) at
  unfolding rows
  rows_end ds os at h = let s : n - j ≡ zero = omega arith in rw (s, rows)

  pub rows_more : (ds os : List ℕ) (at d o next : ℕ) → j < n → j < length ds → j < length os →
      row bs p at ≡ got (record { delay = d; offset = o }) next →
      rows bs p (n - j) (take j ds) (take j os) at ≡ rows bs p (n - (j + 1)) (take (j + 1) (set ds j d)) (take (j + 1) (set os j o)) next
  unfolding rows
  rows_more ds os at d o next h k l e =
      let s : n - j ≡ suc (n - suc j) = omega arith in
      rw (s, rows, e, add-one, take-suc-set ds j d k, take-suc-set os j o l)

-- j rows of n stand in the fronts of the lists ds and os
pub record Reading (bs : List ℕ) (p n from room-ds room-os : ℕ) (ds os : List ℕ) (at j : ℕ) : Type 0 where
  pub row : j ≤ n
  pub room_d : length ds ≡ room-ds
  pub room_o : length os ≡ room-os
  pub left : rows bs p n [] [] from ≡ rows bs p (n - j) (take j ds) (take j os) at

pub reading_none : (bs : List ℕ) (p n from : ℕ) (ds os : List ℕ) → Reading bs p n from (length ds) (length os) ds os from 0
reading_none bs p n from ds os = let z : n - 0 ≡ n = omega arith in record { row = omega arith; room_d = refl; room_o = refl; left = rw z }

module _ (bs : List ℕ) (p n from rd ro : ℕ) (ds os : List ℕ) (at j : ℕ) (w : Reading bs p n from rd ro ds os at j) where
  pub reading_stops : (m q : ℕ) → j < n → row bs p at ≡ stopped m q → stopped m q ≡ rows bs p n [] [] from
  reading_stops m q h e = sym (w.left ∙ rows_stop bs p n j (take j ds) (take j os) at m q h e)

  pub reading_more : (d o next : ℕ) → j < n → n ≤ rd → n ≤ ro → row bs p at ≡ got (record { delay = d; offset = o }) next →
      Reading bs p n from rd ro (set ds j d) (set os j o) next (j + 1)
  reading_more d o next h k l e =
      record {
        row = omega arith;
        room_d = length-set ds j d ∙ w.room_d;
        room_o = length-set os j o ∙ w.room_o;
        left = w.left ∙ rows_more bs p n j ds os at d o next h (omega (arith, w.room_d)) (omega (arith, w.room_o)) e;
      }

  pub reading_done : n ≤ j → got (record { delays = take n ds; offsets = take n os }) at ≡ rows bs p n [] [] from
  reading_done h = let e : n ≡ j = omega (arith, w.row) in rw e (sym (rw e at (w.left ∙ rows_end bs p n j (take j ds) (take j os) at h)))
