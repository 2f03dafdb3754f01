-- Where the rows before a row cannot take all of the planner's offsets: each takes at most so many, and these are summed up.
-- Assumes nothing.
use mathlib.Core.Path.{◌≡◌, sym, ap, ◌∙◌}
use mathlib.Core.List.{List}
use Prim.Native.Nat.{ℕ, zero, suc, ◌+◌, ◌-◌, ◌*◌, ◌/◌, ◌≤◌, ◌<◌}
use native.Mathlib.Omega.{arith}
use native.Mathlib.Nat.{zero-mul, mul-one, one-mul, mul-suc, suc-mul, mul-add, add-mul, mul-le-mul_right, le-div_iff_mul-le}
use lib.ListN.{length}
use Rattle.ground.proofs.Sharing.{sum_most}
use Rattle.link.specs.Range.{GoodTable}
use Rattle.link.specs.Rows.{span_of}
use Rattle.link.specs.declared.Link.{Link}
use Rattle.quick.specs.Loads.{LightLoad, ThirdLoad, FirstFitLoad, SimpleLoad, named_for}
use Rattle.quick.specs.Right.{Placed, Stuck}
use Rattle.quick.proofs.Entries.{each_offset, multiples}
use Rattle.quick.proofs.FirstFit.{each_least}
use Rattle.quick.proofs.Following.{follows}
use Rattle.quick.proofs.Losing.{three_at_most, twice_at_most, follower_at_most, all_named}

-- for u + 1 rows, 3n-2 messages end to end are three for each row but the last, and one
pub messages : (u l : ℕ) → (3 * (u + 1) - 2) * l ≡ u * l + (u * l + (u * l + l))
messages u l = let e : 3 * (u + 1) - 2 ≡ u + (u + (u + 1)) = omega arith in rw (e, add-mul, add-mul, add-mul, one-mul)

-- with u rows before the last, 4l-2 for each of them is no less than 3l-1 for each and l-1 more
simple_is_enough : (u l p : ℕ) → 1 ≤ l → l ≤ p → u * (4 * l - 2) < p → (3 * (u + 1) - 2) * l < p + (u + 1)
simple_is_enough zero l p some fits h = omega (arith, messages 0 l, zero-mul l)
simple_is_enough (suc v) l p some fits h =
    let u = suc v in
    let e : suc (suc (4 * l - 2)) ≡ l + (l + (l + l)) = omega arith in
    let four : u * (4 * l - 2) + u + u ≡ u * l + (u * l + (u * l + u * l)) =
    sym (mul-suc u (suc (4 * l - 2)) ∙ ap (λ (x : ℕ). x + u) (mul-suc u (4 * l - 2))) ∙ rw (e, mul-add, mul-add, mul-add) in
    let f : l ≡ suc (l - 1) = omega arith in
    let g : u * l ≡ u * (l - 1) + u = ap (λ (x : ℕ). u * x) f ∙ mul-suc u (l - 1) in
    omega (arith, messages u l, four, g, suc-mul v (l - 1))

-- no row of the table is without an offset
abbrev pub NoneStuck : Link → List ℕ → ℕ → ℕ → Type 0
NoneStuck k ds step count = (j : ℕ) → j < length ds → Stuck k.period (span_of k) ds step count j → ⊥

module _ (k : Link) (ds : List ℕ) (g : GoodTable k ds) where
  -- the rows before the last
  abbrev u : ℕ
  u = length ds - 1

  abbrev p : ℕ
  p = k.period

  abbrev l : ℕ
  l = span_of k

  rows : length ds ≡ u + 1
  rows = omega (arith, g.rows_low)

  pub third_is_light : ThirdLoad k ds → LightLoad k ds
  third_is_light h = let fits = (le-div_iff_mul-le g.span_low).1 h in omega arith

  -- what is enough for Meta-Offset is enough for First Fit
  pub light_for_first_fit : LightLoad k ds → FirstFitLoad k ds
  light_for_first_fit h = omega (arith, (le-div_iff_mul-le g.span_low).0 h, g.rows_low)

  pub simple_for_first_fit : SimpleLoad k ds → FirstFitLoad k ds
  simple_for_first_fit h = rw rows (omega (arith, simple_is_enough u l p g.span_low g.span_high h))

  -- each earlier row takes at most b of the offsets, row 0 at most e more, and there are more than all rows but the last can take
  none_stuck : (step count b e : ℕ)
      → ((j : ℕ) (os : List ℕ) → Placed p l ds step count j os → (i : ℕ) → i < j
      → (named_for p l ds os step count j i ≤ b + e) × (0 < i → named_for p l ds os step count j i ≤ b))
      → u * b + e < count → NoneStuck k ds step count
  none_stuck step count b e each more j h s =
      let last : j ≤ u = omega arith in
      let at_most = each j s.offsets s.before in
      let most = sum_most _ b e j (λ q. (at_most 0 q).0) (λ i f q. (at_most i q).1 f) in
      omega (arith, all_named p l ds step count j s, most, more, mul-le-mul_right b last)

  pub multiples_enough : LightLoad k ds → NoneStuck k ds l (p / l)
  multiples_enough light =
      none_stuck l (p / l) 3 0
      (λ j os r i h.
      let three = three_at_most p l ds l (p / l) (multiples k ds g) g.span_low j os r i h (omega arith) in
      (three, λ _. three))
      (omega (arith, g.rows_low))

  -- row 0 takes 4l-2 offsets and each later one 3l-1
  pub offsets_enough : FirstFitLoad k ds → NoneStuck k ds 1 p
  offsets_enough light = none_stuck 1 p (l + w) (l - 1) each (omega (arith, rw rows at light, all, messages u l, g.span_low))
    where
      -- the slots in which a start meets a row
      w : ℕ
      w = l + l - 1

      all : u * (l + w) + u ≡ u * l + (u * l + u * l)
      all = let e : suc (l + w) ≡ l + (l + l) = omega (arith, g.span_low) in sym (mul-suc u (l + w)) ∙ rw (e, mul-add, mul-add)

      each : (j : ℕ) (os : List ℕ) → Placed p l ds 1 p j os → (i : ℕ) → i < j
          → (named_for p l ds os 1 p j i ≤ l + w + (l - 1)) × (0 < i → named_for p l ds os 1 p j i ≤ l + w)
      each j os r i h =
          let own = mul-one l in
          let around = mul-one w in
          let ways = each_offset k ds g in
          let twice = twice_at_most p l ds 1 p ways g.span_low j os r i h w (omega arith) in (
            omega (arith, twice, g.span_low),
            λ f. follower_at_most p l ds 1 p ways g.span_low j os r i h
                (follows p l ds os g.span_high g.span_low j (each_least p l ds os j r) i f h) l w (omega arith) (omega arith),
          )
