-- The two lists that a list of records holds: as long as it, row by row, and where the first is that has a test. Assumes nothing.
use mathlib.Core.Path.{◌≡◌, refl, sym, ◌∙◌}
use mathlib.Core.Bool.{Bool, not}
use mathlib.Core.List.{List, [], ◌∷◌, map}
use Prim.Native.Nat.{ℕ, ◌<◌, ◌≤◌}
use native.Mathlib.Omega.{arith}
use lib.ListN.{length, length-map, get_or}
use Rattle.std.specs.List.{position, prefix_len}
use Rattle.std.proofs.lemmas.List.{get_or-map}
use Rattle.link.specs.Limits.{max_rows}
use Rattle.link.specs.Range.{InRange}
use Rattle.link.specs.Rows.{second}
use Rattle.link.specs.declared.Start.{Start}
use Rattle.records.specs.Columns.{delays_of, offsets_of}
use Rattle.records.specs.declared.Record.{Record}

pub delays_length : (rs : List Record) → length (delays_of rs) ≡ length rs
unfolding delays_of
delays_length rs = length-map rs _

pub offsets_length : (rs : List Record) → length (offsets_of rs) ≡ length rs
unfolding offsets_of
offsets_length rs = length-map rs _

pub one_each : (rs : List Record) → length (offsets_of rs) ≡ length (delays_of rs)
one_each rs = offsets_length rs ∙ sym (delays_length rs)

delay_at : (rs : List Record) (i : ℕ) (d : Record) → i < length rs → get_or (delays_of rs) i 0 ≡ (get_or rs i d).delay
unfolding delays_of
delay_at rs i d h = get_or-map (λ (r : Record). r.delay) rs i d 0 h

offset_at : (rs : List Record) (i : ℕ) (d : Record) → i < length rs → get_or (offsets_of rs) i 0 ≡ (get_or rs i d).offset
unfolding offsets_of
offset_at rs i d h = get_or-map (λ (r : Record). r.offset) rs i d 0 h

-- the start that the code works out of row i is the row's own
pub start_told : (rs : List Record) (i p : ℕ) (d : Record) (s : Start) → i < length rs
    → (s.first ≡ (get_or rs i d).offset) × (s.second ≡ second p (get_or rs i d).delay (get_or rs i d).offset)
    → (s.first ≡ get_or (offsets_of rs) i 0) × (s.second ≡ second p (get_or (delays_of rs) i 0) (get_or (offsets_of rs) i 0))
start_told rs i p d s h e = rw (delay_at rs i d h, offset_at rs i d h) e

pub few : (p l : ℕ) (rs : List Record) → InRange p l (delays_of rs) (offsets_of rs) → length rs ≤ max_rows
few p l rs r = omega (arith, r.rows_high, delays_length rs)

module _ (q : ℕ → Bool) (f : Record → ℕ) where
  same_prefix : (rs : List Record) → prefix_len (λ x. not (q x)) (map f rs) ≡ prefix_len (λ r. not (q (f r))) rs
  same_prefix [] = refl
  same_prefix (r ∷ rs) = rw (same_prefix rs)

  same_position : (rs : List Record) → position q (map f rs) ≡ position (λ r. q (f r)) rs
  same_position rs = rw (same_prefix rs, length-map rs f)

pub delay_found : (q : ℕ → Bool) (rs : List Record) → position q (delays_of rs) ≡ position (λ (r : Record). q r.delay) rs
unfolding delays_of
delay_found q rs = same_position q (λ (r : Record). r.delay) rs

pub offset_found : (q : ℕ → Bool) (rs : List Record) → position q (offsets_of rs) ≡ position (λ (r : Record). q r.offset) rs
unfolding offsets_of
offset_found q rs = same_position q (λ (r : Record). r.offset) rs
