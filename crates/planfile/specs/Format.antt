-- The bytes of a plan.
use Rattle.std.specs.Prelude.{cond, List, [], ◌∷◌, ◌++◌, ◌≡◌, ℕ, ◌+◌, ◌*◌, ◌≤◌, ◌<◌, ltb, length, get_or}
use Rattle.link.specs.Limits.{max_rows}
use Rattle.link.specs.declared.Link.{Link}
use Rattle.planfile.specs.Number.{limit, more_groups, number_bytes}

-- "Bytes 50 4D 41 01 (hex)"
abbrev pub tag : List ℕ
tag = 0x50 ∷ 0x4D ∷ 0x41 ∷ 0x01 ∷ []

-- "for each row delay and offset"
unfoldable pub rows_bytes : List ℕ → List ℕ → List ℕ
rows_bytes [] os = []
rows_bytes (d ∷ ds) [] = []
rows_bytes (d ∷ ds) (o ∷ os) = number_bytes d ++ (number_bytes o ++ rows_bytes ds os)

-- "then the numbers period, size, n"
unfoldable pub header_bytes : Link → ℕ → List ℕ
header_bytes k n = number_bytes k.period ++ (number_bytes k.size ++ number_bytes n)

unfoldable pub plan_bytes : Link → List ℕ → List ℕ → List ℕ
plan_bytes k ds os = tag ++ (header_bytes k (length ds) ++ rows_bytes ds os)

-- the same by its parts: the tag, then each number in turn
unfoldable pub rows_parts : List ℕ → List ℕ → List (List ℕ)
rows_parts [] os = []
rows_parts (d ∷ ds) [] = []
rows_parts (d ∷ ds) (o ∷ os) = number_bytes d ∷ number_bytes o ∷ rows_parts ds os

unfoldable pub numbers_parts : Link → List ℕ → List ℕ → List (List ℕ)
numbers_parts k ds os = number_bytes k.period ∷ number_bytes k.size ∷ number_bytes (length ds) ∷ rows_parts ds os

unfoldable pub plan_parts : Link → List ℕ → List ℕ → List (List ℕ)
plan_parts k ds os = tag ∷ numbers_parts k ds os

-- the first byte of the part that has byte m, where the parts stand one after the other from `at` on; behind them all, their end
unfoldable pub first_byte : List (List ℕ) → ℕ → ℕ → ℕ
first_byte [] at m = at
first_byte (part ∷ parts) at m = cond (ltb m (at + length part)) at (first_byte parts (at + length part) m)

-- "The place .. is the first byte of the tag, number or leftover at fault (for the tag always 0)", where byte m is at fault
abbrev pub place_of : Link → List ℕ → List ℕ → ℕ → ℕ
place_of k ds os m = first_byte (plan_parts k ds os) 0 m

-- "No number has more than four bytes": the three of the header, and two of each row
abbrev pub header_room : ℕ
header_room = 3 * 4

abbrev pub rows_room : ℕ
rows_room = 8 * max_rows

-- rows whose numbers have at most four bytes each
pub record RowsFit (ds os : List ℕ) : Type 0 where
  pub rows_high : length ds ≤ max_rows
  pub as_many : length os ≡ length ds
  pub delays : (i : ℕ) → i < length ds → get_or ds i 0 < limit more_groups
  pub offsets : (i : ℕ) → i < length os → get_or os i 0 < limit more_groups
