-- Document 01's ranges ("Quantities"), and the refusal numbers that calls share, by name. A crate's own numbers stand in that crate.
use Rattle.std.specs.Prelude.{ℕ}

-- "period P, in slots: 1 to 1,000,000"
abbrev pub max_period : ℕ
max_period = 1000000

-- "delay of a row: 0 to 16,777,215"
abbrev pub max_delay : ℕ
max_delay = 16777215

-- "rows n: 1 to 64"
abbrev pub max_rows : ℕ
max_rows = 64

-- "Refusal numbers"
abbrev pub bad_period : ℕ
bad_period = 5

abbrev pub bad_size : ℕ
bad_size = 6

abbrev pub bad_delay : ℕ
bad_delay = 7

abbrev pub bad_rows : ℕ
bad_rows = 8

abbrev pub bad_length : ℕ
bad_length = 11

abbrev pub no_offset : ℕ
no_offset = 13

abbrev pub bad_offset : ℕ
bad_offset = 17

abbrev pub not_clear : ℕ
not_clear = 18
