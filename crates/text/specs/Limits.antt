-- The text's own limit, and the refusal numbers that only a text gets, by name.
use Rattle.std.specs.Prelude.{ℕ}

-- "text: at most 1,024 bytes"
abbrev pub max_text : ℕ
max_text = 1024

-- "text above 1,024 bytes"
abbrev pub long_text : ℕ
long_text = 1

-- "line one is wrong"
abbrev pub bad_line_one : ℕ
bad_line_one = 2

-- "text ends before a line does"
abbrev pub cut_line : ℕ
cut_line = 3

-- "a line isn't of its form"
abbrev pub bad_line : ℕ
bad_line = 4

-- "`end` count differs from the rows read"
abbrev pub bad_count : ℕ
bad_count = 9

-- "bytes after the last line"
abbrev pub bytes_after : ℕ
bytes_after = 10
