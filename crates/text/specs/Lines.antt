-- The lines of a text x: "Every line, the last included, ends with byte 10." Lines are numbered from 0.
use Rattle.std.specs.Prelude.{Bool, List, ℕ, zero, suc, ◌+◌, ltb, length, take, drop}
use Rattle.text.specs.Bytes.{newline, seek}

-- where the line behind the one that begins at the byte `at` begins
unfoldable pub next_line : List ℕ → ℕ → ℕ
next_line x at = at + seek newline (drop at x) + 1

-- the byte at which line k begins
unfoldable pub begin : List ℕ → ℕ → ℕ
begin x zero = 0
begin x (suc k) = next_line x (begin x k)

-- the bytes from `at` up to the next byte 10, without it
unfoldable pub line_from : List ℕ → ℕ → List ℕ
line_from x at = take (seek newline (drop at x)) (drop at x)

-- a byte 10 remains at or behind `at`
unfoldable pub ended_from : List ℕ → ℕ → Bool
ended_from x at = ltb (seek newline (drop at x)) (length (drop at x))

-- the bytes of line k
abbrev pub line : List ℕ → ℕ → List ℕ
line x k = line_from x (begin x k)

-- line k ends
abbrev pub ended : List ℕ → ℕ → Bool
ended x k = ended_from x (begin x k)
