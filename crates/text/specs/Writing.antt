-- The text of a table, as the laws speak of it: no call writes one.
use Rattle.std.specs.Prelude.{cond, List, [], ◌∷◌, ◌++◌, map, ℕ, zero, suc, ◌+◌, ◌/◌, ◌%◌, ltb, length}
use Rattle.link.specs.declared.Link.{Link}
use Rattle.text.specs.Bytes.{newline, space, title_word, end_word}
use Rattle.text.specs.Decimal.{max_digits, naught}

-- the digits of a number with at most k of them: those of a tenth of it, and its last
unfoldable pub digits_in : ℕ → ℕ → List ℕ
digits_in zero n = []
digits_in (suc k) n = cond (ltb n 10) ((naught + n) ∷ []) (digits_in k (n / 10) ++ ((naught + n % 10) ∷ []))

-- a number's text
abbrev pub digits : ℕ → List ℕ
digits n = digits_in max_digits n

-- "Every line, the last included, ends with byte 10."
unfoldable pub glue : List (List ℕ) → List ℕ
glue [] = []
glue (l ∷ ls) = l ++ newline ∷ glue ls

-- "Line two is period, one space, size."
unfoldable pub pair_line : Link → List ℕ
pair_line k = digits k.period ++ space ∷ digits k.size

-- "The last line is `end`, one space, the number of rows."
unfoldable pub last_line : ℕ → List ℕ
last_line n = end_word ++ digits n

-- "Line one is `pma 1`. Line two is period, one space, size. Then one delay a line. The last line is .."
abbrev pub table_lines : Link → List ℕ → List (List ℕ)
table_lines k ds = title_word ∷ pair_line k ∷ (map digits ds ++ (last_line (length ds) ∷ []))

-- the text of the table ds on the link k
abbrev pub text_of : Link → List ℕ → List ℕ
text_of k ds = glue (table_lines k ds)
