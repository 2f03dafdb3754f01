-- What the program `exact` prints for the bytes of its input.
use Rattle.std.specs.Prelude.{List, [], ◌∷◌, ◌++◌, ℕ, take, replicate}
use Rattle.ground.specs.Protocol.{Outcome}
use Rattle.link.specs.Limits.{max_rows}
use Rattle.link.specs.declared.Link.{Link}
use Rattle.text.specs.Bytes.{newline, space}
use Rattle.text.specs.Writing.{digits_in}
use Rattle.text.specs.Answer.{reading, Verdict as Reading, table, refusal as unread, Said as Read}
use Rattle.search.specs.Answer.{Verdict, plan, nothing, spent, refusal, Said, exactly}
use Rattle.search.specs.Ceilings.{ceiling_up_to}

-- `found`, `none` and `refused`, each with a space
abbrev pub found_word : List ℕ
found_word = 102 ∷ 111 ∷ 117 ∷ 110 ∷ 100 ∷ 32 ∷ []

abbrev pub none_word : List ℕ
none_word = 110 ∷ 111 ∷ 110 ∷ 101 ∷ 32 ∷ []

abbrev pub refused_word : List ℕ
refused_word = 114 ∷ 101 ∷ 102 ∷ 117 ∷ 115 ∷ 101 ∷ 100 ∷ 32 ∷ []

-- no answer takes more bytes
abbrev pub most : ℕ
most = 256

-- a number below 2 ^ 64 has at most 20 digits
abbrev pub max_digits : ℕ
max_digits = 20

abbrev pub number : ℕ → List ℕ
number n = digits_in max_digits n

-- a number that ends its line: "byte 10 ends each line"
abbrev pub number_line : ℕ → List ℕ
number_line n = number n ++ (newline ∷ [])

-- "one offset a line"
unfoldable pub offset_lines : List ℕ → List ℕ
offset_lines [] = []
offset_lines (o ∷ os) = number_line o ++ offset_lines os

-- "prints `found` and the tests, then one offset a line"
unfoldable pub found_lines : ℕ → List ℕ → List ℕ
found_lines tests os = (found_word ++ number_line tests) ++ offset_lines os

-- "or `none` and the tests"
unfoldable pub none_line : ℕ → List ℕ
none_line tests = none_word ++ number_line tests

-- "or `refused`, the number and the place"
unfoldable pub refused_line : ℕ → ℕ → List ℕ
refused_line n p = ((refused_word ++ number n) ++ (space ∷ [])) ++ number_line p

-- what the planner answered for n rows
abbrev pub shown_as : Verdict → Outcome Said (List ℕ) → ℕ → List ℕ
shown_as plan o n = found_lines o.says.tests (take n o.leaves)
shown_as nothing o n = none_line o.says.tests
shown_as spent o n = refused_line o.says.number o.says.place
shown_as refusal o n = refused_line o.says.number o.says.place

abbrev pub shown : Outcome Said (List ℕ) → ℕ → List ℕ
shown o n = shown_as o.says.verdict o n

-- room for every row
abbrev pub blank : List ℕ
blank = replicate max_rows 0

-- "uses the ceiling as budget": n rows with the delays ds
unfoldable pub planned : Link → List ℕ → ℕ → List ℕ
planned k ds n = shown (exactly k ds (ceiling_up_to n) blank) n

-- what the reader answered
abbrev pub printed_as : Reading → Outcome Read (List ℕ) → List ℕ
printed_as table o = planned o.says.link (take o.says.rows o.leaves) o.says.rows
printed_as unread o = refused_line o.says.number o.says.place

-- "reads a text table from standard input"
unfoldable pub printed : List ℕ → List ℕ
printed x = printed_as (reading x blank).says.verdict (reading x blank)
