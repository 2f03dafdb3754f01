-- What the inner functions answer. The contracts of the readers do not rest on it.
use Rattle.std.specs.Prelude.{◌≡◌, true, false, cond, not, List, [], ◌∷◌, ℕ, suc, ◌-◌, ◌≤◌, ◌<◌, ltb, leb, length, get_or, take, drop}
use Rattle.std.specs.Prelude.{Option, Some, None, Result, Ok, Err}
use Rattle.ground.specs.Judging.{Cause, Fine, first, when}
use Rattle.ground.specs.Protocol.{unless}
use Rattle.ground.specs.Refusals.{number_of}
use Rattle.ground.specs.declared.Fault.{Fault}
use Rattle.link.specs.Limits.{max_delay, max_rows, bad_delay, bad_rows}
use Rattle.link.specs.declared.Link.{Link}
use Rattle.text.specs.Limits.{cut_line}
use Rattle.text.specs.Bytes.{newline}
use Rattle.text.specs.Decimal.{max_digits, is_other, leading_zero, is_decimal, value}
use Rattle.text.specs.Lines.{next_line, begin, line_from, ended_from}
use Rattle.text.specs.Faults.{is_pair, link_of, is_last, pair_faults, row_faults, last_faults, own_faults, lines_faults, text_faults}
use Rattle.text.specs.Faults.{rows_of, end_of}
use Rattle.text.specs.Answer.{table_link, delays_of}
use Rattle.text.specs.TextAnswer.{TextSaid, whole_text, refusing_text}
use Rattle.text.specs.declared.judge.Head.{Head}
use Rattle.text.specs.declared.judge.Line.{Line}
use Rattle.text.specs.declared.judge.Line.TheVariants.{More as MoreRows, Last as LastLine}

-- the first d bytes are digits, and v is their value
pub record Counted (bs : List ℕ) (d v : ℕ) : Type 0 where
  pub inside : d ≤ length bs
  pub digits : (j : ℕ) → j < d → is_other (get_or bs j 0) ≡ false
  pub so_far : v ≡ value (take d bs)

-- there are no more of them in front, or there are 8
pub record InFront (bs : List ℕ) (d v : ℕ) : Type 0 where
  pub counted : Counted bs d v
  pub few : d ≤ max_digits
  pub no_more : d < length bs → d < max_digits → is_other (get_or bs d 0) ≡ true

-- the value of a decimal number
unfoldable pub number_says : List ℕ → Option ℕ
number_says bs = cond (is_decimal bs) (Some (value bs)) None

-- the two numbers of line two
unfoldable pub numbers_say : List ℕ → Option Link
numbers_say l = cond (is_pair l) (Some (link_of l)) None

-- the first two lines: the link, and where the rows begin; or the first fault, by its number and its place
pub data HeadSaid : Type 0 where
  Rows : Link → ℕ → HeadSaid
  WrongHead : ℕ → ℕ → HeadSaid

abbrev pub head_said : Result Head Fault → HeadSaid
head_said (Ok h) = Rows h.link h.at
head_said (Err f) = WrongHead (number_of f.refusal) f.place

-- a line behind them: a row's delay, or the last line, and the place behind it; or its first fault
pub data LineSaid : Type 0 where
  More : ℕ → ℕ → LineSaid
  Last : ℕ → LineSaid
  Wrong : ℕ → ℕ → LineSaid

abbrev pub line_said : Result Line Fault → LineSaid
line_said (Ok (MoreRows delay next)) = More delay next
line_said (Ok (LastLine next)) = Last next
line_said (Err f) = Wrong (number_of f.refusal) f.place

-- line two, the last line and a row behind n rows, also by its value: the line l begins at `at`, and `next` is the place behind it
abbrev pub pair_says : List ℕ → ℕ → ℕ → HeadSaid
pair_says l at next = unless WrongHead (first (pair_faults l at)) (Rows (link_of l) next)

abbrev pub last_says : ℕ → List ℕ → ℕ → ℕ → LineSaid
last_says n l at next = unless Wrong (first (last_faults n l at)) (Last next)

abbrev pub delay_says : ℕ → ℕ → ℕ → ℕ → LineSaid
delay_says n v at next =
    unless Wrong (first (when (ltb max_delay v) bad_delay at ∷ when (leb max_rows n) bad_rows at ∷ [])) (More v next)

abbrev pub row_says : ℕ → List ℕ → ℕ → ℕ → LineSaid
row_says n l at next = unless Wrong (first (row_faults n l at)) (More (value l) next)

-- a line of x from `at` to its byte 10 at e, with no leading zero
pub record NumberLine (x : List ℕ) (at e : ℕ) : Type 0 where
  pub some : at < e
  pub inside : e < length x
  pub ends : get_or x e 0 ≡ newline
  pub led : leading_zero (take (e - at) (drop at x)) ≡ false

-- the faults of line k, which begins at `at`: 3, then its own
unfoldable pub faults_from : List ℕ → ℕ → ℕ → List Cause
faults_from x at k = when (not (ended_from x at)) cut_line at ∷ own_faults k (line_from x at) at

-- the line of x that begins at `from`, and ends: its bytes, the place of the first, and the place behind it
pub record LineAt (x : List ℕ) (from : ℕ) (l : List ℕ) (at next : ℕ) : Type 0 where
  pub ended : ended_from x from ≡ true
  pub bytes : l ≡ line_from x from
  pub start : at ≡ from
  pub behind : next ≡ next_line x from

-- no byte 10 remains at or behind `at`: 3
pub record CutAt (x : List ℕ) (at : ℕ) (f : Fault) : Type 0 where
  pub cut : ended_from x at ≡ false
  pub number : number_of f.refusal ≡ cut_line
  pub place : f.place ≡ at

-- line two, from `at` on: its link, and where the rows begin
unfoldable pub second_says : List ℕ → ℕ → HeadSaid
second_says x at = unless WrongHead (first (faults_from x at 1)) (Rows (link_of (line_from x at)) (next_line x at))

-- the first two lines
unfoldable pub head_says : List ℕ → HeadSaid
head_says x = unless WrongHead (first (lines_faults x 2)) (Rows (table_link x) (begin x 2))

-- the line behind n rows, from `at` on: a row and its delay, or the last one; and where the next line begins
unfoldable pub line_says : List ℕ → ℕ → ℕ → LineSaid
line_says x at n =
    unless Wrong (first (faults_from x at (suc (suc n))))
    (cond (is_last (line_from x at)) (Last (next_line x at)) (More (value (line_from x at)) (next_line x at)))

-- what the lines of x say
unfoldable pub judging : List ℕ → TextSaid
judging x = unless refusing_text (first (text_faults x)) (whole_text (table_link x) (rows_of x) (end_of x))

-- the answer r, and the delays of a whole text in front of the list `kept`, whose other places are nobody's
pub record Kept (x : List ℕ) (r : TextSaid) (kept : List ℕ) : Type 0 where
  pub answer : r ≡ judging x
  pub delays : first (text_faults x) ≡ Fine → take (rows_of x) kept ≡ delays_of x (rows_of x)
