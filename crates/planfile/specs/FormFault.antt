-- What is wrong with a file's form, cause by cause, and where: "judged in this order at each place: tag wrong, bytes end inside the tag
-- or a number of fewer than four bytes so far, a fourth byte with its top bit set, number with a needless zero group, bytes left over".
use Rattle.std.specs.Prelude.{◌≡◌, Bool, true, ◌||◌, List, [], ℕ, suc, ◌≤◌, ◌<◌, eqb, length, get_or, drop}
use Rattle.ground.specs.Words.{begins, Differ}
use Rattle.link.specs.Limits.{max_period, max_delay, bad_period, bad_size, bad_delay}
use Rattle.planfile.specs.Causes.{wrong_tag, cut_off, overlong, needless_group, left_over}
use Rattle.planfile.specs.Number.{group, more_groups}
use Rattle.planfile.specs.Format.{tag}
use Rattle.planfile.specs.FileMeaning.{got, number, Head, header, Rows, rows}

-- "bytes end inside the tag": "A short file whose bytes so far agree with the tag counts as cut"
abbrev pub EndsInTag : List ℕ → Type 0
EndsInTag bs = (length bs < length tag) × ((i : ℕ) → i < length bs → get_or bs i 0 ≡ get_or tag i 0)

-- the first m bytes have their top bits set
abbrev pub TopBits : ℕ → List ℕ → Type 0
TopBits m bs = (i : ℕ) → i < m → group ≤ get_or bs i 0

-- what is wrong with the form of a number that begins with the first of the bytes, and its refusal
pub data NumberFault (bs : List ℕ) (n : ℕ) : Type 0 where
  -- "bytes end inside .. a number of fewer than four bytes so far"
  cut : n ≡ cut_off → length bs ≤ more_groups → TopBits (length bs) bs → NumberFault bs n
  -- "a fourth byte with its top bit set"
  too_long : n ≡ overlong → more_groups < length bs → TopBits (suc more_groups) bs → NumberFault bs n
  -- "number with a needless zero group": it ends in a zero byte, which is not its first
  needless : n ≡ needless_group → (m : ℕ) → 1 ≤ m → m ≤ more_groups → m < length bs → TopBits m bs → get_or bs m 0 ≡ 0 → NumberFault bs n

-- "Each number is judged as it is read": the reader comes to a place only where every number before it is of its form and in its range;
-- to row i, of the rows behind the header h,
pub record RowAt (bs : List ℕ) (h : Head) (i at : ℕ) : Type 0 where
  pub from : ℕ
  pub above : Rows
  pub headed : header bs (length tag) ≡ got h from
  pub rowed : rows bs h.link.period i [] [] from ≡ got above at

-- and to a number
pub data NumberAt (bs : List ℕ) (at : ℕ) : Type 0 where
  period : at ≡ length tag → NumberAt bs at
  size : (p : ℕ) → number bs (length tag) 1 max_period bad_period ≡ got p at → NumberAt bs at
  row_count : (p t next : ℕ) → number bs (length tag) 1 max_period bad_period ≡ got p next → number bs next 1 p bad_size ≡ got t at →
      NumberAt bs at
  delay : (h : Head) (i : ℕ) → i < h.rows → RowAt bs h i at → NumberAt bs at
  offset : (h : Head) (i d next : ℕ) → i < h.rows → RowAt bs h i next → number bs next 0 max_delay bad_delay ≡ got d at → NumberAt bs at

-- the first fault of a file, where it is one of form: its number and its place
pub data FormFault (bs : List ℕ) (n at : ℕ) : Type 0 where
  -- "tag wrong": one of the bytes that are there is not the tag's
  tag_wrong : n ≡ wrong_tag → at ≡ 0 → Differ bs tag → FormFault bs n at
  cut_tag : n ≡ cut_off → at ≡ 0 → EndsInTag bs → FormFault bs n at
  bad_number : begins tag bs ≡ true → NumberAt bs at → NumberFault (drop at bs) n → FormFault bs n at
  -- "bytes left over", where a row after the last would begin
  bytes_left_over : n ≡ left_over → begins tag bs ≡ true → (h : Head) → RowAt bs h h.rows at → at < length bs → FormFault bs n at

-- the five numbers
unfoldable pub form_number : ℕ → Bool
form_number n = eqb n wrong_tag || (eqb n cut_off || (eqb n overlong || (eqb n needless_group || eqb n left_over)))
