-- What the bytes of a file mean: step by step from the first byte, "the first fault deciding".
use Rattle.std.specs.Prelude.{cond, List, [], ◌∷◌, ◌++◌, ℕ, zero, suc, ◌+◌, ◌-◌, ltb, length, drop}
use Rattle.ground.specs.Judging.{first, outside}
use Rattle.ground.specs.Protocol.{unless}
use Rattle.ground.specs.Words.{begins}
use Rattle.link.specs.Limits.{max_period, max_delay, max_rows, bad_period, bad_size, bad_delay, bad_rows, bad_offset}
use Rattle.link.specs.declared.Link.{Link}
use Rattle.checker.specs.Judging.{clear_faults}
use Rattle.planfile.specs.Causes.{wrong_tag, cut_off, left_over}
use Rattle.planfile.specs.Number.{Number, Value, Cut, TooLong, Needless, read_number, form_fault}
use Rattle.planfile.specs.Format.{tag}

-- a thing that was read and the place after it, or a refusal
pub data Step (A : Type 0) : Type 0 where
  got : A → ℕ → Step A
  stopped : ℕ → ℕ → Step A

-- the place after what was read at a place; a refused thing is not passed over
abbrev pub after : {A : Type 0} → ℕ → Step A → ℕ
after at (got a next) = next
after at (stopped n p) = at

-- a refusal is passed on at once
abbrev pub passing : {A B : Type 0} → Step A → (A → ℕ → Step B) → Step B
passing (got a next) f = f a next
passing (stopped n p) f = stopped n p

-- "Each number is judged as it is read": its form, "then its range .. the first byte of the number": the number at a place, from lo to hi
abbrev pub ranged : Number → ℕ → ℕ → ℕ → ℕ → Step ℕ
ranged (Value v n) at lo hi fault = cond (outside lo hi v) (stopped fault at) (got v (at + n))
ranged Cut at lo hi fault = stopped (form_fault Cut) at
ranged TooLong at lo hi fault = stopped (form_fault TooLong) at
ranged Needless at lo hi fault = stopped (form_fault Needless) at

unfoldable pub number : List ℕ → ℕ → ℕ → ℕ → ℕ → Step ℕ
number bs at lo hi fault = ranged (read_number (drop at bs)) at lo hi fault

pub record Head : Type 0 where
  pub link : Link
  pub rows : ℕ

-- "the numbers period, size, n", each in its range: 5, 6, 8
unfoldable pub header : List ℕ → ℕ → Step Head
header bs at =
    passing (number bs at 1 max_period bad_period) (λ p at₁.
    passing (number bs at₁ 1 p bad_size) (λ t at₂.
    passing (number bs at₂ 1 max_rows bad_rows) (λ n at₃.
    got (record { link = record { period = p; size = t }; rows = n }) at₃)))

-- a file that does not begin with the tag: "A short file whose bytes so far agree with the tag counts as cut"
unfoldable pub tag_fault : List ℕ → ℕ
tag_fault bs = cond (begins bs tag) cut_off wrong_tag

-- "50 4D 41 01": the tag, then the header at a place
abbrev pub tagged : List ℕ → ℕ → Step Head
tagged bs at = cond (begins tag bs) (header bs at) (stopped (tag_fault bs) 0)

pub record Row : Type 0 where
  pub delay : ℕ
  pub offset : ℕ

-- "for each row delay and offset": 7, 17
unfoldable pub row : List ℕ → ℕ → ℕ → Step Row
row bs p at =
    passing (number bs at 0 max_delay bad_delay) (λ d at₁.
    passing (number bs at₁ 0 (p - 1) bad_offset) (λ o at₂.
    got (record { delay = d; offset = o }) at₂))

pub record Rows : Type 0 where
  pub delays : List ℕ
  pub offsets : List ℕ

-- n rows more, after the rows ds and os
unfoldable pub rows : List ℕ → ℕ → ℕ → List ℕ → List ℕ → ℕ → Step Rows
rows bs p zero ds os at = got (record { delays = ds; offsets = os }) at
rows bs p (suc n) ds os at =
    passing (row bs p at) (λ r next. rows bs p n (ds ++ (r.delay ∷ [])) (os ++ (r.offset ∷ [])) next)

-- what a file means: a plan, or a refusal
pub data Meaning : Type 0 where
  plan : Link → List ℕ → List ℕ → Meaning
  refused : ℕ → ℕ → Meaning

abbrev pub means : {A : Type 0} → Step A → (A → ℕ → Meaning) → Meaning
means (got a next) f = f a next
means (stopped n p) f = refused n p

-- "After the last number: .. bytes left over, then 18"
unfoldable pub closing : List ℕ → Link → List ℕ → List ℕ → ℕ → Meaning
closing bs k ds os at = cond (ltb at (length bs)) (refused left_over at) (unless refused (first (clear_faults k ds os)) (plan k ds os))

-- after the header h: the rows from a place on, then the closing
abbrev pub rest : List ℕ → Head → ℕ → Meaning
rest bs h at =
    means (rows bs h.link.period h.rows [] [] at) (λ r end.
    closing bs h.link r.delays r.offsets end)

unfoldable pub body : List ℕ → ℕ → Meaning
body bs at = means (header bs at) (λ h next. rest bs h next)

unfoldable pub meaning : List ℕ → Meaning
meaning bs = cond (begins tag bs) (body bs (length tag)) (refused (tag_fault bs) 0)
