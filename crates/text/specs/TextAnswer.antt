-- What `read_text` answers of a text x that may have bytes behind it, and what it leaves in the lent list: the table and where the text
-- ends, or the first fault of its lines.
use Rattle.std.specs.Prelude.{List, ℕ, Result, Ok, Err}
use Rattle.ground.specs.Judging.{first}
use Rattle.ground.specs.Lent.{on_front}
use Rattle.ground.specs.Protocol.{Outcome, gives, keeping, unless}
use Rattle.ground.specs.Refusals.{number_of}
use Rattle.ground.specs.declared.Fault.{Fault}
use Rattle.link.specs.Range.{no_link}
use Rattle.link.specs.declared.Link.{Link}
use Rattle.text.specs.Faults.{rows_of, end_of, text_faults}
use Rattle.text.specs.Answer.{table_link, delays_of}
use Rattle.text.specs.declared.Text.{Text}

-- a whole text, or a refusal
pub data TextVerdict : Type 0 where
  whole refusal : TextVerdict

-- the paper's form of an answer
pub record TextSaid : Type 0 where
  pub verdict : TextVerdict
  pub number : ℕ
  pub place : ℕ
  pub link : Link
  pub rows : ℕ
  pub end : ℕ

-- "Fields of an answer that don't apply are 0"
abbrev pub whole_text : Link → ℕ → ℕ → TextSaid
whole_text k rows end = record { verdict = whole; number = 0; place = 0; link = k; rows = rows; end = end }

abbrev pub refusing_text : ℕ → ℕ → TextSaid
refusing_text n p = record { verdict = refusal; number = n; place = p; link = no_link; rows = 0; end = 0 }

unfoldable pub text_said : Result Text Fault → TextSaid
text_said (Ok t) = whole_text t.link t.rows t.end
text_said (Err f) = refusing_text (number_of f.refusal) f.place

-- the table of its lines, with the delays in front of the list
unfoldable pub wholly : List ℕ → List ℕ → Outcome TextSaid (List ℕ)
wholly x old = gives (whole_text (table_link x) (rows_of x) (end_of x)) (on_front (delays_of x (rows_of x)) old)

-- the first fault of its lines, or the whole text where there is none
unfoldable pub reading_text : List ℕ → List ℕ → Outcome TextSaid (List ℕ)
reading_text x old = unless (keeping refusing_text old) (first (text_faults x)) (wholly x old)
