-- What `read_table` answers of a text x, and what it leaves in the lent list.
use Rattle.std.specs.Prelude.{List, [], ◌∷◌, ◌++◌, ℕ, zero, suc, length, Result, Ok, Err}
use Rattle.ground.specs.Judging.{first}
use Rattle.ground.specs.Lent.{on_front}
use Rattle.ground.specs.Protocol.{Outcome, gives, keeping, unless}
use Rattle.ground.specs.Refusals.{number_of}
use Rattle.ground.specs.declared.Fault.{Fault}
use Rattle.link.specs.Range.{no_link}
use Rattle.link.specs.declared.Link.{Link}
use Rattle.text.specs.Decimal.{value}
use Rattle.text.specs.Lines.{line}
use Rattle.text.specs.Faults.{link_of, rows_of, read_faults}
use Rattle.text.specs.declared.Table.{Table}

-- a table, or a refusal
pub data Verdict : Type 0 where
  table refusal : Verdict

-- the paper's form of an answer
pub record Said : Type 0 where
  pub verdict : Verdict
  pub number : ℕ
  pub place : ℕ
  pub link : Link
  pub rows : ℕ

-- "Fields of an answer that don't apply are 0"
abbrev pub tabling : Link → ℕ → Said
tabling k n = record { verdict = table; number = 0; place = 0; link = k; rows = n }

abbrev pub refusing : ℕ → ℕ → Said
refusing n p = record { verdict = refusal; number = n; place = p; link = no_link; rows = 0 }

unfoldable pub said : Result Table Fault → Said
said (Ok t) = tabling t.link t.rows
said (Err f) = refusing (number_of f.refusal) f.place

-- the link of line two
abbrev pub table_link : List ℕ → Link
table_link x = link_of (line x 1)

-- the delays of the first n rows: "Then one delay a line."
unfoldable pub delays_of : List ℕ → ℕ → List ℕ
delays_of x zero = []
delays_of x (suc i) = delays_of x i ++ (value (line x (suc (suc i))) ∷ [])

-- a table has its delays in front of the list
unfoldable pub accepted : List ℕ → List ℕ → Outcome Said (List ℕ)
accepted x old = gives (tabling (table_link x) (rows_of x)) (on_front (delays_of x (rows_of x)) old)

-- the first fault, or the table where there is none
unfoldable pub reading : List ℕ → List ℕ → Outcome Said (List ℕ)
reading x old = unless (keeping refusing old) (first (read_faults x (length old))) (accepted x old)
