-- What an answer to the text x means, with the list `new` where `old` was lent: said without lines and their faults.
use Rattle.std.specs.Prelude.{◌≡◌, List, ℕ, ◌≤◌, length, take, Result, Ok, Err}
use Rattle.ground.specs.Lent.{on_front}
use Rattle.ground.specs.Refusals.{number_of}
use Rattle.ground.specs.declared.Fault.{Fault}
use Rattle.link.specs.Range.{GoodTable}
use Rattle.link.specs.declared.Link.{Link}
use Rattle.text.specs.Writing.{text_of}
use Rattle.text.specs.declared.Table.{Table}

-- a good table of n rows on the link k stands in front of the list, and x is its text
pub record TableOf (x old : List ℕ) (k : Link) (n : ℕ) (new : List ℕ) : Type 0 where
  pub room : n ≤ length old
  pub as_many : length (take n new) ≡ n
  pub good : GoodTable k (take n new)
  pub text : x ≡ text_of k (take n new)
  pub written : new ≡ on_front (take n new) old

-- a number that a text can get, at a byte of the text or at its end, and the list is kept
pub record RefusalOf (x old : List ℕ) (n p : ℕ) (new : List ℕ) : Type 0 where
  pub low : 1 ≤ n
  pub high : n ≤ 11
  pub there : p ≤ length x
  pub kept : new ≡ old

abbrev pub Means : List ℕ → List ℕ → Result Table Fault → List ℕ → Type 0
Means x old (Ok t) new = TableOf x old t.link t.rows new
Means x old (Err f) new = RefusalOf x old (number_of f.refusal) f.place new
