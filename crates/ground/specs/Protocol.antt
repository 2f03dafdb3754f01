-- How every call answers: what is wrong is judged first; the first fault is the answer, and then lent memory is kept; else the call
-- does its work.
use Rattle.std.specs.Prelude.{ℕ}
use Rattle.ground.specs.Judging.{Judged}
use Rattle.ground.specs.Judging.{Fine, Fault}

-- an answer, and what it leaves in lent memory
pub record Outcome (A L : Type 0) : Type 0 where
  pub says : A
  pub leaves : L

abbrev pub gives : {A L : Type 0} → A → L → Outcome A L
gives a l = record { says = a; leaves = l }

-- "Every refusal .. leaves all output buffers with the bytes and numbers they had."
abbrev pub keeping : {A L : Type 0} → (ℕ → ℕ → A) → L → ℕ → ℕ → Outcome A L
keeping refusing old n p = gives (refusing n p) old

-- a fault is the answer, by the refusal of its number and its place; else o is
abbrev pub unless : {O : Type 0} → (ℕ → ℕ → O) → Judged → O → O
unless refusing Fine o = o
unless refusing (Fault n p) o = refusing n p
