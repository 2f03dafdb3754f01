-- What the inner function for one text answers. The contract does not rest on it.
use Rattle.std.specs.Prelude.{List, ℕ, ◌+◌, Result, Ok, Err}
use Rattle.ground.specs.Protocol.{Outcome, gives, keeping, unless}
use Rattle.ground.specs.Refusals.{number_of}
use Rattle.ground.specs.declared.Fault.{Fault}
use Rattle.text.specs.Faults.{end_of}
use Rattle.joined.specs.Texts.{text_from, fault_from}
use Rattle.joined.specs.Answer.{Lists, in_front}

-- where the next text begins, or this one's fault, by its number and its place
pub data Step : Type 0 where
  Next : ℕ → Step
  Wrong : ℕ → ℕ → Step

abbrev pub step_said : Result ℕ Fault → Step
step_said (Ok at) = Next at
step_said (Err f) = Wrong (number_of f.refusal) f.place

-- one text, which begins at the byte `at`: its first fault; or where the next one begins, and its answer in front of the lists
unfoldable pub step_gives : List ℕ → ℕ → ℕ → Lists → Outcome Step Lists
step_gives x at budget l =
    unless (keeping Wrong l) (fault_from x at) (gives (Next (at + end_of (text_from x at))) (in_front (text_from x at) budget l))
