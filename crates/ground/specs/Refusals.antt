-- The refusals by their numbers, and what the judging of a call says as one of them.
use Rattle.std.specs.Prelude.{ℕ, Result, Ok, Err}
use Rattle.ground.specs.declared.Refusal.{Refusal}
use Rattle.ground.specs.declared.Refusal.TheVariants.{LongText, BadLineOne, CutLine, BadLine, BadPeriod, BadSize, BadDelay, BadRows}
use Rattle.ground.specs.declared.Refusal.TheVariants.{BadCount}
use Rattle.ground.specs.declared.Refusal.TheVariants.{BytesAfter, BadLength, TooManyRows, NoOffset, NoBuild, BudgetSpent, WrongTag}
use Rattle.ground.specs.declared.Refusal.TheVariants.{BadOffset}
use Rattle.ground.specs.declared.Refusal.TheVariants.{NotClear, CutFile, LongNumber, NeedlessGroup, LeftOver, LongInput, TooManyTexts}
use Rattle.ground.specs.declared.Refusal.TheVariants.{NotOneSlot}
use Rattle.ground.specs.declared.Fault.{Fault as Refused}
use Rattle.ground.specs.Judging.{Judged, Fine, Fault}

-- "Refusal numbers"
abbrev pub number_of : Refusal → ℕ
number_of LongText = 1
number_of BadLineOne = 2
number_of CutLine = 3
number_of BadLine = 4
number_of BadPeriod = 5
number_of BadSize = 6
number_of BadDelay = 7
number_of BadRows = 8
number_of BadCount = 9
number_of BytesAfter = 10
number_of BadLength = 11
number_of TooManyRows = 12
number_of NoOffset = 13
number_of NoBuild = 14
number_of BudgetSpent = 15
number_of WrongTag = 16
number_of BadOffset = 17
number_of NotClear = 18
number_of CutFile = 19
number_of LongNumber = 20
number_of NeedlessGroup = 21
number_of LeftOver = 22
number_of LongInput = 23
number_of TooManyTexts = 24
number_of NotOneSlot = 25

-- a fault by its number
abbrev pub fault_of : Refused → Judged
fault_of f = Fault (number_of f.refusal) f.place

-- what judging says: nothing is wrong, or the first fault
abbrev pub judged : Result Unit Refused → Judged
judged (Ok u) = Fine
judged (Err f) = fault_of f
