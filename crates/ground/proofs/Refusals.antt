-- A refusal is told by its number, and a fault by its number and its place: no second one has the same. For each `no_second` above.
use mathlib.Core.Path.{◌≡◌, refl, ap}
use mathlib.Core.Bool.{cond}
use Prim.Native.Nat.{ℕ}
use lib.Dec.{eqb}
use Rattle.ground.specs.Refusals.{number_of}
use Rattle.ground.specs.declared.Fault.{Fault}
use Rattle.ground.specs.declared.Refusal.{Refusal}
use Rattle.ground.specs.declared.Refusal.TheVariants.{LongText, BadLineOne, CutLine, BadLine, BadPeriod, BadSize, BadDelay, BadRows}
use Rattle.ground.specs.declared.Refusal.TheVariants.{BadCount}
use Rattle.ground.specs.declared.Refusal.TheVariants.{BytesAfter, BadLength, TooManyRows, NoOffset, NoBuild, BudgetSpent, WrongTag}
use Rattle.ground.specs.declared.Refusal.TheVariants.{BadOffset}
use Rattle.ground.specs.declared.Refusal.TheVariants.{NotClear, CutFile, LongNumber, NeedlessGroup, LeftOver, LongInput, TooManyTexts}
use Rattle.ground.specs.declared.Refusal.TheVariants.{NotOneSlot}

abbrev up_to_9 : ℕ → Refusal → Refusal
up_to_9 n more =
    cond (eqb n 1) LongText (cond (eqb n 2) BadLineOne (cond (eqb n 3) CutLine (cond (eqb n 4) BadLine (cond (eqb n 5) BadPeriod
    (cond (eqb n 6) BadSize (cond (eqb n 7) BadDelay (cond (eqb n 8) BadRows (cond (eqb n 9) BadCount more))))))))

abbrev up_to_17 : ℕ → Refusal → Refusal
up_to_17 n more =
    cond (eqb n 10) BytesAfter (cond (eqb n 11) BadLength (cond (eqb n 12) TooManyRows (cond (eqb n 13) NoOffset (cond (eqb n 14) NoBuild
    (cond (eqb n 15) BudgetSpent (cond (eqb n 16) WrongTag (cond (eqb n 17) BadOffset more)))))))

abbrev up_to_25 : ℕ → Refusal
up_to_25 n =
    cond (eqb n 18) NotClear (cond (eqb n 19) CutFile (cond (eqb n 20) LongNumber (cond (eqb n 21) NeedlessGroup (cond (eqb n 22) LeftOver
    (cond (eqb n 23) LongInput (cond (eqb n 24) TooManyTexts NotOneSlot))))))

-- the refusal with a number
abbrev pub refusal_of : ℕ → Refusal
refusal_of n = up_to_9 n (up_to_17 n (up_to_25 n))

pub refusal_again : (r : Refusal) → refusal_of (number_of r) ≡ r
refusal_again LongText = refl
refusal_again BadLineOne = refl
refusal_again CutLine = refl
refusal_again BadLine = refl
refusal_again BadPeriod = refl
refusal_again BadSize = refl
refusal_again BadDelay = refl
refusal_again BadRows = refl
refusal_again BadCount = refl
refusal_again BytesAfter = refl
refusal_again BadLength = refl
refusal_again TooManyRows = refl
refusal_again NoOffset = refl
refusal_again NoBuild = refl
refusal_again BudgetSpent = refl
refusal_again WrongTag = refl
refusal_again BadOffset = refl
refusal_again NotClear = refl
refusal_again CutFile = refl
refusal_again LongNumber = refl
refusal_again NeedlessGroup = refl
refusal_again LeftOver = refl
refusal_again LongInput = refl
refusal_again TooManyTexts = refl
refusal_again NotOneSlot = refl

-- the fault with a number and a place
abbrev pub refused : ℕ → ℕ → Fault
refused n p = record { refusal = refusal_of n; place = p }

pub fault_again : (f : Fault) → refused (number_of f.refusal) f.place ≡ f
fault_again f = ap (λ (r : Refusal). record { refusal = r; place = f.place }) (refusal_again f.refusal)
