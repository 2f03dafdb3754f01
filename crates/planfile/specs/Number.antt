-- The number of the plan file: its bytes, and what bytes say of a number.
use Rattle.std.specs.Prelude.{Bool, true, false, cond, List, [], ◌∷◌, ℕ, zero, suc, ◌+◌, ◌-◌, ◌*◌, ◌/◌, ◌%◌, ltb, eqb, Result, Ok, Err}
use Rattle.ground.specs.declared.Refusal.{Refusal}
use Rattle.ground.specs.declared.Refusal.TheVariants.{CutFile, LongNumber, NeedlessGroup}
use Rattle.planfile.specs.Causes.{cut_off, overlong, needless_group}
use Rattle.planfile.specs.declared.Number.{Number as Counted}
use Rattle.planfile.specs.declared.Malformed.{Malformed}
use Rattle.planfile.specs.declared.Malformed.TheVariants.{Cut as IsCut, TooLong as IsTooLong, Needless as IsNeedless}

-- what bytes say of a number: its value and how many bytes it takes, or what is wrong with its form
pub data Number : Type 0 where
  Value : ℕ → ℕ → Number
  Cut TooLong Needless : Number

-- the same as the code says it
abbrev pub formed : Malformed → Number
formed IsCut = Cut
formed IsTooLong = TooLong
formed IsNeedless = Needless

unfoldable pub number_said : Result Counted Malformed → Number
number_said (Ok n) = Value n.value n.length
number_said (Err m) = formed m

-- "groups of seven bits"
abbrev pub group : ℕ
group = 128

-- "No number has more than four bytes": this many may follow the first
abbrev pub more_groups : ℕ
more_groups = 3

-- what more groups after the first can hold: each number below this
unfoldable pub limit : ℕ → ℕ
limit zero = group
limit (suc more) = group * limit more

-- "lowest group first; the top bit is set in each byte but the last"
unfoldable pub groups : ℕ → ℕ → List ℕ
groups zero x = x ∷ []
groups (suc more) x = cond (ltb x group) (x ∷ []) ((group + x % group) ∷ groups more (x / group))

-- the bytes of a number
unfoldable pub number_bytes : ℕ → List ℕ
number_bytes x = groups more_groups x

-- a byte whose top bit is clear is the last: "zero only in the one-byte form of 0"
unfoldable pub ending : Bool → ℕ → Number
ending first b = cond (eqb b 0) (cond first (Value 0 1) Needless) (Value b 1)

-- a byte whose top bit is set, before the groups that say q
unfoldable pub onto : ℕ → Number → Number
onto b (Value v n) = Value (b % group + group * v) (suc n)
onto b Cut = Cut
onto b TooLong = TooLong
onto b Needless = Needless

-- what the bytes say where so many more may follow the next one, which may be the number's first
unfoldable pub groups_read : ℕ → Bool → List ℕ → Number
groups_read more first [] = Cut
groups_read more first (b ∷ bs) =
    cond (ltb b group) (ending first b) (cond (eqb more 0) TooLong (onto b (groups_read (more - 1) false bs)))

-- what the bytes from here on say of a number: its value and how many bytes it takes, or what is wrong
unfoldable pub read_number : List ℕ → Number
read_number bs = groups_read more_groups true bs

-- the refusal number of what is wrong, 0 where nothing is
unfoldable pub form_fault : Number → ℕ
form_fault (Value v n) = 0
form_fault Cut = cut_off
form_fault TooLong = overlong
form_fault Needless = needless_group

-- the refusal of what is wrong
abbrev pub refusal_of : Malformed → Refusal
refusal_of IsCut = CutFile
refusal_of IsTooLong = LongNumber
refusal_of IsNeedless = NeedlessGroup
