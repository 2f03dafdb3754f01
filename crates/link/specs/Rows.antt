-- Rows of a table ds at the offsets os: where they start, and which earlier row a row meets.
use Rattle.std.specs.Prelude.{Bool, true, false, not, cond, ◌||◌, List, map, ℕ, ◌+◌, ◌%◌, ◌<◌, length, get_or}
use Rattle.ground.specs.Least.{least, some}
use Rattle.link.specs.Slots.{after, meets, apartb, Meet}
use Rattle.link.specs.declared.Link.{Link}

-- the least distance of two starts
abbrev pub span_of : Link → ℕ
span_of k = k.size

pub data Crossing : Type 0 where
  one two : Crossing

abbrev pub numbered : Crossing → ℕ
numbered one = 1
numbered two = 2

-- "Its start in the second crossing is (A + delay) modulo P"
unfoldable pub second : ℕ → ℕ → ℕ → ℕ
second p d a = (a + d) % p

-- where a row of delay d at the offset a starts
abbrev pub start_at : ℕ → Crossing → ℕ → ℕ → ℕ
start_at p one d a = a
start_at p two d a = second p d a

-- where row i starts
unfoldable pub start : ℕ → List ℕ → List ℕ → Crossing → ℕ → ℕ
start p ds os c i = start_at p c (get_or ds i 0) (get_or os i 0)

-- the circle turned: all offsets moved on by r slots, modulo P
abbrev pub moved_on : ℕ → ℕ → List ℕ → List ℕ
moved_on p r os = map (after p r) os

-- no two rows meet in the crossing c
pub record ClearIn (p l : ℕ) (ds os : List ℕ) (c : Crossing) : Type 0 where
  pub apart : (i j : ℕ) → i < j → j < length ds → Meet p l (start p ds os c i) (start p ds os c j) → ⊥

-- "A plan is clear when, for every two rows, they meet in neither crossing."
pub record Clear (p l : ℕ) (ds os : List ℕ) : Type 0 where
  pub in_one : ClearIn p l ds os one
  pub in_two : ClearIn p l ds os two

-- row i meets a row of delay d at the offset a, in the crossing c
unfoldable pub hits : ℕ → ℕ → List ℕ → List ℕ → ℕ → ℕ → Crossing → ℕ → Bool
hits p l ds os d a c i = meets p l (start p ds os c i) (start_at p c d a)

-- one of two tests holds of i
unfoldable pub either : (Crossing → ℕ → Bool) → ℕ → Bool
either h i = h one i || h two i

-- "An offset is free for a row when it meets no earlier row in either crossing." The row has the delay d, and n rows are earlier.
unfoldable pub free : ℕ → ℕ → List ℕ → List ℕ → ℕ → ℕ → ℕ → Bool
free p l ds os n d a = not (some (either (hits p l ds os d a)) n)

-- row j of a plan meets an earlier row
unfoldable pub blocked : ℕ → ℕ → List ℕ → List ℕ → ℕ → Bool
blocked p l ds os j = not (free p l ds os j (get_or ds j 0) (get_or os j 0))

-- whom a row meets: nobody, or a row, and the crossing by its number
pub data Met : Type 0 where
  Nobody : Met
  Row : ℕ → ℕ → Met

-- the least row below n that is hit, and the crossing, 1 where both
unfoldable pub first_hit : (Crossing → ℕ → Bool) → ℕ → Met
first_hit h n = cond (some (either h) n) (Row (least (either h) n) (cond (h one (least (either h) n)) (numbered one) (numbered two))) Nobody

-- a row of delay d at the offset a: the least of the n earlier rows that it meets, and the crossing
unfoldable pub met_at : ℕ → ℕ → List ℕ → List ℕ → ℕ → ℕ → ℕ → Met
met_at p l ds os n d a = first_hit (hits p l ds os d a) n

abbrev pub is_nobody : Met → Bool
is_nobody Nobody = true
is_nobody (Row i c) = false

-- The same over lists of starts, xs in crossing 1 and ys in crossing 2, by the test with no remainder: row i is nearer to (a, b) than l.
unfoldable pub near : ℕ → ℕ → List ℕ → List ℕ → ℕ → ℕ → Crossing → ℕ → Bool
near p l xs ys a b one i = not (apartb p l (get_or xs i 0) a)
near p l xs ys a b two i = not (apartb p l (get_or ys i 0) b)

unfoldable pub first_near : ℕ → ℕ → List ℕ → List ℕ → ℕ → ℕ → Met
first_near p l xs ys a b = first_hit (near p l xs ys a b) (length xs)
