-- Runs of a test q on a circle of p slots, where slot p-1 is followed by slot 0. What q is, is said elsewhere.
use Rattle.std.specs.Prelude.{◌≡◌, Bool, true, false, not, cond, ◌&&◌, List, [], ◌∷◌, ℕ, zero, suc, ◌+◌, ◌-◌, ◌%◌, ◌<◌, max}
use Rattle.ground.specs.Least.{least}
use Rattle.link.specs.Slots.{Uses}

-- q at the slot that is x slots on from slot 0, however often that goes round
abbrev pub around : (ℕ → Bool) → ℕ → ℕ → Bool
around q p x = q (x % p)

-- a run begins at a: a has q, and the slot before it, which is p-1 slots on, has not
unfoldable pub run_begins : (ℕ → Bool) → ℕ → ℕ → Bool
run_begins q p a = around q p a && not (around q p (a + (p - 1)))

-- to compare, a run of document 01, "from slot 0 to slot P-1, not joined across the end": one begins at slot 0 whatever comes before it
abbrev pub run_begins_on_line : (ℕ → Bool) → ℕ → Bool
run_begins_on_line q zero = q zero
run_begins_on_line q (suc a) = q (suc a) && not (q a)

-- how many slots from a on have q before one has not; p where all have
unfoldable pub width : (ℕ → Bool) → ℕ → ℕ → ℕ
width q p a = least (λ k. not (around q p (a + k))) p

-- the l slots from a on have q
abbrev pub AllFrom : (ℕ → Bool) → ℕ → ℕ → ℕ → Type 0
AllFrom q p l a = (k : ℕ) → k < l → around q p (a + k) ≡ true

pub record Run : Type 0 where
  pub first : ℕ
  pub wide : ℕ

-- s is one of the run's slots: they go round as those of a message do
abbrev pub Within : ℕ → ℕ → Run → Type 0
Within p s r = Uses p r.wide r.first s

-- "a longest run" of slots that have q: neither the slot before it nor the slot after it has q.
-- "a run at the end and a run at the start are one stretch": the slots are counted on round the circle.
pub record Longest (q : ℕ → Bool) (p : ℕ) (r : Run) : Type 0 where
  pub some : 0 < r.wide
  pub inside : r.first < p
  pub each : AllFrom q p r.wide r.first
  pub before : around q p (r.first + (p - 1)) ≡ false
  pub after : around q p (r.first + r.wide) ≡ false

-- the runs, one for each slot below m where a run begins, the last one first
unfoldable pub runs_below : (ℕ → Bool) → ℕ → ℕ → List Run
runs_below q p zero = []
runs_below q p (suc m) = cond (run_begins q p m) (record { first = m; wide = width q p m } ∷ runs_below q p m) (runs_below q p m)

abbrev pub runs : (ℕ → Bool) → ℕ → List Run
runs q p = runs_below q p p

-- "the length of the widest (0 if none)"
unfoldable pub widest_of : List Run → ℕ
widest_of [] = 0
widest_of (r ∷ rs) = max r.wide (widest_of rs)

-- "the lengths of the stretches summed"
unfoldable pub total_of : List Run → ℕ
total_of [] = 0
total_of (r ∷ rs) = r.wide + total_of rs
