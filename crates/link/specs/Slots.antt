-- Slots of the period, and when two messages meet. p is the period, l the least distance of two starts (the base: the size).
use Rattle.std.specs.Prelude.{Bool, ◌&&◌, ◌≡◌, ℕ, ◌+◌, ◌-◌, ◌%◌, ◌<◌, leb, eqb}
use Rattle.ground.specs.Least.{some}

-- "uses .. the T slots A, A+1, .., A+T-1, each modulo P"
unfoldable pub uses : ℕ → ℕ → ℕ → ℕ → Bool
uses p l a s = some (λ k. eqb ((a + k) % p) s) l

-- the slot right after the last of the l slots from a
unfoldable pub after : ℕ → ℕ → ℕ → ℕ
after p l a = (a + l) % p

-- "Two different rows meet in a crossing when they use a common slot there."
unfoldable pub meets : ℕ → ℕ → ℕ → ℕ → Bool
meets p l a b = some (λ s. uses p l a s && uses p l b s) p

-- "unless (a-b) modulo P and (b-a) modulo P are both at least T"
unfoldable pub differ : ℕ → ℕ → ℕ → ℕ → Bool
differ p l a b = leb l ((a + (p - b)) % p) && leb l ((b + (p - a)) % p)

-- the distance of two numbers
abbrev pub gap : ℕ → ℕ → ℕ
gap a b = (a - b) + (b - a)

-- the difference test with no remainder
unfoldable pub apartb : ℕ → ℕ → ℕ → ℕ → Bool
apartb p l a b = leb l (gap a b) && leb (gap a b + l) p

-- The first two as statements: s is one of the l slots from the start a; a and b have a slot in common.
abbrev pub Uses : ℕ → ℕ → ℕ → ℕ → Type 0
Uses p l a s = (k : ℕ) × (k < l) × ((a + k) % p ≡ s)

abbrev pub Meet : ℕ → ℕ → ℕ → ℕ → Type 0
Meet p l a b = (s : ℕ) × Uses p l a s × Uses p l b s
