-- Lists made by one number after the other, and lists that strictly increase.
use Rattle.std.specs.Prelude.{◌≡◌, Bool, true, ℕ, zero, suc}
use mathlib.Core.List.{List, [], ◌∷◌, ◌++◌, Memᴰ}

-- what f gives for a, a + 1, .., n numbers, in this order
unfoldable pub from : {A : Type 0} → (ℕ → List A) → ℕ → ℕ → List A
from f a zero = []
from f a (suc n) = f a ++ from f (suc a) n

-- f 0, f 1, .., f (n-1)
abbrev pub listed : {A : Type 0} → (ℕ → A) → ℕ → List A
listed f n = from (λ i. f i ∷ []) 0 n

-- x is before each of a list; each element of a list is before all that follow
module _ {A : Type 0} (lt : A → A → Bool) where
  abbrev pub Before : A → List A → Type 0
  Before x ys = (y : A) → Memᴰ y ys → lt x y ≡ true

  abbrev pub Increasing : List A → Type 0
  Increasing [] = Unit {0}
  Increasing (x ∷ xs) = Before x xs × Increasing xs
