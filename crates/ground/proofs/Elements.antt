-- Lists by their elements: the last one, one of a list that is mapped, one behind a front. Assumes nothing.
use mathlib.Core.Path.{◌≡◌, refl, ap, ◌∙◌}
use mathlib.Core.List.{List, [], ◌∷◌, ◌++◌, map}
use Prim.Native.Nat.{ℕ, zero, suc, ◌+◌, ◌≤◌, ◌<◌}
use native.Mathlib.Omega.{arith}
use lib.ListN.{length, get_or}
use lib.Seq.{get_or-append-add}

pub last_one : {A : Type 0} (xs : List A) → 1 ≤ length xs → (ys : List A) × (y : A) × (xs ≡ ys ++ y ∷ [])
last_one [] h = absurd (omega arith)
last_one (x ∷ []) h = ([], x, refl)
last_one {A} (x ∷ y ∷ xs) h = let w = last_one (y ∷ xs) (omega arith) in (x ∷ w.0, w.1, ap {B = List A} (λ l. x ∷ l) w.2)

pub get_or_mapped : {A B : Type 0} (f : A → B) (xs : List A) (a : A) (b : B) (i : ℕ) → i < length xs
    → get_or (map f xs) i b ≡ f (get_or xs i a)
get_or_mapped f [] a b i h = absurd (omega arith)
get_or_mapped f (x ∷ xs) a b zero h = refl
get_or_mapped f (x ∷ xs) a b (suc i) h = get_or_mapped f xs a b i (omega arith)

-- the element i is the element j of what stands behind the front
pub get_or_behind : {A : Type 0} (front back : List A) (i j : ℕ) (d : A) → i ≡ length front + j
    → get_or (front ++ back) i d ≡ get_or back j d
get_or_behind front back i j d e = ap (λ (n : ℕ). get_or (front ++ back) n d) e ∙ get_or-append-add front back j d
