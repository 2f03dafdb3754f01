-- The order of steps: of two steps one is earlier, or they are the same, whatever follows. Assumes nothing.
use mathlib.Core.Path.{◌≡◌, refl, sym, ◌∙◌}
use mathlib.Core.Logic.{⊎_elim}
use mathlib.Core.Bool.{Bool, true, false}
use mathlib.Core.List.{List, [], ◌∷◌}
use Prim.Native.Nat.{ℕ, ◌<◌}
use native.Mathlib.Omega.{arith}
use borrow.Author.Tests.{lt-ltb, le-ltb, eq-eqb, ne_eqb}
use Rattle.link.specs.Rows.{Crossing, one, two}
use Rattle.ground.proofs.Bools.{clash, lt_or_ge}
use Rattle.search.specs.Steps.{Step}
use Rattle.search.specs.Builds.{order, order_steps, earlier_step, earlier}

-- how two things stand to each other: the one first, on a level, the other first
data Way (f g : Bool → Bool) : Type 0 where
  ahead : ((t : Bool) → f t ≡ true) → ((t : Bool) → g t ≡ false) → Way f g
  level : ((t : Bool) → f t ≡ t) → ((t : Bool) → g t ≡ t) → Way f g
  behind : ((t : Bool) → f t ≡ false) → ((t : Bool) → g t ≡ true) → Way f g

way_then : (f g h k : Bool → Bool) → Way f g → Way h k → Way (λ t. f (h t)) (λ t. g (k t))
way_then f g h k (ahead a b) w = ahead (λ t. a (h t)) (λ t. b (k t))
way_then f g h k (behind a b) w = behind (λ t. a (h t)) (λ t. b (k t))
way_then f g h k (level a b) (ahead c d) = ahead (λ t. a (h t) ∙ c t) (λ t. b (k t) ∙ d t)
way_then f g h k (level a b) (level c d) = level (λ t. a (h t) ∙ c t) (λ t. b (k t) ∙ d t)
way_then f g h k (level a b) (behind c d) = behind (λ t. a (h t) ∙ c t) (λ t. b (k t) ∙ d t)

first : (a b : ℕ) → a < b → (t : Bool) → order a b t ≡ true
unfolding order
first a b h t = rw (lt-ltb a b h)

same : (a b : ℕ) → a ≡ b → (t : Bool) → order a b t ≡ t
unfolding order
same a b h t = rw (le-ltb a b (omega arith), eq-eqb a b h)

last : (a b : ℕ) → b < a → (t : Bool) → order a b t ≡ false
unfolding order
last a b h t = rw (le-ltb a b (omega arith), ne_eqb a b (omega arith))

way_numbers : (a b : ℕ) → Way (order a b) (order b a)
way_numbers a b =
    ⊎_elim (λ l. ahead (first a b l) (last b a l))
    (λ g. ⊎_elim (λ l. behind (last a b l) (first b a l)) (λ e. level (same a b (omega arith)) (same b a (omega arith))) (lt_or_ge b a))
    (lt_or_ge a b)

way : (k m : Step) → Way (order_steps k m) (order_steps m k)
unfolding order_steps
way k m = way_then _ _ _ _ (way_numbers _ _) (way_then _ _ _ _ (way_numbers _ _) (way_numbers _ _))

-- a step that is earlier decides, whatever follows
pub decides : (k m : Step) → earlier_step k m ≡ true → (t : Bool) → order_steps k m t ≡ true
decides k m e t = go (way k m)
  where
    go : Way (order_steps k m) (order_steps m k) → order_steps k m t ≡ true
    go (ahead a b) = a t
    go (level a b) = clash e (a false)
    go (behind a b) = clash e (a false)

pub itself : (k : Step) (t : Bool) → order_steps k k t ≡ t
itself k t = go (way k k)
  where
    go : Way (order_steps k k) (order_steps k k) → order_steps k k t ≡ t
    go (ahead a b) = clash (a t) (b t)
    go (level a b) = a t
    go (behind a b) = clash (b t) (a t)

-- no sequence is earlier than itself, and of two at most one is earlier
pub not_itself : (q : List Step) → earlier q q ≡ false
not_itself [] = refl
not_itself (k ∷ q) = itself k (earlier q q) ∙ not_itself q

pub one_way : (x y : List Step) → earlier x y ≡ true → earlier y x ≡ false
one_way [] [] e = refl
one_way [] (m ∷ y) e = refl
one_way (k ∷ x) [] e = clash e refl
one_way (k ∷ x) (m ∷ y) e = go (way k m) (one_way x y)
  where
    go : Way (order_steps k m) (order_steps m k) → (earlier x y ≡ true → earlier y x ≡ false) → order_steps m k (earlier y x) ≡ false
    go (ahead a b) h = b (earlier y x)
    go (level a b) h = b (earlier y x) ∙ h (sym (a (earlier x y)) ∙ e)
    go (behind a b) h = clash e (a (earlier x y))

-- by row, then by the other row, then by crossing
pub row_first : (k m : Step) → k.row < m.row → earlier_step k m ≡ true
unfolding order_steps
row_first k m h = first k.row m.row h _

pub beside_first : (j i l : ℕ) (c d : Crossing) → i < l
    → earlier_step (record { row = j; beside = i; crossing = c }) (record { row = j; beside = l; crossing = d }) ≡ true
unfolding order_steps
beside_first j i l c d h = same j j refl _ ∙ first i l h _

pub crossing_first : (j i : ℕ) → earlier_step (record { row = j; beside = i; crossing = one })
    (record { row = j; beside = i; crossing = two }) ≡ true
unfolding order_steps
crossing_first j i = same j j refl _ ∙ same i i refl _ ∙ first 1 2 (omega arith) _
