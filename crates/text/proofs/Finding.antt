-- Where a byte comes first in a list that is put together, and lists that are compared. Assumes nothing.
use mathlib.Core.Path.{◌≡◌, refl, sym, ap, ◌∙◌}
use mathlib.Core.Bool.{Bool, true, false, not}
use mathlib.Core.List.{List, [], ◌∷◌, ◌++◌}
use Prim.Native.Nat.{ℕ, zero, suc, ◌≤◌, ◌<◌}
use native.Mathlib.Omega.{arith}
use lib.Dec.{eqb}
use lib.ListN.{length, get_or, length-append, get_or-append}
use lib.Seq.{get_or-append_seam, ext_get_or}
use borrow.Author.Tests.{ne_eqb, eq-eqb, eqb-true, not-true, not-false}
use Rattle.std.specs.Prelude.{Some, None}
use Rattle.std.specs.List.{position, position_or_len}
use Rattle.std.proofs.lemmas.Grind.{common_steps}
use Rattle.std.proofs.lemmas.List.Quantifiers.{position-Some}
use Rattle.std.proofs.lemmas.List.Sums.{fails_before_first}
use Rattle.std.proofs.lemmas.Slice.Eq.{bytes_eq-Decides}
use Rattle.std.specs.Str.{bytes_eq}
use Rattle.ground.specs.Least.{some}
use Rattle.ground.proofs.Bools.{and_parts, and_both, clash, is_false}
use Rattle.ground.proofs.Minimum.{least_is, least_at, some_none, none_has}
use Rattle.text.specs.Bytes.{seek, same}

-- no byte of l is b
abbrev pub Without : ℕ → List ℕ → Type 0
Without b [] = Unit
Without b (c ∷ l) = (c ≡ b → ⊥) × Without b l

pub without_append : (b : ℕ) (l m : List ℕ) → Without b l → Without b m → Without b (l ++ m)
without_append b [] m f g = g
without_append b (c ∷ l) m f g = (f.0, without_append b l m f.1 g)

pub without_each : (b : ℕ) (l : List ℕ) → ((i : ℕ) → i < length l → get_or l i 0 ≡ b → ⊥) → Without b l
without_each b [] h = tt
without_each b (c ∷ l) h = (h 0 (omega arith), without_each b l (λ i m. h (suc i) (omega arith)))

without_at : (b : ℕ) (l : List ℕ) → Without b l → (i : ℕ) → i < length l → get_or l i 0 ≡ b → ⊥
without_at b [] f i h = absurd (omega arith)
without_at b (c ∷ l) f zero h = f.0
without_at b (c ∷ l) f (suc i) h = without_at b l f.1 i (omega arith)

pub seek_first : (b : ℕ) (l r : List ℕ) → Without b l → seek b (l ++ b ∷ r) ≡ length l
unfolding seek
seek_first b l r f =
    least_at _ _ (length l) (omega (arith, length-append l (b ∷ r)))
    (λ i h. ne_eqb _ _ (λ e. without_at b l f i h (sym (get_or-append l (b ∷ r) 0 i h) ∙ e)))
    (λ h. eq-eqb _ _ (get_or-append_seam l b r 0))

pub found : (b : ℕ) (l : List ℕ) → seek b l < length l → get_or l (seek b l) 0 ≡ b
unfolding seek
found b l h = eqb-true _ _ ((least_is (λ i. eqb (get_or l i 0) b) (length l)).here h)

-- as the code finds it, by an iterator's `position`
pub seek_some : (b : ℕ) (xs : List ℕ) (k : ℕ) → position (λ x. eqb x b) xs ≡ Some k → (seek b xs ≡ k) × (k < length xs)
unfolding seek
seek_some b xs k e =
    let f = position-Some (λ x. eqb x b) xs k 0 e in
    (least_at (λ i. eqb (get_or xs i 0) b) (length xs) k (omega (arith, f.0)) f.2 (λ _. f.1), f.0)

pub seek_none : (b : ℕ) (xs : List ℕ) → position (λ x. eqb x b) xs ≡ None → length xs ≤ seek b xs
unfolding seek
seek_none b xs e =
    let none : length xs ≤ position_or_len (λ x. eqb x b) xs = grind (arith, common_steps) in
    omega (
      arith,
      least_at (λ i. eqb (get_or xs i 0) b) (length xs) (length xs) (omega arith)
          (λ k l. fails_before_first (λ x. eqb x b) xs k 0 (omega arith)) (λ l. absurd (omega arith)),
    )

-- `same` says that two lists are equal
pub same_equal : (xs ys : List ℕ) → same xs ys ≡ true → xs ≡ ys
unfolding same
same_equal xs ys e =
    let w = and_parts (eqb (length xs) (length ys)) (not (some (λ i. not (eqb (get_or xs i 0) (get_or ys i 0))) (length xs))) e in
    ext_get_or 0 xs ys (eqb-true _ _ w.0) (λ i l. eqb-true _ _ (not-false _ (none_has _ _ (not-true _ w.1) i l)))

pub same_self : (xs : List ℕ) → same xs xs ≡ true
unfolding same
same_self xs =
    and_both _ _ (eq-eqb (length xs) (length xs) refl)
    (ap not (some_none (λ i. not (eqb (get_or xs i 0) (get_or xs i 0))) (length xs)
    (λ i l. ap not (eq-eqb (get_or xs i 0) (get_or xs i 0) refl))))

-- the library's test of two lists
pub same_bytes : (xs ys : List ℕ) → bytes_eq xs ys ≡ same ys xs
same_bytes xs ys = go (bytes_eq xs ys) refl
  where
    go : (b : Bool) → bytes_eq xs ys ≡ b → b ≡ same ys xs
    go true e = let f : xs ≡ ys = (bytes_eq-Decides xs ys).0 e in rw f (sym (same_self ys))
    go false e = sym (is_false _ (λ t. clash ((bytes_eq-Decides xs ys).1 (sym (same_equal ys xs t))) e))
