-- A move serves exactly where three things are clear: the moved row of the rows that stay, the new row of them, and the two of each other.
-- Assumes nothing.
use mathlib.Core.Path.{◌≡◌, ap, ◌∙◌}
use mathlib.Core.Bool.{true, false, not}
use mathlib.Core.List.{List, [], ◌∷◌}
use mathlib.Core.Logic.{⊎_elim}
use Prim.Native.Nat.{ℕ, suc, ◌<◌}
use native.Mathlib.Omega.{arith}
use native.Mathlib.Numerals.{add-one}
use lib.Dec.{eqb}
use lib.ListN.{length, get_or, set, length-append, length-set, get_or-append}
use lib.Seq.{get_or_at, get_or-set_same, get_or-set_other}
use borrow.Author.Tests.{eqb-true, eqb-false}
use Rattle.ground.proofs.Bools.{clash, is_false, lt_or_ge, true_or_false}
use Rattle.ground.proofs.Minimum.{some_none}
use Rattle.link.specs.Rows.{Crossing, one, two, start_at, start, hits, free}
use Rattle.link.specs.Slots.{meets}
use Rattle.link.proofs.OnCircle.{meets_true, meets_slot}
use Rattle.link.proofs.Clearness.{free_meets_none}
use Rattle.link.proofs.Meeting.{neither}
use Rattle.oneslot.specs.Moves.{moved, serves}
use Rattle.oneslot.proofs.SoFar.{RowFree, each_free, free_each}

-- rows of the delays d and e, at the offsets a and b, meet in neither crossing
abbrev pub Off : ℕ → ℕ → ℕ → ℕ → ℕ → ℕ → Type 0
Off p l d a e b = (c : Crossing) → meets p l (start_at p c d a) (start_at p c e b) ≡ false

off_sym : (p l d a e b : ℕ) → 0 < p → Off p l d a e b → Off p l e b d a
off_sym p l d a e b h f c =
    is_false _ (λ g. let m = meets_slot p l (start_at p c e b) (start_at p c d a) g in
    clash (meets_true p l (start_at p c d a) (start_at p c e b) h (m.0, m.2, m.1)) (f c))

-- rows a and b of the plan os meet in neither crossing
abbrev pub OffRows : ℕ → ℕ → List ℕ → List ℕ → ℕ → ℕ → Type 0
OffRows p l ds os a b = Off p l (get_or ds a 0) (get_or os a 0) (get_or ds b 0) (get_or os b 0)

module _ (p l : ℕ) (ds os : List ℕ) where
  -- a row is free exactly where it meets no earlier one
  free_off : (b : ℕ) → RowFree p l ds os b → (a : ℕ) → a < b → OffRows p l ds os a b
  unfolding hits start
  free_off b f a h c = free_meets_none p l ds os b (get_or ds b 0) (get_or os b 0) f c a h

  off_free : (b : ℕ) → ((a : ℕ) → a < b → OffRows p l ds os a b) → RowFree p l ds os b
  unfolding free hits start
  off_free b f = ap not (some_none _ b (λ a h. neither _ a (f a h one) (f a h two)))

-- a row of delay d at the offset a meets no row of the plan os but row i
abbrev pub OffOthers : ℕ → ℕ → List ℕ → List ℕ → ℕ → ℕ → ℕ → Type 0
OffOthers p l ds os i d a = (r : ℕ) → r < length os → (r ≡ i → ⊥) → Off p l (get_or ds r 0) (get_or os r 0) d a

-- row i of the plan os goes to x, and row `length os` comes in at y
pub record Parts (p l : ℕ) (ds os : List ℕ) (i x y : ℕ) : Type 0 where
  pub moves : OffOthers p l ds os i (get_or ds i 0) x
  pub comes : OffOthers p l ds os i (get_or ds (length os) 0) y
  pub both : Off p l (get_or ds i 0) x (get_or ds (length os) 0) y

-- where the rows so far are clear
module _
    (p l : ℕ) (ds os : List ℕ) (hp : 0 < p) (clear : (b : ℕ) → b < length os → RowFree p l ds os b) (i x y : ℕ) (hi : i < length os)
  where
    abbrev j : ℕ
    j = length os

    abbrev new : List ℕ
    new = moved os i x y

    as_many : length new ≡ suc j
    as_many = length-append (set os i x) (y ∷ []) ∙ rw length-set (add-one (length os))

    at_moved : get_or new i 0 ≡ x
    at_moved = get_or-append (set os i x) (y ∷ []) 0 i (rw length-set hi) ∙ get_or-set_same os i x 0 hi

    at_other : (r : ℕ) → r < j → (r ≡ i → ⊥) → get_or new r 0 ≡ get_or os r 0
    at_other r h n = get_or-append (set os i x) (y ∷ []) 0 r (rw length-set h) ∙ get_or-set_other os i r x 0 n

    at_new : get_or new j 0 ≡ y
    at_new = get_or_at (set os i x) y [] 0 j (length-set os i x)

    pub serves_parts : serves p l ds os i x y ≡ true → Parts p l ds os i x y
    unfolding serves
    serves_parts e = record { moves = moves; comes = comes; both = rw (at_moved, at_new) at (off i j hi (omega arith)) }
      where
        off : (a b : ℕ) → a < b → b < suc j → OffRows p l ds new a b
        off a b h q = free_off p l ds new b (each_free p l ds new e b (rw as_many q)) a h

        comes : OffOthers p l ds os i (get_or ds j 0) y
        comes r h n = rw (at_other r h n, at_new) at (off r j h (omega arith))

        moves : OffOthers p l ds os i (get_or ds i 0) x
        moves r h n =
            ⊎_elim (λ m. rw (at_other r h n, at_moved) at (off r i m (omega arith)))
            (λ m. off_sym p l _ _ _ _ hp (rw (at_other r h n, at_moved) at (off i r (omega (arith, n)) (omega arith)))) (lt_or_ge r i)

    pub parts_serve : Parts p l ds os i x y → serves p l ds os i x y ≡ true
    unfolding serves
    parts_serve w = free_each p l ds new (λ b h. off_free p l ds new b (λ a q. off a b q (rw as_many at h)))
      where
        stay : (a b : ℕ) → a < b → b < j → (a ≡ i → ⊥) → (b ≡ i → ⊥) → OffRows p l ds new a b
        stay a b q h n m = rw (at_other a (omega arith) n, at_other b h m) (free_off p l ds os b (clear b h) a q)

        earlier : (a b : ℕ) → a < b → b < j → OffRows p l ds new a b
        earlier a b q h =
            ⊎_elim (λ t. let e = eqb-true b i t in
            let n : a ≡ i → ⊥ = λ f. omega arith in
            rw (e, at_moved, at_other a (omega arith) n) (w.moves a (omega arith) n))
            (λ t. let m = eqb-false b i t in
            ⊎_elim (λ s. rw (eqb-true a i s, at_moved, at_other b h m) (off_sym p l _ _ _ _ hp (w.moves b h m)))
            (λ s. stay a b q h (eqb-false a i s) m) (true_or_false (eqb a i))) (true_or_false (eqb b i))

        last : (a : ℕ) → a < j → OffRows p l ds new a j
        last a h =
            ⊎_elim (λ t. rw (eqb-true a i t, at_moved, at_new) w.both)
            (λ t. let n = eqb-false a i t in rw (at_other a h n, at_new) (w.comes a h n)) (true_or_false (eqb a i))

        off : (a b : ℕ) → a < b → b < suc j → OffRows p l ds new a b
        off a b q h =
            ⊎_elim (earlier a b q) (λ g. let e : b ≡ j = omega arith in rw e (last a (omega arith))) (lt_or_ge b j)
