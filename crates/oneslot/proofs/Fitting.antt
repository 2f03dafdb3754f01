-- The code's test of a move, over lists of starts without the moved row, is the definition's: it serves. Assumes nothing.
use mathlib.Core.Path.{◌≡◌, refl, sym, ap, ◌∙◌}
use mathlib.Core.Bool.{Bool, true, not, ◌&&◌}
use mathlib.Core.List.{List}
use mathlib.Core.Logic.{⊎_elim}
use Prim.Native.Nat.{ℕ, ◌-◌, ◌≤◌, ◌<◌}
use native.Mathlib.Omega.{arith}
use lib.Dec.{eqb}
use lib.ListN.{length, get_or, set, length-set}
use lib.Seq.{get_or-take, length-take-le, get_or-set_same, get_or-set_other}
use borrow.Author.Tests.{eqb-true, eqb-false, not-false}
use Rattle.ground.proofs.Bools.{and_both, and_parts, same_test, true_or_false}
use Rattle.link.specs.Rows.{Crossing, one, two, second, start_at, near}
use Rattle.link.specs.Slots.{meets, apartb}
use Rattle.link.proofs.OnCircle.{meets_apart}
use Rattle.link.proofs.Meeting.{start_low}
use Rattle.quick.specs.Ways.{open_to}
use Rattle.oneslot.specs.Moves.{serves}
use Rattle.oneslot.specs.Others.{last_of, without, open_beside, fits, can_move}
use Rattle.oneslot.proofs.Opening.{open_far, far_open, open_more}
use Rattle.oneslot.proofs.Serving.{Off, OffOthers, serves_parts, parts_serve}
use Rattle.oneslot.proofs.SoFar.{RowFree}

-- where each row but row i of j rows stands in a list without it
module _ (i j : ℕ) (hi : i < j) where
  -- the place k of a list without row i has what row r has in the list
  abbrev Has : ℕ → ℕ → Type 0
  Has k r = (zs : List ℕ) → length zs ≡ j → get_or (without i zs) k 0 ≡ get_or zs r 0

  at_last : (k r : ℕ) → k < j - 1 → k ≡ i → r ≡ j - 1 → Has k r
  unfolding without
  at_last k r h e f zs n =
      get_or-take (length zs - 1) (set zs i (last_of zs)) k 0 (omega arith)
      ∙ rw (e, f, ← n) (get_or-set_same zs i (last_of zs) 0 (omega arith))

  at_own : (k : ℕ) → k < j - 1 → (k ≡ i → ⊥) → Has k k
  unfolding without
  at_own k h m zs n = get_or-take (length zs - 1) (set zs i (last_of zs)) k 0 (omega arith) ∙ get_or-set_other zs i k (last_of zs) 0 m

  place_of : (r : ℕ) → r < j → (r ≡ i → ⊥) → (k : ℕ) × (k < j - 1) × Has k r
  place_of r h m =
      ⊎_elim (λ t. let e = eqb-true r (j - 1) t in let low : i < j - 1 = omega (arith, m) in (i, low, at_last i r low refl e))
      (λ t. let low : r < j - 1 = omega (arith, eqb-false r (j - 1) t) in (r, low, at_own r low m)) (true_or_false (eqb r (j - 1)))

  row_at : (k : ℕ) → k < j - 1 → (r : ℕ) × (r < j) × (r ≡ i → ⊥) × Has k r
  row_at k h =
      ⊎_elim (λ t. let e = eqb-true k i t in (j - 1, omega arith, (λ f. omega arith), at_last k (j - 1) h e refl))
      (λ t. let m = eqb-false k i t in (k, omega arith, m, at_own k h m)) (true_or_false (eqb k i))

-- rows with the offsets os and the second starts vs, of a table ds
module _
    (p l : ℕ) (ds os vs : List ℕ) (hp : 0 < p) (hl : l ≤ p) (same : length vs ≡ length os)
    (low : (r : ℕ) → r < length os → get_or os r 0 < p)
    (seconds : (r : ℕ) → r < length os → get_or vs r 0 ≡ second p (get_or ds r 0) (get_or os r 0))
    (i : ℕ) (hi : i < length os)
  where
    near_meets : (d a k r : ℕ) → a < p → r < length os → Has i (length os) hi k r → (c : Crossing)
        → near p l (without i os) (without i vs) a (second p d a) c k
        ≡ meets p l (start_at p c (get_or ds r 0) (get_or os r 0)) (start_at p c d a)
    unfolding near
    near_meets d a k r h q has one = rw (has os refl) (sym (meets_apart p l _ _ (low r q) h hl))
    near_meets d a k r h q has two =
        rw (has vs same, seconds r q) (sym (meets_apart p l _ _ (start_low p two _ _ (low r q)) (start_low p two d a h) hl))

    as_many : (zs : List ℕ) → length zs ≡ length os → length (without i zs) ≡ length os - 1
    unfolding without
    as_many zs e = rw (← e) (length-take-le (length zs - 1) (set zs i (last_of zs)) (rw length-set (omega arith)))

    open_off : (d a : ℕ) → a < p → open_to p l d (without i os) (without i vs) 1 a ≡ true → OffOthers p l ds os i d a
    open_off d a h e r q n c =
        let k = place_of i (length os) hi r q n in
        sym (near_meets d a k.0 r h q k.2 c) ∙ open_far p l d (without i os) (without i vs) a e c k.0 (rw (as_many os refl) k.1)

    off_open : (d a : ℕ) → a < p → OffOthers p l ds os i d a → open_to p l d (without i os) (without i vs) 1 a ≡ true
    off_open d a h f =
        far_open p l d (without i os) (without i vs) a (λ c k q.
        let r = row_at i (length os) hi k (rw (as_many os refl) at q) in
        near_meets d a k r.0 h r.1 r.3 c ∙ f r.0 r.1 r.2 c)

    -- clear of each other
    beside_off : (d e x y : ℕ) → x < p → y < p → (apartb p l x y && apartb p l (second p d x) (second p e y)) ≡ true → Off p l d x e y
    beside_off d e x y h k f one =
        meets_apart p l x y h k hl ∙ ap not (and_parts (apartb p l x y) (apartb p l (second p d x) (second p e y)) f).0
    beside_off d e x y h k f two =
        meets_apart p l _ _ (start_low p two d x h) (start_low p two e y k) hl
        ∙ ap not (and_parts (apartb p l x y) (apartb p l (second p d x) (second p e y)) f).1

    off_beside : (d e x y : ℕ) → x < p → y < p → Off p l d x e y
        → (apartb p l x y && apartb p l (second p d x) (second p e y)) ≡ true
    off_beside d e x y h k f =
        and_both _ _ (not-false (apartb p l x y) (sym (meets_apart p l x y h k hl) ∙ f one))
        (not-false (apartb p l (second p d x) (second p e y))
        (sym (meets_apart p l (second p d x) (second p e y) (start_low p two d x h) (start_low p two e y k) hl) ∙ f two))

    -- the code's test is the definition's, where the rows so far are clear
    pub can_move_serves : ((b : ℕ) → b < length os → RowFree p l ds os b) → (x y : ℕ) → x < p → y < p
        → can_move p l ds (get_or ds (length os) 0) os vs i x y ≡ serves p l ds os i x y
    unfolding can_move fits open_beside
    can_move_serves clear x y h k =
        ap (λ (t : Bool). open_to p l e us ws 1 x && t) (open_more p l d us ws alike x (second p e x) y)
        ∙ same_test _ _
        (λ f. let a = and_parts (open_to p l e us ws 1 x) (open_to p l d us ws 1 y && apart_both) f in
        let b = and_parts (open_to p l d us ws 1 y) apart_both a.1 in
        parts_serve p l ds os hp clear i x y hi
        (record { moves = open_off e x h a.0; comes = open_off d y k b.0; both = beside_off e d x y h k b.1 }))
        (λ f. let w = serves_parts p l ds os hp clear i x y hi f in
        and_both _ _ (off_open e x h w.moves) (and_both _ _ (off_open d y k w.comes) (off_beside e d x y h k w.both)))
      where
        d : ℕ
        d = get_or ds (length os) 0

        e : ℕ
        e = get_or ds i 0

        us : List ℕ
        us = without i os

        ws : List ℕ
        ws = without i vs

        alike : length us ≡ length ws
        alike = as_many os refl ∙ sym (as_many vs same)

        apart_both : Bool
        apart_both = apartb p l x y && apartb p l (second p e x) (second p d y)
