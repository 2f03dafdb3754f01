-- A new row moves at most one of the rows before it: none where an offset is free for it, and one where none is. Assumes nothing.
use mathlib.Core.Path.{◌≡◌, ◌∙◌, sym}
use mathlib.Core.List.{List, [], ◌∷◌, ◌++◌}
use Prim.Native.Nat.{ℕ, suc, ◌<◌}
use native.Mathlib.Omega.{arith}
use lib.ListN.{length, get_or, set, length-set, get_or-append}
use lib.Seq.{get_or-append_seam, get_or-set_same, get_or-set_other, set-get_or}
use Rattle.link.proofs.Clearness.{free_cong}
use Rattle.oneslot.specs.Moves.{moved}
use Rattle.oneslot.specs.Right.{FreeForNext, NoneFree, Serves, Next, takes, moves, OthersStay}
use Rattle.oneslot.proofs.SoFar.{RowFree, so_far_rows}
use Rattle.oneslot.proofs.Sound.{next_length}

others_of_a_move : (os : List ℕ) (i x y : ℕ) → OthersStay os (moved os i x y) i
others_of_a_move os i x y j h n =
    get_or-append (set os i x) (y ∷ []) 0 j (omega (arith, length-set os i x)) ∙ get_or-set_other os i j x 0 n

module _ (p l : ℕ) (ds os : List ℕ) where
  -- "At most one move is made for each new row": there is one row more, and all rows so far but row i stay
  pub others_stay : {ps : List ℕ} → Next p l ds os ps → (i : ℕ) × OthersStay os ps i × (length ps ≡ suc (length os))
  others_stay (takes a f) = (length os, λ j h n. get_or-append os (a ∷ []) 0 j h, next_length p l ds (takes a f))
  others_stay (moves i x y none m) = (i, others_of_a_move os i x y, next_length p l ds (moves i x y none m))

  -- "A row takes the least free offset. If it has none, consider moving": with one free all stay
  pub all_stay : {ps : List ℕ} (a : ℕ) → a < p → FreeForNext p l ds os a → Next p l ds os ps → (j : ℕ) → j < length os
      → get_or ps j 0 ≡ get_or os j 0
  all_stay a h f (takes b g) j q = get_or-append os (b ∷ []) 0 j q
  all_stay a h f (moves i x y none m) j q = absurd (none a h f)

  -- a row that gives way comes to another offset: else its old one would have left one free for the new row
  gives_way_lem : (i x y : ℕ) → length os < length ds → NoneFree p l ds os → Serves p l ds os i x y → get_or os i 0 ≡ x → ⊥
  gives_way_lem i x y more none w e =
      let stays : set os i x ≡ os = rw (← e) (set-get_or os i 0) in
      let here : RowFree p l ds (os ++ (y ∷ [])) (length os) =
      rw stays at (so_far_rows p l ds (moved os i x y) (suc (length os)) more w.clear (length os) (omega arith)) in
      let before = free_cong p l ds (os ++ (y ∷ [])) os (length os) (get_or ds (length os) 0) y (λ j q. get_or-append os (y ∷ []) 0 j q) in
      none y w.offset (sym before ∙ rw (get_or-append_seam os y [] 0) at here)

  -- and with none free one moves
  pub one_moves : {ps : List ℕ} → length os < length ds → NoneFree p l ds os → Next p l ds os ps
      → (i : ℕ) × (i < length os) × (get_or ps i 0 ≡ get_or os i 0 → ⊥) × OthersStay os ps i
  one_moves more none (takes a f) = absurd (none a f.low f.is_free)
  one_moves more none (moves i x y _ m) =
      let w = m.serves in
      let new = get_or-append (set os i x) (y ∷ []) 0 i (omega (arith, length-set os i x, w.earlier))
      ∙ get_or-set_same os i x 0 w.earlier in
      (i, w.earlier, λ e. gives_way_lem i x y more none w (sym e ∙ new), others_of_a_move os i x y)
