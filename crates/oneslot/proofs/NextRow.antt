-- How the next row comes in: by its least free offset, or by the least move, or not at all; the definition's step and the statement of it
-- are the same. Assumes nothing.
use mathlib.Core.Path.{◌≡◌, refl, ap, ◌∙◌, subst}
use mathlib.Core.Bool.{Bool, true, false, cond}
use mathlib.Core.List.{List, [], ◌∷◌, ◌++◌}
use Prim.Native.Nat.{ℕ, suc, ◌<◌}
use native.Mathlib.Nat.{mul-one}
use native.Mathlib.Numerals.{add-one}
use native.Mathlib.Omega.{arith}
use lib.ListN.{length, get_or, length-append, length-set}
use borrow.Author.Tests.{ltb-true}
use Rattle.ground.specs.Least.{least, some}
use Rattle.ground.proofs.Bools.{clash, is_false}
use Rattle.ground.proofs.Minimum.{least_at, least_cong, some_at, some_has, some_none, none_has, least_low}
use Rattle.link.specs.Rows.{free}
use Rattle.quick.specs.Plan.{Progress, rows, stuck, free_at, place}
use Rattle.oneslot.specs.Moves.{Move, None, Row, moved, serves, least_move}
use Rattle.oneslot.specs.Plan.{made, or_moved, settle}
use Rattle.oneslot.specs.Right.{Serves, LeastMove, NoneFree, Next, takes, moves}
use Rattle.oneslot.proofs.Choosing.{Chooses, chooses, only_choice}
use Rattle.oneslot.proofs.SoFar.{each_free, free_each, rows_so_far, so_far_rows}

-- a move makes one row more
pub length_moved : (os : List ℕ) (i x y : ℕ) → length (moved os i x y) ≡ suc (length os)
length_moved os i x y = rw (length-append, length-set) (add-one (length os))

module _ (p l : ℕ) (ds : List ℕ) where
  -- an offset is free for the next row
  abbrev is_free_lem : List ℕ → ℕ → Bool
  is_free_lem os a = free p l ds os (length os) (get_or ds (length os) 0) a

  -- one row more, with First Fit's steps of one slot taken as the offsets that they are
  abbrev or_move : List ℕ → Bool → Progress
  or_move os b = cond b (rows (os ++ (least (is_free_lem os) p ∷ []))) (made os (length os) (least_move p (serves p l ds os) (length os)))

  placed_is : (os : List ℕ)
      → place p l ds 1 p (length os) (rows os)
      ≡ cond (some (is_free_lem os) p) (rows (os ++ (least (is_free_lem os) p ∷ []))) (stuck (length os))
  unfolding place free_at
  placed_is os = rw (least_cong (free_at p l ds os (length os) 1) (is_free_lem os) p (λ c _. rw mul-one), mul-one)

  settle_is : (os : List ℕ) → settle p l ds (length os) (rows os) ≡ or_move os (some (is_free_lem os) p)
  unfolding settle or_moved
  settle_is os = ap (or_moved p l ds os (length os)) (placed_is os) ∙ go (some (is_free_lem os) p)
    where
      go : (b : Bool)
          → or_moved p l ds os (length os) (cond b (rows (os ++ (least (is_free_lem os) p ∷ []))) (stuck (length os))) ≡ or_move os b
      go true = refl
      go false = refl

  -- from here on the period is at least 1, as it is for every table in range
  module _ (hp : 0 < p) where
    -- "so that all rows so far are clear": the test is the statement
    module _ (os : List ℕ) (i x y : ℕ) (more : length os < length ds) where
      serves_so : i < length os → x < p → y < p → serves p l ds os i x y ≡ true → Serves p l ds os i x y
      unfolding serves
      serves_so a b c e =
          record {
            earlier = a;
            new_offset = b;
            offset = c;
            clear =
                rows_so_far p l ds (moved os i x y) (suc (length os)) more hp
                (λ j q. each_free p l ds (moved os i x y) e j (omega (arith, length_moved os i x y)));
          }

      so_serves : Serves p l ds os i x y → serves p l ds os i x y ≡ true
      unfolding serves
      so_serves w =
          free_each p l ds (moved os i x y)
          (λ j q. so_far_rows p l ds (moved os i x y) (suc (length os)) more w.clear j (omega (arith, length_moved os i x y)))

    module _ (os : List ℕ) (more : length os < length ds) where
      abbrev pub NoneServes : Type 0
      NoneServes = (i x y : ℕ) → Serves p l ds os i x y → ⊥

      -- what a choice says of the next row
      abbrev Helps : Move → Type 0
      Helps None = NoneServes
      Helps (Row i x y) = LeastMove p l ds os i x y

      choice_helps : (m : Move) → Chooses p (serves p l ds os) (length os) m → Helps m
      choice_helps None c = λ i x y w. clash (so_serves os i x y more w) (c i x y w.earlier w.new_offset w.offset)
      choice_helps (Row i x y) c =
          record {
            serves = serves_so os i x y more c.row c.new_offset c.offset c.has;
            least = λ i' x' y' w. c.least i' x' y' w.earlier w.new_offset w.offset (so_serves os i' x' y' more w);
          }

      helps_chosen : (m : Move) → Helps m → Chooses p (serves p l ds os) (length os) m
      helps_chosen None c = λ i x y a b d. is_false _ (λ e. c i x y (serves_so os i x y more a b d e))
      helps_chosen (Row i x y) c =
          record {
            row = c.serves.earlier;
            new_offset = c.serves.new_offset;
            offset = c.serves.offset;
            has = so_serves os i x y more c.serves;
            least = λ i' x' y' a b d e. c.least i' x' y' (serves_so os i' x' y' more a b d e);
          }

      move_is : (m : Move) → Helps m → least_move p (serves p l ds os) (length os) ≡ m
      move_is m c = only_choice p (serves p l ds os) (length os) m (helps_chosen m c)

      none_is : NoneFree p l ds os → some (is_free_lem os) p ≡ false
      none_is none = some_none (is_free_lem os) p (λ a q. is_false _ (none a q))

      pub next_is : {ps : List ℕ} → Next p l ds os ps → settle p l ds (length os) (rows os) ≡ rows ps
      next_is (takes a f) =
          let before : (b : ℕ) → b < a → is_free_lem os b ≡ false =
          λ b q. is_false _ (λ e. absurd (omega (arith, f.least b (omega (arith, f.low)) e))) in
          rw (
            settle_is os,
            some_at (is_free_lem os) p a f.low f.is_free,
            least_at (is_free_lem os) p a (omega (arith, f.low)) before (λ _. f.is_free),
          )
      next_is (moves i x y none m) = rw (settle_is os, none_is none, move_is (Row i x y) m)

      pub stuck_here : NoneFree p l ds os → NoneServes → settle p l ds (length os) (rows os) ≡ stuck (length os)
      stuck_here none f = rw (settle_is os, none_is none, move_is None f)

      -- and read the other way: what the step makes of the rows so far
      abbrev pub Steps : Progress → Type 0
      Steps (rows ps) = Next p l ds os ps
      Steps (stuck j) = (length os ≡ j) × NoneFree p l ds os × NoneServes

      by_a_move : NoneFree p l ds os → (m : Move) → Helps m → Steps (made os (length os) m)
      by_a_move none None c = (refl, none, c)
      by_a_move none (Row i x y) c = moves i x y none c

      pub steps : Steps (settle p l ds (length os) (rows os))
      steps = rw (settle_is os) (go (some (is_free_lem os) p) refl)
        where
          go : (b : Bool) → some (is_free_lem os) p ≡ b → Steps (or_move os b)
          go true e =
              takes _ (record {
                low = ltb-true _ _ e;
                is_free = some_has (is_free_lem os) p e;
                least = λ b _ h. least_low (is_free_lem os) p b h;
              })
          go false e =
              let m = least_move p (serves p l ds os) (length os) in
              by_a_move (λ a q h. clash h (none_has (is_free_lem os) p e a q)) m (choice_helps m (chooses p (serves p l ds os) (length os)))

      pub is_next : (ps : List ℕ) → settle p l ds (length os) (rows os) ≡ rows ps → Next p l ds os ps
      is_next ps e = subst Steps e steps
