-- How the code's walk over the rows is the definition's. Assumes nothing.
use mathlib.Core.Path.{◌≡◌, refl, sym, ap, ◌∙◌, subst}
use mathlib.Core.List.{List}
use Prim.Native.Nat.{ℕ, ◌+◌, ◌≤◌, ◌<◌}
use native.Mathlib.Omega.{arith}
use native.Mathlib.Nat.{mul-one}
use native.Mathlib.Numerals.{add-one}
use lib.ListN.{length, get_or, take, set, length-set}
use lib.Seq.{get_or-take, length-take-le, take-suc-set}
use borrow.Author.Tests.{lt-ltb, le-ltb}
use Rattle.ground.specs.Least.{least_from}
use Rattle.ground.proofs.Bools.{never}
use Rattle.ground.proofs.Filling.{same_front, take_set}
use Rattle.link.specs.Limits.{max_rows}
use Rattle.link.specs.Rows.{second}
use Rattle.quick.specs.Plan.{Progress, rows, stuck, place}
use Rattle.quick.specs.Ways.{Ways, open_to}
use Rattle.quick.proofs.Standing.{Standing, none_stands, put, least_free}
use Rattle.oneslot.specs.Moves.{Move, None, Row, serves, least_move}
use Rattle.oneslot.specs.Others.{can_move}
use Rattle.oneslot.specs.Plan.{made, or_moved, settle, settled}
use Rattle.oneslot.specs.Right.{Reached}
use Rattle.oneslot.proofs.Choosing.{Chosen, taken, least_move_cong}
use Rattle.oneslot.proofs.Fitting.{can_move_serves}
use Rattle.oneslot.proofs.SoFar.{RowFree}
use Rattle.oneslot.proofs.Sound.{Says, all, some_row, says, stays, reached_free}

-- j rows have come in, with the starts xs and ys
pub record State (p l : ℕ) (ds : List ℕ) (j : ℕ) (xs ys : List ℕ) : Type 0 where
  pub standing : Standing p ds j xs ys
  pub done : settled p l ds j ≡ rows (take j xs)

pub none_yet : (p l : ℕ) (ds xs ys : List ℕ) → length xs ≡ max_rows → length ys ≡ max_rows → State p l ds 0 xs ys
unfolding settled
none_yet p l ds xs ys e f = record { standing = none_stands p ds xs ys e f; done = refl }

-- what `settled` gives came in right
came : (p l : ℕ) (ds os : List ℕ) (n : ℕ) {o : Progress} → Says p l ds n o → o ≡ rows os → Reached p l ds os
came p l ds os n (all qs e r) f = subst (Reached p l ds) (ap (offsets os) f) r
  where
    offsets : List ℕ → Progress → List ℕ
    offsets old (rows ps) = ps
    offsets old (stuck i) = old
came p l ds os n (some_row i h w) f = never (cc)

module _
    (p l : ℕ) (ds : List ℕ) (w : Ways p l 1 p) (j : ℕ) (hj : j < max_rows) (more : j < length ds) (xs ys : List ℕ)
    (s : State p l ds j xs ys) (a : ℕ) (e : a ≡ least_from (open_to p l (get_or ds j 0) (take j xs) (take j ys) 1) 0 p)
  where
    room : j < length xs
    room = omega (arith, s.standing.xs_length)

    -- at its least free offset
    pub free_onward : (b : ℕ) → a < p → b ≡ second p (get_or ds j 0) a → State p l ds (j + 1) (set xs j a) (set ys j b)
    unfolding settled settle or_moved place
    free_onward b h f =
        let found = least_free p l ds j hj xs ys s.standing 1 p w a e in
        let low = subst (λ (x : ℕ). x < p) found h in
        record {
          standing = put p ds j xs ys s.standing j a b hj h f (j + 1) (λ k q n. omega arith);
          done = rw (add-one, s.done, take-suc-set xs j a room, lt-ltb _ p low, ← found, mul-one);
        }

    -- with no free offset, by what `find_move` answers
    module _ (full : p ≤ a) (m : Move)
        (f : m ≡ least_move p (can_move p l (take j ds) (get_or ds j 0) (take j xs) (take j ys)) (length (take j xs)))
      where
        as_many : length (take j xs) ≡ j
        as_many = length-take-le j xs (omega (arith, room))

        as_many_seconds : length (take j ys) ≡ length (take j xs)
        as_many_seconds = same_front j ys xs (omega (arith, s.standing.ys_length)) (omega (arith, room))

        clear : (b : ℕ) → b < length (take j xs) → RowFree p l ds (take j xs) b
        clear =
            let right = came p l ds (take j xs) j (says p l ds w.some_period j (omega arith)) s.done in
            reached_free p l ds right (omega (arith, as_many))

        low : (r : ℕ) → r < length (take j xs) → get_or (take j xs) r 0 < p
        low r h = rw (get_or-take j xs r 0 (omega (arith, as_many))) (s.standing.each r (omega (arith, as_many))).low

        seconds : (r : ℕ) → r < length (take j xs) → get_or (take j ys) r 0 ≡ second p (get_or ds r 0) (get_or (take j xs) r 0)
        seconds r h =
            let q : r < j = omega (arith, as_many) in
            rw (get_or-take j xs r 0 q, get_or-take j ys r 0 q) (s.standing.each r q).second_start

        same_test : (i x y : ℕ) → i < length (take j xs) → x < p → y < p
            → can_move p l (take j ds) (get_or ds j 0) (take j xs) (take j ys) i x y ≡ serves p l ds (take j xs) i x y
        unfolding can_move
        same_test i x y h k q =
            rw (get_or-take j ds i 0 (omega (arith, as_many)))
            (subst (λ (n : ℕ). can_move p l ds (get_or ds n 0) (take j xs) (take j ys) i x y ≡ serves p l ds (take j xs) i x y) as_many
            (can_move_serves p l ds (take j xs) (take j ys) w.some_period w.span_high as_many_seconds low seconds i h clear x y k q))

        found_move : m ≡ least_move p (serves p l ds (take j xs)) j
        found_move = f ∙ least_move_cong p _ _ (length (take j xs)) same_test ∙ ap (least_move p (serves p l ds (take j xs))) as_many

        after : settled p l ds (j + 1) ≡ made (take j xs) j m
        unfolding settled settle or_moved place
        after =
            let found = least_free p l ds j hj xs ys s.standing 1 p w a e in
            rw (add-one, s.done, le-ltb _ p (subst (λ (x : ℕ). p ≤ x) found full), ← found_move)

        pub no_way : m ≡ None → (n : ℕ) → j < n → settled p l ds n ≡ stuck j
        no_way g n h = stays p l ds (j + 1) j n (after ∙ ap (made (take j xs) j) g) (omega arith)

        module _ (i x y : ℕ) (g : m ≡ Row i x y) where
          -- the row, its new offset and the new row's are in range
          chosen : Chosen p (serves p l ds (take j xs)) j i x y
          chosen = taken p (serves p l ds (take j xs)) j (Row i x y) (sym found_move ∙ g)

          pub move_onward : (b c : ℕ) → b ≡ second p (get_or ds i 0) x → c ≡ second p (get_or ds j 0) y
              → State p l ds (j + 1) (set (set xs i x) j y) (set (set ys i b) j c)
          move_onward b c h k =
              let w' = chosen in
              let stands = put p ds j xs ys s.standing i x b (omega (arith, w'.row)) w'.new_offset h j (λ k q n. q) in
              record {
                standing = put p ds j (set xs i x) (set ys i b) stands j y c hj w'.offset k (j + 1) (λ k q n. omega arith);
                done =
                    after ∙ ap (made (take j xs) j) g ∙ rw (add-one, take-suc-set (set xs i x) j y (rw length-set room), take_set j xs i x);
              }
