-- `settled` brings each row in by its least free offset, or with none free by the least move, and is stuck exactly at the first row that
-- neither helps; the rows that have come in are clear. Assumes nothing.
use mathlib.Core.Path.{◌≡◌, refl, ◌∙◌, subst}
use mathlib.Core.List.{List, [], ◌∷◌, ◌++◌}
use mathlib.Core.Logic.{⊎_elim}
use Prim.Native.Nat.{ℕ, zero, suc, ◌≤◌, ◌<◌}
use native.Mathlib.Numerals.{add-one}
use native.Mathlib.Omega.{arith}
use lib.ListN.{length, get_or, take, set, length-append, length-set, get_or-append}
use lib.Seq.{get_or-append_seam, get_or-set_same, get_or-set_other}
use lib.Dec.{eqb}
use borrow.Author.Count.{below_more}
use borrow.Author.Tests.{eqb-true, eqb-false}
use Rattle.ground.proofs.Bools.{lt_or_ge, true_or_false}
use Rattle.link.specs.Rows.{Clear}
use Rattle.link.proofs.Clearness.{free_cong}
use Rattle.quick.specs.Plan.{Progress, rows, stuck}
use Rattle.oneslot.specs.Moves.{moved}
use Rattle.oneslot.specs.Plan.{settle, settled}
use Rattle.oneslot.specs.Right.{LeastFree, Next, takes, moves, Reached, start, onward, NoWay}
use Rattle.oneslot.proofs.NextRow.{length_moved, next_is, stuck_here, Steps, steps}
use Rattle.oneslot.proofs.SoFar.{RowFree, rows_so_far, so_far_rows}

module _ (p l : ℕ) (ds : List ℕ) where
  -- a row that cannot come in ends it
  pub stays : (j i m : ℕ) → settled p l ds j ≡ stuck i → j ≤ m → settled p l ds m ≡ stuck i
  unfolding settled settle
  stays j i zero e h = let z : j ≡ 0 = omega arith in subst (λ (x : ℕ). settled p l ds x ≡ stuck i) z e
  stays j i (suc m) e h =
      ⊎_elim (λ q. rw (stays j i m e (omega arith)))
      (λ g. let z : j ≡ suc m = omega arith in subst (λ (x : ℕ). settled p l ds x ≡ stuck i) z e) (lt_or_ge j (suc m))

  -- one row more
  pub next_length : {os ps : List ℕ} → Next p l ds os ps → length ps ≡ suc (length os)
  next_length {os} (takes a f) = rw length-append (add-one (length os))
  next_length {os} (moves i x y none m) = length_moved os i x y

  -- what `settled` says, read by cases
  pub data Says (n : ℕ) : Progress → Type 0 where
    all : (os : List ℕ) → length os ≡ n → Reached p l ds os → Says n (rows os)
    some_row : (j : ℕ) → j < n → NoWay p l ds j → Says n (stuck j)

  -- from here on the period is at least 1, as it is for every table in range
  module _ (hp : 0 < p) where
    one_more : (os : List ℕ) → Reached p l ds os → length os < length ds → Says (suc (length os)) (settle p l ds (length os) (rows os))
    one_more os r more = go (settle p l ds (length os) (rows os)) (steps p l ds hp os more)
      where
        go : (o : Progress) → Steps p l ds hp os more o → Says (suc (length os)) o
        go (rows ps) n = all ps (next_length n) (onward os ps r n)
        go (stuck j) w =
            some_row j (omega arith) (record { offsets = os; as_many = w.0; before = r; none_free = w.1; no_move = w.2 })

    pub says : (n : ℕ) → n ≤ length ds → Says n (settled p l ds n)
    unfolding settled settle
    says zero h = all [] refl start
    says (suc n) h = go (settled p l ds n) (says n (omega arith))
      where
        go : (o : Progress) → Says n o → Says (suc n) (settle p l ds n o)
        go o (all os e r) = subst (λ (m : ℕ). Says (suc m) (settle p l ds m (rows os))) e (one_more os r (omega arith))
        go o (some_row j q w) = some_row j (omega arith) w

    -- the other way round: rows that came in right are what `settled` gives
    pub reached_is : (os : List ℕ) → Reached p l ds os → length os ≤ length ds → settled p l ds (length os) ≡ rows os
    unfolding settled
    reached_is os start h = refl
    reached_is ps (onward os qs r n) h =
        let e = next_length n in
        let more : length os < length ds = omega arith in
        rw (e, reached_is os r (omega arith)) (next_is p l ds hp os more n)

    pub stuck_is : (j n : ℕ) → j < n → n ≤ length ds → NoWay p l ds j → settled p l ds n ≡ stuck j
    unfolding settled
    stuck_is j n h k w =
        let os = w.offsets in
        let more : length os < length ds = omega (arith, w.as_many) in
        let here : settled p l ds (suc (length os)) ≡ stuck (length os) =
        rw (reached_is os w.before (omega arith)) (stuck_here p l ds hp os more w.none_free w.no_move) in
        stays (suc j) j n (subst (λ (m : ℕ). settled p l ds (suc m) ≡ stuck m) w.as_many here) (omega arith)

  -- the rows that have come in stand below the period
  module _ (os : List ℕ) (low : (i : ℕ) → i < length os → get_or os i 0 < p) where
    low_last : (a : ℕ) → a < p → (i : ℕ) → i < length (os ++ (a ∷ [])) → get_or (os ++ (a ∷ [])) i 0 < p
    low_last a h i q =
        below_more (λ i. get_or (os ++ (a ∷ [])) i 0 < p) (length os) (λ k m. rw (get_or-append os (a ∷ []) 0 k m) (low k m))
        (rw (get_or-append_seam os a [] 0) h) i (omega (arith, length-append os (a ∷ [])))

    low_set : (i x : ℕ) → x < p → (j : ℕ) → j < length (set os i x) → get_or (set os i x) j 0 < p
    low_set i x h j q =
        let in_os : j < length os = omega (arith, length-set os i x) in
        ⊎_elim (λ t. let e = eqb-true j i t in rw (e, get_or-set_same os i x 0 (omega arith)) h)
        (λ t. rw (get_or-set_other os i j x 0 (eqb-false j i t)) (low j in_os)) (true_or_false (eqb j i))

  pub reached_low : {os : List ℕ} → Reached p l ds os → (i : ℕ) → i < length os → get_or os i 0 < p
  reached_low start i h = absurd (omega arith)
  reached_low (onward os ps r (takes a f)) i h = low_last os (reached_low r) a f.low i h
  reached_low (onward os ps r (moves i x y none m)) j h =
      low_last (set os i x) (low_set os (reached_low r) i x m.serves.new_offset) y m.serves.offset j h

  -- and each is free of those before it: an earlier row goes by the rows before it, and a move leaves all rows clear
  earlier_free : (os : List ℕ) (a j : ℕ) → j < length os → RowFree p l ds os j → RowFree p l ds (os ++ (a ∷ [])) j
  earlier_free os a j h f =
      free_cong p l ds (os ++ (a ∷ [])) os j (get_or ds j 0) _ (λ i q. get_or-append os (a ∷ []) 0 i (omega arith))
      ∙ rw (get_or-append os (a ∷ []) 0 j h) f

  last_free : (os : List ℕ) (a : ℕ) → LeastFree p l ds os a → RowFree p l ds (os ++ (a ∷ [])) (length os)
  last_free os a f =
      free_cong p l ds (os ++ (a ∷ [])) os (length os) (get_or ds (length os) 0) _ (λ i q. get_or-append os (a ∷ []) 0 i q)
      ∙ rw (get_or-append_seam os a [] 0) f.is_free

  pub reached_free : {os : List ℕ} → Reached p l ds os → length os ≤ length ds → (j : ℕ) → j < length os → RowFree p l ds os j
  reached_free start k j h = absurd (omega arith)
  reached_free (onward os ps r (takes a f)) k j h =
      let e = length-append os (a ∷ []) in
      below_more (RowFree p l ds (os ++ (a ∷ []))) (length os) (λ i q. earlier_free os a i q (reached_free r (omega arith) i q))
      (last_free os a f) j (omega arith)
  reached_free (onward os ps r (moves i x y none m)) k j h =
      let e = length_moved os i x y in
      so_far_rows p l ds (moved os i x y) (suc (length os)) (omega arith) m.serves.clear j (omega arith)

  pub reached_clear : 0 < p → {os : List ℕ} → Reached p l ds os → length os ≤ length ds → Clear p l (take (length os) ds) os
  reached_clear hp {os} r h = rows_so_far p l ds os (length os) h hp (reached_free r h)
