-- Good steps keep the placed rows apart, so a whole build gives clear offsets. Assumes nothing.
use mathlib.Core.Path.{◌≡◌, refl, sym, ◌∙◌}
use mathlib.Core.Logic.{⊎_elim}
use mathlib.Core.Bool.{Bool, true, false, not}
use mathlib.Core.List.{List}
use Prim.Native.Nat.{ℕ, ◌<◌, ◌≤◌}
use native.Mathlib.Omega.{arith}
use lib.Dec.{eqb}
use lib.ListN.{length, get_or, take}
use lib.Seq.{get_or-take}
use borrow.Author.Tests.{not-true, not-false, eqb-true, eqb-false}
use Rattle.link.specs.Limits.{max_rows}
use Rattle.link.specs.Rows.{Crossing, start, start_at, hits, Clear}
use Rattle.ground.proofs.Bools.{lt_or_ge}
use Rattle.ground.proofs.Counting.{count_none}
use Rattle.link.specs.Slots.{Meet}
use Rattle.link.proofs.OnCircle.{Apart, apart_sym, apart_of, apart_slots, no_slot}
use Rattle.link.proofs.Clearness.{clear_in, clear_both}
use Rattle.ground.proofs.Minimum.{none_has}
use Rattle.link.proofs.Meeting.{start_low, none_hit}
use Rattle.search.specs.Steps.{Step, rules, placed, puts, in_the_way, good, put, is_step}
use Rattle.search.specs.Builds.{Build, done, onward, leads, begin}
use Rattle.search.proofs.Listing.{steps_are}
use Rattle.search.proofs.Numbers.{names}
use Rattle.search.proofs.States.{At, placed_low, puts_low, put_other, put_here, placed_other, put_at, begin_free}
use Rattle.search.proofs.Completeness.{Plan}

-- every two placed rows are apart in both crossings
abbrev pub Okay : ℕ → ℕ → List ℕ → ℕ → List ℕ → Type 0
Okay p l ds n s = (c : Crossing) (i j : ℕ) → i < n → j < n → (i ≡ j → ⊥) → placed p s i ≡ true → placed p s j ≡ true → Apart p l
    (start p ds s c i) (start p ds s c j)

module _ (p l : ℕ) (ds : List ℕ) (n : ℕ) (some : 0 < p) (lp : l ≤ p) where
  module _ (s : List ℕ) (k : Step) (gd : good p l ds n s k ≡ true) where
    pub not_met : (c : Crossing) (i : ℕ) → i < n → placed p s i ≡ true → hits p l ds s (get_or ds k.row 0) (puts p l ds s k) c i ≡ false
    unfolding good in_the_way
    not_met c i h e =
        none_hit (hits p l ds s (get_or ds k.row 0) (puts p l ds s k)) c i
        (rw e at (none_has (in_the_way p l ds s (get_or ds k.row 0) (puts p l ds s k)) n (not-true _ gd) i h))

    -- the row that is put, and a placed one
    new_apart : (c : Crossing) (i : ℕ) → i < n → placed p s i ≡ true
        → Apart p l (start p ds s c i) (start_at p c (get_or ds k.row 0) (puts p l ds s k))
    unfolding hits start
    new_apart c i h e =
        apart_of p l _ _ (start_low p c _ _ (placed_low p s i e)) (start_low p c _ _ (puts_low p l ds s k some)) lp (not_met c i h e)

    module _ (is : is_step p n s k ≡ true) (long : n ≤ length s) (ok : Okay p l ds n s) where
      row_low : k.row < length s
      row_low = omega (arith, (names p n s k is).row_low)

      old_new : (c : Crossing) (i : ℕ) → i < n → (i ≡ k.row → ⊥) → placed p (put p l ds s k) i ≡ true
          → Apart p l (start p ds (put p l ds s k) c i) (start p ds (put p l ds s k) c k.row)
      unfolding start
      old_new c i h m e = rw (put_other p l ds s k i m, put_here p l ds s k row_low)
          (new_apart c i h (sym (placed_other p l ds s k i m) ∙ e))

      put_okay : Okay p l ds n (put p l ds s k)
      unfolding start
      put_okay c i j hi hj m pi pj = go (eqb i k.row) (eqb j k.row) refl refl
        where
          go : (a b : Bool) → eqb i k.row ≡ a → eqb j k.row ≡ b
              → Apart p l (start p ds (put p l ds s k) c i) (start p ds (put p l ds s k) c j)
          go true true x y = absurd (m (eqb-true i k.row x ∙ sym (eqb-true j k.row y)))
          go true false x y = rw (eqb-true i k.row x) (apart_sym p l _ _ (old_new c j hj (eqb-false j k.row y) pj))
          go false true x y = rw (eqb-true j k.row y) (old_new c i hi (eqb-false i k.row x) pi)
          go false false x y =
              let u = eqb-false i k.row x in
              let v = eqb-false j k.row y in
              rw (put_other p l ds s k i u, put_other p l ds s k j v)
              (ok c i j hi hj m (sym (placed_other p l ds s k i u) ∙ pi) (sym (placed_other p l ds s k j v) ∙ pj))

  -- where a build leads
  pub sound : {u : ℕ} {s : List ℕ} {q : List Step} → Build (rules p l ds n) u s q → At p n u s → Okay p l ds n s
      → At p n 0 (leads (rules p l ds n) s q) × Okay p l ds n (leads (rules p l ds n) s q)
  unfolding leads
  sound done a ok = (a, ok)
  sound (onward {u = u} {s = s} {k = k} m g b) a ok =
      let is = steps_are p n s k m in
      sound b (put_at p l ds s k n u some is a) (put_okay s k g is a.long ok)

  pub all_placed : (s : List ℕ) → At p n 0 s → (i : ℕ) → i < n → placed p s i ≡ true
  all_placed s a i h = not-false (placed p s i) (count_none (λ j. not (placed p s j)) n a.left i h)

  pub begin_okay : 0 < n → n ≤ max_rows → Okay p l ds n (begin p)
  begin_okay hn few c i j hi hj m pi pj = absurd (m (begin_free p n some hn few i hi pi ∙ sym (begin_free p n some hn few j hj pj)))

-- the offsets of all rows, as a list
module _ (p l : ℕ) (ds : List ℕ) (some : 0 < p) (lp : l ≤ p) where
  pub clear_of : (s : List ℕ) → At p (length ds) 0 s → Okay p l ds (length ds) s → Clear p l ds (take (length ds) s)
  unfolding start
  clear_of s a ok = clear_both (λ c. record { apart = free c })
    where
      free : (c : Crossing) (i j : ℕ) → i < j → j < length ds
          → Meet p l (start p ds (take (length ds) s) c i) (start p ds (take (length ds) s) c j) → ⊥
      free c i j h k =
          let x = all_placed p l ds (length ds) some lp s a i (omega arith) in
          let y = all_placed p l ds (length ds) some lp s a j k in
          rw (get_or-take (length ds) s i 0 (omega arith), get_or-take (length ds) s j 0 k)
          (no_slot p l _ _ (start_low p c _ _ (placed_low p s i x)) (start_low p c _ _ (placed_low p s j y)) lp
          (ok c i j (omega arith) k (λ z. omega arith) x y))

  -- clear offsets, row by row
  pub plan_of : (os : List ℕ) → ((i : ℕ) → i < length ds → get_or os i 0 < p) → Clear p l ds os
      → Plan p l ds (length ds) (λ i. get_or os i 0)
  unfolding start
  plan_of os low cl = record {
    inside = low;
    apart = λ c i j hi hj m. ⊎_elim (λ h. go c i j h hj)
        (λ h. apart_sym p l _ _ (go c j i (omega arith) hi)) (lt_or_ge i j);
  }
    where
      go : (c : Crossing) (i j : ℕ) → i < j → j < length ds
          → Apart p l (start_at p c (get_or ds i 0) (get_or os i 0)) (start_at p c (get_or ds j 0) (get_or os j 0))
      go c i j h k =
          apart_slots p l _ _ (start_low p c _ _ (low i (omega arith))) (start_low p c _ _ (low j k)) lp ((clear_in cl c).apart i j h k)
