-- Behind a message everything is free up to the next start, and every stretch begins behind a message. Assumes nothing.
use mathlib.Core.Path.{◌≡◌, refl, sym, ◌∙◌, ap}
use mathlib.Core.Bool.{Bool, true, false}
use mathlib.Core.Logic.{⊎_elim}
use mathlib.Core.List.{List}
use Prim.Native.Nat.{ℕ, zero, suc, ◌+◌, ◌-◌, ◌%◌, ◌<◌}
use native.Mathlib.Omega.{arith}
use native.Mathlib.Nat.{mod-eq_of_lt, mod-add-mod, add-mod_right, add_comm}
use lib.Dec.{ltb}
use lib.ListN.{length}
use borrow.Author.Tests.{lt-ltb, le-ltb}
use Rattle.ground.specs.Count.{count}
use Rattle.ground.proofs.Bools.{clash, lt_or_ge, true_or_false}
use Rattle.ground.proofs.Counting.{count_cong, count_places}
use Rattle.ground.proofs.Remainders.{same_on, same_back}
use Rattle.link.specs.Slots.{after, Uses}
use Rattle.link.proofs.OnCircle.{after_low}
use Rattle.report.specs.Runs.{around, run_begins, width}
use Rattle.report.specs.Steps.{Placed, at, free_at, NextStart}
use Rattle.report.proofs.Covering.{used_by, free_of_all, used_some}
use Rattle.report.proofs.Widths.{around_again, around_low, begins_here, begins_has, begins_not}
use Rattle.report.proofs.Widths.{width_at, width_none, width_some}

-- the slot right after row i's message
abbrev pub end_of : ℕ → ℕ → List ℕ → ℕ → ℕ
end_of p t xs i = after p t (at xs i)

-- how many slots are free from there on
unfoldable pub behind : ℕ → ℕ → List ℕ → ℕ → ℕ
behind p t xs i = width (free_at p t xs) p (end_of p t xs i)

module _ {p t : ℕ} {xs : List ℕ} (h : Placed p t xs) where
  abbrev q : ℕ → Bool
  q = free_at p t xs

  -- the slot x slots on from slot 0 is free
  abbrev free : ℕ → Bool
  free = around q p

  some : 0 < p
  some = omega (arith, h.size_low, h.size_high)

  used_at : (i k : ℕ) → i < length xs → k < t → free (at xs i + k) ≡ false
  used_at i k l m = used_by p t (at xs) (length xs) ((at xs i + k) % p) i l (k, m, refl)

  start_used : (i : ℕ) → i < length xs → q (at xs i) ≡ false
  start_used i l =
      let e : at xs i + 0 ≡ at xs i = omega arith in
      ap q (sym (mod-eq_of_lt (h.low i l))) ∙ rw e at (used_at i 0 l h.size_low)

  same_row : (i j s : ℕ) → i < length xs → j < length xs → Uses p t (at xs i) s → Uses p t (at xs j) s → i ≡ j
  same_row i j s a b u v =
      ⊎_elim (λ l. absurd (h.apart i j l b (s, u, v)))
      (λ l. ⊎_elim (λ m. absurd (h.apart j i m a (s, v, u))) (λ m. omega arith) (lt_or_ge j i)) (lt_or_ge i j)

  -- a slot is free if no message starts there and none goes on from the slot before it
  free_next : (y : ℕ) → ((j : ℕ) → j < length xs → at xs j ≡ suc y % p → ⊥)
      → ((j k : ℕ) → j < length xs → suc k < t → (at xs j + k) % p ≡ y % p → ⊥) → free (suc y) ≡ true
  free_next y f g = free_of_all p t (at xs) (length xs) (suc y % p) (λ j l u. go j l u.0 u.1 u.2)
    where
      go : (j : ℕ) → j < length xs → (k : ℕ) → k < t → (at xs j + k) % p ≡ suc y % p → ⊥
      go j l zero m e =
          let i : at xs j + 0 ≡ at xs j = omega arith in
          f j l (sym (mod-eq_of_lt (h.low j l)) ∙ rw i at e)
      go j l (suc k) m e =
          let i : at xs j + suc k ≡ at xs j + k + 1 = omega arith in
          let o : suc y ≡ y + 1 = omega arith in
          g j k l m (same_back p (at xs j + k) y 1 some (rw (i, o) at e))

  -- up to the next start from the slot x
  module _ {x r : ℕ} (w : NextStart p xs (length xs) x r) where
    free_on : free x ≡ true → (k : ℕ) → k < r → free (x + k) ≡ true
    free_on e zero l = let i : x + 0 ≡ x = omega arith in rw i e
    free_on e (suc k) l =
        let i : x + suc k ≡ suc (x + k) = omega arith in
        let before = free_on e k (omega arith) in
        rw i
        (free_next (x + k) (λ j m s. w.before (suc k) l j m (rw i s))
        (λ j n m b s. clash before (ap q (sym s) ∙ used_at j n m (omega arith))))

    pub width_is : (0 < r → free x ≡ true) → width q p x ≡ r
    width_is f =
        width_at q p x r w.high (λ k l. free_on (f (omega arith)) k l)
        (λ l. let s = w.start l in ap q (sym s.2) ∙ start_used s.0 s.1)

  -- behind row i
  module _ (i : ℕ) (l : i < length xs) where
    abbrev end : ℕ
    end = end_of p t xs i

    pub end_low : end < p
    end_low = after_low p some t (at xs i)

    -- the slot before a message's end is its own
    before_end : (at xs i + (t - 1)) % p ≡ (end + (p - 1)) % p
    unfolding after
    before_end =
        let e : at xs i + t + (p - 1) ≡ at xs i + (t - 1) + p = omega (arith, h.size_low, some) in
        sym (mod-add-mod (at xs i + t) p (p - 1) ∙ rw e (add-mod_right (at xs i + (t - 1)) p))

    -- and its last
    last : (k : ℕ) → suc k < t → (at xs i + k) % p ≡ (end + (p - 1)) % p → ⊥
    last k m e =
        let f : (k + at xs i) % p ≡ (t - 1 + at xs i) % p = rw (add_comm k, add_comm (t - 1)) (e ∙ sym before_end) in
        let low : k % p ≡ k = mod-eq_of_lt (omega (arith, h.size_high)) in
        let high : (t - 1) % p ≡ t - 1 = mod-eq_of_lt (omega (arith, h.size_high)) in
        omega (arith, same_back p k (t - 1) (at xs i) some f)

    pub behind_is : {r : ℕ} → NextStart p xs (length xs) end r → r ≡ behind p t xs i
    unfolding behind
    behind_is {r} w = sym (width_is w free_end)
      where
        free_end : 0 < r → free end ≡ true
        free_end some_run =
            let e : suc (end + (p - 1)) ≡ end + p = omega (arith, some) in
            let o : end + 0 ≡ end = omega arith in
            let f : suc (end + (p - 1)) % p ≡ (end + 0) % p = rw (e, o) (add-mod_right end p) in
            sym (around_again q p end)
            ∙ rw e at (free_next (end + (p - 1)) (λ j m s. w.before 0 some_run j m (s ∙ f))
            (λ j k m b s. not_on j k m b s (same_row i j _ l m (t - 1, omega (arith, h.size_low), before_end) (k, omega arith, s))))
          where
            not_on : (j k : ℕ) → j < length xs → suc k < t → (at xs j + k) % p ≡ (end + (p - 1)) % p → i ≡ j → ⊥
            not_on j k m b s d = last k b (rw (← d) at s)

    -- a run begins there exactly where something is free there
    pub begins_behind : run_begins q p end ≡ ltb 0 (behind p t xs i)
    unfolding behind
    begins_behind =
        ⊎_elim
        (λ e. begins_here q p end e (ap q (sym before_end) ∙ used_at i (t - 1) l (omega (arith, h.size_low)))
        ∙ sym (lt-ltb 0 (width q p end) (width_some q p end some e)))
        (λ e. begins_not q p end e ∙ sym (le-ltb 0 (width q p end) (omega (arith, width_none q p end e)))) (true_or_false (free end))

  -- a message with the slot before s, and not s, ends there
  ends_at : (s : ℕ) → q s ≡ true → (i k : ℕ) → i < length xs → k < t → (at xs i + (k + 1)) % p ≡ s → end_of p t xs i ≡ s
  unfolding after
  ends_at s e i k l m d =
      ⊎_elim (λ n. clash e (ap q (sym d) ∙ used_at i (k + 1) l n)) (λ n. let f : k + 1 ≡ t = omega arith in rw f at d) (lt_or_ge (k + 1) t)

  -- so a run begins behind a message, and nowhere else
  pub ends_here : (s : ℕ) → s < p → run_begins q p s ≡ true → (i : ℕ) × (i < length xs) × (end_of p t xs i ≡ s)
  ends_here s l e =
      let w = begins_has q p s e in
      let v = used_some p t (at xs) (length xs) ((s + (p - 1)) % p) w.1 in
      let d : s + (p - 1) + 1 ≡ s + p = omega arith in
      let f : at xs v.0 + v.2.0 + 1 ≡ at xs v.0 + (v.2.0 + 1) = omega arith in
      let on = same_on p (at xs v.0 + v.2.0) (s + (p - 1)) 1 v.2.2 in
      let here = rw (d, f, add-mod_right s p, mod-eq_of_lt l) at on in
      (v.0, v.1, ends_at s (sym (around_low q p s l) ∙ w.0) v.0 v.2.0 v.1 v.2.1 here)

  -- no two messages end at one slot
  ends_apart : (i j : ℕ) → i < j → j < length xs → end_of p t xs i ≡ end_of p t xs j → ⊥
  unfolding after
  ends_apart i j l m e =
      let d = same_on p (at xs i) (at xs j) 0 (same_back p (at xs i) (at xs j) t some e) in
      h.apart i j l m ((at xs i + 0) % p, (0, h.size_low, refl), (0, h.size_low, sym d))

  pub stretches_behind : count (run_begins q p) p ≡ count (λ i. ltb 0 (behind p t xs i)) (length xs)
  stretches_behind =
      count_places (run_begins q p) p (end_of p t xs) (length xs) end_low ends_apart ends_here
      ∙ count_cong _ _ (length xs) begins_behind
