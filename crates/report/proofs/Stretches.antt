-- The runs of a test on a circle are exactly the longest ones; each slot with the test lies in one, and in no second one; the widest is the
-- widest of them. Assumes nothing.
use mathlib.Core.Path.{◌≡◌, refl, sym, ◌∙◌, ap}
use mathlib.Core.Bool.{Bool, true, false}
use mathlib.Core.Logic.{⊎_elim, ◌↔◌}
use mathlib.Core.List.Memᴰ
use mathlib.Core.List.{List, [], ◌∷◌, Memᴰ}
use Prim.Native.Nat.{ℕ, zero, suc, ◌+◌, ◌-◌, ◌%◌, ◌≤◌, ◌<◌, max}
use native.Mathlib.Omega.{arith}
use native.Mathlib.Nat.{mod-lt, mod-eq_of_lt, mod-add-mod, add-mod_right}
use lib.ListN.{length}
use Rattle.ground.proofs.Bools.{clash, lt_or_ge, true_or_false}
use Rattle.ground.proofs.Remainders.{back_and_there, same_on}
use Rattle.report.specs.Runs.{around, run_begins, width, Run, Within, Longest, runs_below, runs, widest_of}
use Rattle.report.proofs.Widths.{Ends, around_before, around_low, begins_here, begins_has, begins_from, runs_in, runs_out}
use Rattle.report.proofs.Widths.{width_each, width_end, width_at, width_some, width_upto, width_short, width_from}

module _ (q : ℕ → Bool) (p : ℕ) where
  -- the run that begins at a
  abbrev from : ℕ → Run
  from a = record { first = a; wide = width q p a }

  -- r is the run that begins at a slot below m
  abbrev From : ℕ → Run → Type 0
  From m r = (a : ℕ) × (a < m) × (run_begins q p a ≡ true) × (r ≡ from a)

  from_more : (m : ℕ) (r : Run) → From m r → From (suc m) r
  from_more m r w = (w.0, omega (arith, w.1), w.2, w.3)

  pub member_from : (m : ℕ) (r : Run) → Memᴰ r (runs_below q p m) → From m r
  unfolding runs_below
  member_from zero r h = absurd (Memᴰ.not-nil h)
  member_from (suc m) r h =
      ⊎_elim
      (λ e. ⊎_elim (λ i. (m, omega arith, e, i)) (λ t. from_more m r (member_from m r t))
      (Memᴰ.cases_cons (rw (runs_in q p m e) at h)))
      (λ e. from_more m r (member_from m r (rw (runs_out q p m e) at h))) (true_or_false (run_begins q p m))

  member_more : (m : ℕ) (r : Run) → Memᴰ r (runs_below q p m) → Memᴰ r (runs_below q p (suc m))
  member_more m r h =
      ⊎_elim (λ e. rw (runs_in q p m e) (Memᴰ.tail h)) (λ e. rw (runs_out q p m e) h) (true_or_false (run_begins q p m))

  pub has_from : (m a : ℕ) → a < m → run_begins q p a ≡ true → Memᴰ (from a) (runs_below q p m)
  has_from zero a l e = absurd (omega arith)
  has_from (suc m) a l e =
      ⊎_elim (λ b. member_more m (from a) (has_from m a b e))
      (λ b. let i : a ≡ m = omega arith in rw (runs_in q p m (rw i at e)) (Memᴰ.head (ap from i))) (lt_or_ge a m)

  -- the slot before a run ends it, at the latest
  longest_from : (a : ℕ) → a < p → run_begins q p a ≡ true → Longest q p (from a)
  longest_from a l e =
      let w = begins_has q p a e in
      let ends = width_upto q p a (p - 1) w.1 in
      record {
        some = width_some q p a (omega arith) w.0;
        inside = l;
        each = width_each q p a;
        before = w.1;
        after = width_end q p a (omega arith);
      }

  pub short : (r : Run) → Longest q p r → r.wide < p
  short r w = ⊎_elim (λ l. l) (λ l. clash (w.each (p - 1) (omega (arith, w.inside))) w.before) (lt_or_ge r.wide p)

  from_longest : (r : Run) → Longest q p r → (run_begins q p r.first ≡ true) × (r ≡ from r.first)
  from_longest r w =
      let i : r.first + 0 ≡ r.first = omega arith in
      let wide = width_at q p r.first r.wide (omega (arith, short r w)) w.each (λ _. w.after) in (
        begins_here q p r.first (rw i at (w.each 0 w.some)) w.before,
        ap (λ (k : ℕ). record { first = r.first; wide = k }) (sym wide),
      )

  -- a run begins exactly where a longest one has its first slot
  pub begins_exactly : (a : ℕ) → a < p → (run_begins q p a ≡ true) ↔ ((r : Run) × Longest q p r × (r.first ≡ a))
  begins_exactly a l = (λ e. (from a, longest_from a l e, refl), λ w. rw w.2 at (from_longest w.0 w.1).0)

  -- "A stretch is a longest run": the list has these, and no others
  pub exactly_longest : (r : Run) → Memᴰ r (runs q p) ↔ Longest q p r
  exactly_longest r = (
    λ h. let w = member_from p r h in rw w.3 (longest_from w.0 w.1 w.2),
    λ w. let f = from_longest r w in rw f.1 (has_from p r.first w.inside f.0),
  )

  -- a run began at a, which is not above x, and has gone on to x
  abbrev Begun : ℕ → Type 0
  Begun x = (a : ℕ) × (a ≤ x) × (run_begins q p a ≡ true) × ((y : ℕ) → a ≤ y → y ≤ x → around q p y ≡ true)

  begun_now : (x : ℕ) → around q p x ≡ true → run_begins q p x ≡ true → Begun x
  begun_now x e b = (x, omega arith, b, λ y l m. let i : y ≡ x = omega arith in rw i e)

  begun_before : (x : ℕ) → around q p (suc x) ≡ true → Begun x → Begun (suc x)
  begun_before x e w = (
    w.0,
    omega (arith, w.1),
    w.2,
    λ y l m. ⊎_elim (λ b. w.3 y l (omega arith)) (λ b. let i : y ≡ suc x = omega arith in rw i e) (lt_or_ge y (suc x)),
  )

  -- on from a slot u that has not the test
  begun : (u d : ℕ) → 0 < p → around q p u ≡ false → around q p (d + u) ≡ true → Begun (d + u)
  begun u zero h f e = let i : 0 + u ≡ u = omega arith in clash (rw i at e) f
  begun u (suc d) h f e =
      let i : suc d + u ≡ suc (d + u) = omega arith in
      rw i
      (⊎_elim (λ t. begun_before (d + u) (rw i at e) (begun u d h f t))
      (λ t. begun_now (suc (d + u)) (rw i at e) (begins_here q p (suc (d + u)) (rw i at e) (around_before q p (d + u) h ∙ t)))
      (true_or_false (around q p (d + u))))

  -- each slot with the test lies in a run of the list
  pub in_one : Ends q p → (s : ℕ) → s < p → q s ≡ true → (r : Run) × Memᴰ r (runs q p) × Within p s r
  in_one u s l e = found ((s + (p - u.0 % p)) % p) (back_and_there p (omega arith) u.0 s ∙ mod-eq_of_lt l)
    where
      here : (x : ℕ) → x % p ≡ s → Begun x → (r : Run) × Memᴰ r (runs q p) × Within p s r
      here x f w =
          let a = w.0 in
          let k = x - a in
          let i : a + k ≡ x = omega (arith, w.1) in
          let goes_on : k < width q p a =
          ⊎_elim (λ m. m) (λ m. clash (w.3 (a + width q p a) (omega arith) (omega arith)) (width_end q p a (width_short q p u a)))
          (lt_or_ge k (width q p a)) in (
            from (a % p),
            has_from p (a % p) (mod-lt a (omega arith)) (begins_from q p a ∙ w.2),
            (k, omega (arith, width_from q p a), mod-add-mod a p k ∙ rw i f),
          )

      found : (d : ℕ) → (d + u.0) % p ≡ s → (r : Run) × Memᴰ r (runs q p) × Within p s r
      found d f = here (d + u.0) f (begun u.0 d (omega arith) (around_low q p u.0 u.1 ∙ u.2) (ap q f ∙ e))

  -- and in no second one
  pub in_no_second : (s : ℕ) (r x : Run) → Longest q p r → Longest q p x → Within p s r → Within p s x → r ≡ x
  in_no_second s r x v w a b = (from_longest r v).1 ∙ ap from same ∙ sym (from_longest x w).1
    where
      -- the slot before y would be one of z's
      not_before : (y z : Run) → Longest q p y → Longest q p z → (f : Within p s y) (g : Within p s z) → f.0 < g.0 → ⊥
      not_before y z m n f g l =
          let k = g.0 - f.0 - 1 in
          let d = p - 1 - f.0 in
          let i : y.first + f.0 + d ≡ y.first + (p - 1) = omega (arith, f.1, short y m) in
          let j : z.first + g.0 + d ≡ z.first + k + p = omega (arith, f.1, short y m) in
          let e : (y.first + (p - 1)) % p ≡ (z.first + k) % p =
          rw (i, j, add-mod_right (z.first + k) p) at (same_on p (y.first + f.0) (z.first + g.0) d (f.2 ∙ sym g.2)) in
          clash (n.each k (omega (arith, g.1))) (ap q (sym e) ∙ m.before)

      as_far : a.0 ≡ b.0
      as_far =
          ⊎_elim (λ l. absurd (not_before r x v w a b l))
          (λ l. ⊎_elim (λ m. absurd (not_before x r w v b a m)) (λ m. omega arith) (lt_or_ge b.0 a.0)) (lt_or_ge a.0 b.0)

      same : r.first ≡ x.first
      same =
          let d = p - a.0 in
          let i : r.first + a.0 + d ≡ r.first + p = omega (arith, a.1, short r v) in
          let j : x.first + b.0 + d ≡ x.first + p = omega (arith, as_far, a.1, short r v) in
          let there = same_on p (r.first + a.0) (x.first + b.0) d (a.2 ∙ sym b.2) in
          let e = rw (i, j, add-mod_right r.first p, add-mod_right x.first p) at there in
          sym (mod-eq_of_lt v.inside) ∙ e ∙ mod-eq_of_lt w.inside

-- "the length of the widest": no run is wider, and one is as wide
widest_has : (r : Run) (l : List Run) → Memᴰ r l → r.wide ≤ widest_of l
unfolding widest_of
widest_has r l (Memᴰ.head {x} {xs} e) = omega (arith, ap (λ (y : Run). y.wide) e)
widest_has r l (Memᴰ.tail {x} {xs} h) = omega (arith, widest_has r xs h)

pub none_wider : (l : List Run) (r : Run) → Memᴰ r l → r.wide ≤ widest_of l
none_wider l r = widest_has r l

pub widest_upto : (l : List Run) (k : ℕ) → ((r : Run) → Memᴰ r l → r.wide ≤ k) → widest_of l ≤ k
unfolding widest_of
widest_upto [] k h = omega arith
widest_upto (r ∷ l) k h = omega (arith, h r (Memᴰ.head refl), widest_upto l k (λ x m. h x (Memᴰ.tail m)))

-- a run of the list that is as wide as k
abbrev AsWide : List Run → ℕ → Type 0
AsWide l k = (x : Run) × Memᴰ x l × (x.wide ≡ k)

wider_of : (r : Run) (l : List Run) (k : ℕ) → AsWide l k → AsWide (r ∷ l) (max r.wide k)
wider_of r l k w =
    ⊎_elim (λ h. (w.0, Memᴰ.tail w.1, omega (arith, w.2))) (λ h. (r, Memᴰ.head refl, omega arith)) (lt_or_ge r.wide k)

pub one_as_wide : (l : List Run) → 0 < length l → AsWide l (widest_of l)
unfolding widest_of
one_as_wide [] h = absurd (omega arith)
one_as_wide (r ∷ []) h = (r, Memᴰ.head refl, omega arith)
one_as_wide (r ∷ (y ∷ l)) h = wider_of r (y ∷ l) (widest_of (y ∷ l)) (one_as_wide (y ∷ l) (omega arith))
