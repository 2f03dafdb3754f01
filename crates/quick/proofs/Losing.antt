-- How many of a planner's offsets an earlier row takes: the offsets are a step apart from each other, and so are the starts they give in
-- either crossing. A row that has no offset has lost each of them to an earlier row. Assumes nothing.
use mathlib.Core.Path.{◌≡◌}
use mathlib.Core.Bool.{Bool, true, false, not, ◌&&◌, ◌||◌, and-true, or_comm}
use mathlib.Core.Logic.{⊎_elim}
use mathlib.Core.List.{List}
use Prim.Native.Nat.{ℕ, ◌+◌, ◌-◌, ◌*◌, ◌≤◌, ◌<◌}
use native.Mathlib.Omega.{arith}
use lib.Dec.{eqb}
use lib.ListN.{get_or}
use borrow.Author.Tests.{eqb-true, not-false}
use Rattle.ground.specs.Count.{count, sum}
use Rattle.ground.specs.Least.{least, some}
use Rattle.ground.proofs.Bools.{clash, lt_or_ge}
use Rattle.ground.proofs.Counting.{count_run, count_low, or_of}
use Rattle.ground.proofs.Minimum.{least_is}
use Rattle.ground.proofs.Sharing.{count_upto, count_either, count_once, shares, least_has}
use Rattle.link.specs.Rows.{Crossing, one, two, start_at, start, hits, either, free}
use Rattle.link.proofs.OnCircle.{Apart, apart_met}
use Rattle.link.proofs.Crowding.{met_most, met_behind}
use Rattle.link.proofs.Meeting.{second_after, start_low, none_hit}
use Rattle.link.proofs.Turning.{apart_moved}
use Rattle.quick.specs.Loads.{named_for, Follows}
use Rattle.quick.specs.Plan.{free_at}
use Rattle.quick.specs.Right.{Placed, Stuck}
use Rattle.quick.specs.Ways.{Ways}
use Rattle.quick.proofs.Candidates.{next_low, candidate_low}

abbrev other : Crossing → Crossing
other one = two
other two = one

-- where row i is met and row e is not
one_or_other : (h : Crossing → ℕ → Bool) (x : Crossing) (i e : ℕ) → either h i ≡ true → either h e ≡ false
    → ((h x i && not (h x e)) || h (other x) i) ≡ true
unfolding either
one_or_other h one i e f g = rw (none_hit h one e g, and-true) f
one_or_other h two i e f g = rw (none_hit h two e g, and-true, or_comm (h two i) (h one i)) f

module _ (p l : ℕ) (ds : List ℕ) (step n : ℕ) (w : Ways p l step n) (some_span : 0 < l) where
  low : (c : ℕ) → c < n → c * step < p
  low = candidate_low p l step n w

  candidates_apart : (c d : ℕ) → c < d → d < n → Apart p step (c * step) (d * step)
  candidates_apart c d h i = omega (arith, next_low c d step h, next_low d n step i, w.low)

  starts_apart : (x : Crossing) (e c d : ℕ) → c < d → d < n → Apart p step (start_at p x e (c * step)) (start_at p x e (d * step))
  starts_apart one e c d h i = candidates_apart c d h i
  starts_apart two e c d h i =
      let a = candidates_apart c d h i in
      rw (second_after p e (c * step), second_after p e (d * step))
      (apart_moved p e w.some_period step (c * step) (d * step) (low c (omega arith)) (low d i) (omega arith) a)

  module _ (j : ℕ) (os : List ℕ) (r : Placed p l ds step n j os) where
    start_of : (x : Crossing) (i : ℕ) → i < j → start p ds os x i < p
    unfolding start
    start_of x i h =
        let e = r.each i h in
        start_low p x (get_or ds i 0) (get_or os i 0) (omega (arith, e.1, low e.0 e.2.candidate))

    -- what row j meets at the candidate c
    abbrev met : ℕ → Crossing → ℕ → Bool
    met c = hits p l ds os (get_or ds j 0) (c * step)

    -- where row j would start
    abbrev tried : Crossing → ℕ → ℕ
    tried x c = start_at p x (get_or ds j 0) (c * step)

    tried_low : (x : Crossing) (c : ℕ) → c < n → tried x c < p
    tried_low x c q = start_low p x (get_or ds j 0) (c * step) (low c q)

    -- row i, which is placed
    module _ (i : ℕ) (h : i < j) where
      -- it is named at no more than it meets
      both_crossings : (a b : ℕ) → count (λ c. met c one i) n ≤ a → count (λ c. met c two i) n ≤ b → named_for p l ds os step n j i ≤ a + b
      unfolding named_for either
      both_crossings a b f g =
          omega (arith, least_has (λ c. either (met c)) n j i h, count_either (λ c. met c one i) (λ c. met c two i) n, f, g)

      -- as many as it takes steps to cover the 2l-1 slots in which a start meets it
      in_steps : (k : ℕ) → l + l - 1 ≤ k * step → (x : Crossing) → count (λ c. met c x i) n ≤ k
      unfolding hits
      in_steps k wide x =
          met_most p step (tried x) n w.some_step (tried_low x) (starts_apart x (get_or ds j 0)) l (start p ds os x i) w.span_high
          some_span (start_of x i h) k wide

      -- in crossing 1 only the candidate that it stands on itself, if the step is no shorter than a message
      its_own : l ≤ step → count (λ c. met c one i) n ≤ 1
      unfolding hits start
      its_own wide = count_once (λ c. met c one i) n (λ c d b q x y. omega (arith, same c (omega arith) x, same d q y))
        where
          e : ℕ
          e = (r.each i h).0

          e_low : e < n
          e_low = (r.each i h).2.candidate

          far : (c : ℕ) → c < n → met c one i ≡ true → Apart p l (e * step) (c * step) → ⊥
          far c q x a =
              clash (rw (r.each i h).1 at x)
              (apart_met p l (e * step) (c * step) (low e e_low) (low c q) w.span_high a)

          same : (c : ℕ) → c < n → met c one i ≡ true → c ≡ e
          same c q x =
              ⊎_elim (λ b. let a = candidates_apart c e b e_low in absurd (far c q x (omega arith)))
              (λ m. ⊎_elim (λ b. let a = candidates_apart e c b q in absurd (far c q x (omega arith))) (λ b. omega arith) (lt_or_ge e c))
              (lt_or_ge c e)

      -- Meta-Offset's step is a message: one candidate in crossing 1, and two in crossing 2
      pub three_at_most : l ≤ step → named_for p l ds os step n j i ≤ 3
      three_at_most wide = both_crossings 1 2 (its_own wide) (in_steps 2 (omega arith) two)

      -- First Fit's step is one slot: 2l-1 candidates in each crossing
      pub twice_at_most : (k : ℕ) → l + l - 1 ≤ k * step → named_for p l ds os step n j i ≤ k + k
      twice_at_most k wide = both_crossings k k (in_steps k wide one) (in_steps k wide two)

      -- a row right after an earlier one: in that crossing the candidates that meet the earlier one too are not named for it
      pub follower_at_most : Follows p l ds os i → (a b : ℕ) → l ≤ a * step → l + l - 1 ≤ b * step → named_for p l ds os step n j i ≤ a + b
      unfolding named_for hits
      follower_at_most f a b new all =
          omega (
            arith,
            count_upto _ (or_of first (λ c. met c (other x) i)) n named,
            count_either first (λ c. met c (other x) i) n,
            only_behind,
            in_steps b all (other x),
          )
        where
          x : Crossing
          x = f.crossing

          e : ℕ
          e = f.earlier

          first : ℕ → Bool
          first c = met c x i && not (met c x e)

          only_behind : count first n ≤ a
          only_behind =
              met_behind p step (tried x) n w.some_step (tried_low x) (starts_apart x (get_or ds j 0)) l (start p ds os x e) w.span_high
              some_span (start_of x e (omega (arith, f.is_earlier))) a (start p ds os x i) f.right_after new

          named : (c : ℕ) → c < n → eqb (least (either (met c)) j) i ≡ true → or_of first (λ c. met c (other x) i) c ≡ true
          named c q k =
              let at : least (either (met c)) j ≡ i = eqb-true _ _ k in
              let m = least_is (either (met c)) j in
              one_or_other (met c) x i e (rw at at (m.here (omega arith))) (m.before e (omega (arith, f.is_earlier)))

-- a row that has no offset has lost each of them to the row that is named for it
pub all_named : (p l : ℕ) (ds : List ℕ) (step n j : ℕ) (s : Stuck p l ds step n j) → sum (named_for p l ds s.offsets step n j) j ≡ n
unfolding named_for free_at free
all_named p l ds step n j s =
    let met : ℕ → ℕ → Bool = λ c. either (hits p l ds s.offsets (get_or ds j 0) (c * step)) in
    let all = count_run (λ c. some (met c) j) 0 n (omega arith) (λ c _ q. not-false (some (met c) j) (s.none c q)) in
    omega (arith, all, count_low (λ c. some (met c) j) n, shares (λ c. least (met c) j) n j)
