-- Rows that have their offsets, as the code keeps them: in two lists of starts. Assumes nothing.
use mathlib.Core.Path.{◌≡◌, refl, sym, ap, ◌∙◌}
use mathlib.Core.List.{List}
use mathlib.Core.Logic.{⊎_elim}
use Prim.Native.Nat.{ℕ, ◌*◌, ◌≤◌, ◌<◌}
use native.Mathlib.Omega.{arith}
use lib.Dec.{eqb}
use lib.ListN.{length, get_or, take, set, length-set}
use lib.Seq.{get_or-take, get_or-set_same, get_or-set_other}
use borrow.Author.Count.{below_none}
use borrow.Author.Tests.{eqb-true, eqb-false}
use Rattle.ground.specs.Least.{least, least_from}
use Rattle.ground.proofs.Bools.{true_or_false}
use Rattle.ground.proofs.Hunting.{from_least}
use Rattle.ground.proofs.Minimum.{least_cong}
use Rattle.link.specs.Limits.{max_rows}
use Rattle.link.specs.Rows.{second, start, is_nobody}
use Rattle.link.proofs.Meeting.{Starts, told, nobody_free}
use Rattle.quick.specs.Plan.{free_at}
use Rattle.quick.specs.Ways.{Ways, open_to}
use Rattle.quick.proofs.Candidates.{candidate_low}

-- row i stands at its place in the lists
pub record Stands (p : ℕ) (ds xs ys : List ℕ) (i : ℕ) : Type 0 where
  pub low : get_or xs i 0 < p
  pub second_start : get_or ys i 0 ≡ second p (get_or ds i 0) (get_or xs i 0)

-- j rows stand, with the starts xs and ys
pub record Standing (p : ℕ) (ds : List ℕ) (j : ℕ) (xs ys : List ℕ) : Type 0 where
  pub xs_length : length xs ≡ max_rows
  pub ys_length : length ys ≡ max_rows
  pub each : (i : ℕ) → i < j → Stands p ds xs ys i

pub none_stands : (p : ℕ) (ds xs ys : List ℕ) → length xs ≡ max_rows → length ys ≡ max_rows → Standing p ds 0 xs ys
none_stands p ds xs ys e f = record { xs_length = e; ys_length = f; each = below_none _ }

module _ (p : ℕ) (ds : List ℕ) (j : ℕ) (xs ys : List ℕ) (s : Standing p ds j xs ys) (i a b : ℕ) (hi : i < max_rows) (ha : a < p)
    (e : b ≡ second p (get_or ds i 0) a) where
  here : Stands p ds (set xs i a) (set ys i b) i
  here =
      let same = get_or-set_same xs i a 0 (omega (arith, s.xs_length)) in
      record {
        low = rw same ha;
        second_start = rw (same, get_or-set_same ys i b 0 (omega (arith, s.ys_length))) e;
      }

  other : (k : ℕ) → k < j → (k ≡ i → ⊥) → Stands p ds (set xs i a) (set ys i b) k
  other k h n =
      let same = get_or-set_other xs i k a 0 n in
      record {
        low = rw same (s.each k h).low;
        second_start = rw (same, get_or-set_other ys i k b 0 n) (s.each k h).second_start;
      }

  -- row i comes to the offset a, where it had one or was the next to get one
  pub put : (n : ℕ) → ((k : ℕ) → k < n → (k ≡ i → ⊥) → k < j) → Standing p ds n (set xs i a) (set ys i b)
  put n h =
      record {
        xs_length = length-set xs i a ∙ s.xs_length;
        ys_length = length-set ys i b ∙ s.ys_length;
        each = λ k q.
            ⊎_elim (λ t. rw (eqb-true k i t) here) (λ t. let m = eqb-false k i t in other k (h k q m) m) (true_or_false (eqb k i));
      }

module _ (p l : ℕ) (ds : List ℕ) (j : ℕ) (hj : j < max_rows) (xs ys : List ℕ) (s : Standing p ds j xs ys) where
  starts : l ≤ p → Starts p l ds (take j xs) j xs ys
  unfolding start
  starts h =
      record {
        span_high = h;
        xs_length = omega (arith, s.xs_length);
        ys_length = omega (arith, s.ys_length);
        firsts = λ i q. sym (get_or-take j xs i 0 q);
        seconds = λ i q. rw (get_or-take j xs i 0 q) (s.each i q).second_start;
        low = λ i q. rw (get_or-take j xs i 0 q) (s.each i q).low;
      }

  -- the code's test of a candidate is the definition's
  open_free : (step count : ℕ) → Ways p l step count → (c : ℕ) → c < count
      → open_to p l (get_or ds j 0) (take j xs) (take j ys) step c ≡ free_at p l ds (take j xs) j step c
  unfolding open_to free_at
  open_free step count w c h =
      ap is_nobody (told p l ds (take j xs) j xs ys (starts w.span_high) (get_or ds j 0) (c * step) _ _
      (candidate_low p l step count w c h) refl refl)
      ∙ nobody_free p l ds (take j xs) j (get_or ds j 0) (c * step)

  -- what the hunt has found is the least of the planner's offsets that is free for row j
  pub least_free : (step count : ℕ) → Ways p l step count → (c : ℕ)
      → c ≡ least_from (open_to p l (get_or ds j 0) (take j xs) (take j ys) step) 0 count
      → c ≡ least (free_at p l ds (take j xs) j step) count
  least_free step count w c e = e ∙ from_least _ 0 count (below_none _) ∙ least_cong _ _ count (open_free step count w)
