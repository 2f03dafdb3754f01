-- How the walk over the rows shows which collision is named. Assumes nothing.
use mathlib.Core.Path.{◌≡◌, sym, ◌∙◌, ap}
use mathlib.Core.Bool.{true, false, not}
use mathlib.Core.List.{List}
use Prim.Native.Nat.{ℕ, ◌+◌, ◌<◌, ◌≤◌}
use native.Mathlib.Omega.{arith}
use lib.ListN.{length, get_or, take, set, length-set}
use borrow.Author.Count.{below_more, below_none}
use Rattle.ground.specs.Least.{least}
use Rattle.link.specs.Limits.{max_rows}
use Rattle.link.specs.Rows.{two, second, start, first_near, is_nobody, blocked}
use Rattle.link.specs.Range.{InRange}
use Rattle.link.specs.Rows.{Met}
use Rattle.link.specs.Rows.{Nobody, Row}
use Rattle.ground.proofs.Filling.{stored}
use Rattle.ground.proofs.Minimum.{least_at, some_at, some_none}
use Rattle.link.proofs.Meeting.{Starts, told, nobody_free}
use Rattle.checker.specs.Answer.{clearly, colliding, met_by, named}

module _ (p l : ℕ) (ds os : List ℕ) where
  pub met_blocked : (j : ℕ) → not (is_nobody (met_by p l ds os j)) ≡ blocked p l ds os j
  unfolding met_by blocked
  met_blocked j = ap not (nobody_free p l ds os j (get_or ds j 0) (get_or os j 0))

  unblocked : (j : ℕ) → met_by p l ds os j ≡ Nobody → blocked p l ds os j ≡ false
  unblocked j e = sym (met_blocked j) ∙ ap (λ (m : Met). not (is_nobody m)) e

  pub hit : (j i c : ℕ) → met_by p l ds os j ≡ Row i c → blocked p l ds os j ≡ true
  hit j i c e = sym (met_blocked j) ∙ ap (λ (m : Met). not (is_nobody m)) e

  named_at : (j i c : ℕ) → j < length ds → ((m : ℕ) → m < j → blocked p l ds os m ≡ false) → met_by p l ds os j ≡ Row i c
      → colliding i j c ≡ named p l ds os
  unfolding named
  named_at j i c lt b e =
      let at : least (blocked p l ds os) (length ds) ≡ j = least_at _ _ j (omega arith) b (λ _. hit j i c e) in
      rw (some_at (blocked p l ds os) (length ds) j lt (hit j i c e), at, e)

  pub named_clear : ((m : ℕ) → m < length ds → blocked p l ds os m ≡ false) → clearly ≡ named p l ds os
  unfolding named
  named_clear b = rw (some_none (blocked p l ds os) (length ds) b)

-- the rows before j meet nobody, and xs and ys have their starts
pub record Walked (p l : ℕ) (ds os xs ys : List ℕ) (j : ℕ) : Type 0 where
  pub first_room : length xs ≡ max_rows
  pub second_room : length ys ≡ max_rows
  pub firsts : (i : ℕ) → i < j → get_or xs i 0 ≡ get_or os i 0
  pub seconds : (i : ℕ) → i < j → get_or ys i 0 ≡ start p ds os two i
  pub none : (i : ℕ) → i < j → blocked p l ds os i ≡ false

pub none_yet : (p l : ℕ) (ds os xs ys : List ℕ) → length xs ≡ max_rows → length ys ≡ max_rows → Walked p l ds os xs ys 0
none_yet p l ds os xs ys e f =
    record { first_room = e; second_room = f; firsts = below_none _; seconds = below_none _; none = below_none _ }

module _ (p l : ℕ) (ds os xs ys : List ℕ) (j a b : ℕ) (m : Met) (r : InRange p l ds os) (w : Walked p l ds os xs ys j)
    (lt : j < length ds) where
  in_row : (i : ℕ) → i ≤ j → i < length os
  in_row i h = omega (arith, r.as_many)

  starts : Starts p l ds os j xs ys
  starts =
      record {
        span_high = r.span_high;
        xs_length = omega (arith, r.rows_high, w.first_room);
        ys_length = omega (arith, r.rows_high, w.second_room);
        firsts = w.firsts;
        seconds = w.seconds;
        low = λ i q. r.offsets i (in_row i (omega arith));
      }

  module _ (d : a ≡ get_or os j 0) (e : b ≡ second p (get_or ds j 0) (get_or os j 0))
      (f : m ≡ first_near p l (take j xs) (take j ys) a b) where
    -- what the walk's call tells of row j
    met_by_lem : m ≡ met_by p l ds os j
    unfolding met_by
    met_by_lem = told p l ds os j xs ys starts _ _ b m (r.offsets j (in_row j (omega arith))) e (rw d at f)

    pub stops : (i c : ℕ) → m ≡ Row i c → colliding i j c ≡ named p l ds os
    stops i c g = named_at p l ds os j i c lt w.none (sym met_by_lem ∙ g)

    pub goes_on : m ≡ Nobody → Walked p l ds os (set xs j a) (set ys j b) (j + 1)
    unfolding start
    goes_on g =
        record {
          first_room = length-set xs j a ∙ w.first_room;
          second_room = length-set ys j b ∙ w.second_room;
          firsts = stored _ xs j a (omega (arith, r.rows_high, w.first_room)) w.firsts d;
          seconds = stored _ ys j b (omega (arith, r.rows_high, w.second_room)) w.seconds e;
          none = below_more _ _ w.none (unblocked p l ds os j (sym met_by_lem ∙ g));
        }
