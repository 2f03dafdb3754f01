-- Room for a row that is moved and for a new one beside rows with given starts: what a walk over the open offsets finds. Assumes nothing.
use mathlib.Core.Path.{◌≡◌, sym, ◌∙◌}
use mathlib.Core.Bool.{Bool, true, false, and-false}
use mathlib.Core.List.{List, [], ◌∷◌, ◌++◌}
use lib.ListN.{length}
use Prim.Native.Nat.{ℕ, ◌+◌, ◌≤◌, ◌<◌}
use native.Mathlib.Omega.{arith}
use Rattle.std.proofs.lemmas.List.{map-append}
use borrow.Author.Count.{below_more}
use borrow.Author.Tests.{lt-ltb, le-ltb}
use Rattle.ground.specs.Least.{least, least_from}
use Rattle.ground.proofs.Hunting.{Walked, from_before, from_low, from_least, walk_on, walk_ends, walk_finds}
use Rattle.ground.proofs.Minimum.{least_cong, some_none}
use Rattle.link.specs.Rows.{second}
use Rattle.link.specs.Starts.{firsts, seconds}
use Rattle.link.specs.declared.Start.{Start}
use Rattle.link.proofs.Columns.{firsts_length, seconds_length}
use Rattle.quick.specs.Ways.{open_to}
use Rattle.oneslot.specs.Moves.{None, Row, opens, move_of}
use Rattle.oneslot.specs.Others.{open_beside, fits}
use Rattle.oneslot.proofs.Opening.{open_more}

-- e is the delay of the row that is moved, d the new row's
abbrev pub room_at : ℕ → ℕ → ℕ → ℕ → List ℕ → List ℕ → ℕ → Bool
room_at p l e d xs ys = opens p (fits p l e d xs ys)

module _ (p l e d : ℕ) (xs ys : List ℕ) (same : length xs ≡ length ys) where
  -- what is not open to the new row is not open to it beside the moved one
  shut_beside : (x y : ℕ) → open_to p l d xs ys 1 y ≡ false → open_beside p l e d xs ys x y ≡ false
  unfolding open_beside
  shut_beside x y f = open_more p l d xs ys same x (second p e x) y ∙ rw f

  shut_none : (x : ℕ) → ((y : ℕ) → y < p → fits p l e d xs ys x y ≡ false) → room_at p l e d xs ys x ≡ false
  unfolding opens
  shut_none x h = some_none (fits p l e d xs ys x) p h

  -- an offset that is not open to the moved row makes no room
  pub shut_room : (x : ℕ) → x < p → open_to p l e xs ys 1 x ≡ false → room_at p l e d xs ys x ≡ false
  unfolding fits
  shut_room x h f = shut_none x (λ y q. rw f)

  -- with no offset open to the new row there is no room, wherever the other goes
  pub no_room : (i : ℕ) → p ≡ least_from (open_to p l d xs ys 1) 0 p → None ≡ move_of p (fits p l e d xs ys) i
  unfolding move_of fits
  no_room i h =
      rw (some_none (room_at p l e d xs ys) p (λ x q. shut_none x (λ y m. rw (shut_beside x y (shut y m), and-false))))
    where
      shut : (y : ℕ) → y < p → open_to p l d xs ys 1 y ≡ false
      shut y m = from_before (open_to p l d xs ys 1) 0 p y (omega arith) (omega arith)

  -- x is the next open offset from one on before which none makes room
  module _ (from x : ℕ) (f : x ≡ least_from (open_to p l e xs ys 1) from p) (before : (i : ℕ) → i < from → room_at p l e d xs ys i ≡ false)
    where
      walked : Walked (open_to p l e xs ys 1) (room_at p l e d xs ys) p x
      walked = walk_on (open_to p l e xs ys 1) (room_at p l e d xs ys) p shut_room from x f before

      pub not_before : from ≤ p → from ≤ x
      not_before h = rw f (from_low (open_to p l e xs ys 1) from p h)

      pub none_left : (i : ℕ) → p ≤ x → None ≡ move_of p (fits p l e d xs ys) i
      unfolding move_of
      none_left i h = rw (some_none (room_at p l e d xs ys) p (walk_ends _ (room_at p l e d xs ys) p x walked h))

      -- at an open offset it goes by the offsets that are open beside it
      module _
          (h : x < p) (a y : ℕ) (g : a ≡ least_from (open_to p l d xs ys 1) 0 p) (k : y ≡ least_from (open_beside p l e d xs ys x) a p)
        where
          shut_before : (z : ℕ) → z < a → open_beside p l e d xs ys x z ≡ false
          shut_before z q = shut_beside x z (from_before (open_to p l d xs ys 1) 0 p z (omega arith) (omega (arith, g)))

          least_beside : least (fits p l e d xs ys x) p ≡ y
          unfolding fits
          least_beside =
              least_cong _ _ p (λ z q. rw (walked.here h)) ∙ sym (from_least (open_beside p l e d xs ys x) a p shut_before) ∙ sym k

          pub none_here : p ≤ y → (i : ℕ) → i < x + 1 → room_at p l e d xs ys i ≡ false
          unfolding opens
          none_here o = below_more _ x walked.before (rw least_beside (le-ltb y p o))

          pub room_here : (i : ℕ) → y < p → Row i x y ≡ move_of p (fits p l e d xs ys) i
          unfolding move_of opens
          room_here i o =
              let here : room_at p l e d xs ys x ≡ true = rw least_beside (lt-ltb y p o) in
              rw (walk_finds _ (room_at p l e d xs ys) p x walked here, lt-ltb x p h, least_beside)

-- the code's list of starts
pub same_length : (ss : List Start) → length (firsts ss) ≡ length (seconds ss)
same_length ss = firsts_length ss ∙ sym (seconds_length ss)

-- with the row that is moved behind it
pub moved_behind : (p l e d : ℕ) (ss : List Start) (x : ℕ) (t : Start) → (t.first ≡ x) × (t.second ≡ second p e x)
    → open_to p l d (firsts (ss ++ (t ∷ []))) (seconds (ss ++ (t ∷ []))) 1 ≡ open_beside p l e d (firsts ss) (seconds ss) x
unfolding open_beside firsts seconds
moved_behind p l e d ss x t f = rw (map-append, map-append, f.0, f.1)
