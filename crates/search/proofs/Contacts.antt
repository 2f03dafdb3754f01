-- A step in slots: it puts its row right after the other one in its crossing, at the only such offset, and it is good exactly where
-- the row then meets no placed row. Assumes nothing.
use mathlib.Core.Path.{◌≡◌, refl, sym, ap, ◌∙◌}
use mathlib.Core.Logic.{◌↔◌}
use mathlib.Core.Bool.{Bool, true, false, ◌&&◌, not}
use mathlib.Core.List.{List}
use Prim.Native.Nat.{ℕ, ◌<◌, ◌≤◌}
use lib.ListN.{get_or}
use Rattle.ground.specs.Least.{some}
use Rattle.link.specs.Slots.{after, Meet}
use Rattle.link.specs.Rows.{Crossing, one, two, start, start_at, hits, either}
use Rattle.ground.proofs.Bools.{clash, is_false}
use Rattle.link.proofs.OnCircle.{after_low, meets_true, meets_slot}
use Rattle.ground.proofs.Minimum.{some_none}
use Rattle.link.proofs.Meeting.{neither}
use Rattle.search.specs.Steps.{Step, placed, offset_of, puts, in_the_way, good}
use Rattle.search.proofs.Offsets.{offset_start, start_offset}
use Rattle.search.proofs.Soundness.{not_met}

module _ (p l : ℕ) (ds s : List ℕ) (k : Step) (some_period : 0 < p) where
  -- "It puts j so that in this crossing j starts in the slot right after i's last slot."
  pub puts_right_after : start_at p k.crossing (get_or ds k.row 0) (puts p l ds s k)
      ≡ after p l (start p ds s k.crossing k.beside)
  unfolding puts
  puts_right_after = start_offset p some_period k.crossing (get_or ds k.row 0) _ (after_low p some_period l _)

  -- and no other offset does
  pub puts_only : (a : ℕ) → a < p → start_at p k.crossing (get_or ds k.row 0) a ≡ after p l (start p ds s k.crossing k.beside)
      → a ≡ puts p l ds s k
  unfolding puts
  puts_only a h e = sym (offset_start p some_period k.crossing (get_or ds k.row 0) a h)
      ∙ ap (offset_of p k.crossing (get_or ds k.row 0)) e

  -- "A step is good when j then meets no placed row in either crossing."
  abbrev Meets : Crossing → ℕ → Type 0
  Meets c i = Meet p l (start p ds s c i) (start_at p c (get_or ds k.row 0) (puts p l ds s k))

  pub good_meets_none : (n : ℕ) → l ≤ p → (good p l ds n s k ≡ true) ↔
      ((c : Crossing) (i : ℕ) → i < n → placed p s i ≡ true → Meets c i → ⊥)
  unfolding good in_the_way hits
  good_meets_none n lp = (λ g c i h e m. clash (meets_true p l _ _ some_period m) (not_met p l ds n some_period lp s k g c i h e), back)
    where
      free : ((c : Crossing) (i : ℕ) → i < n → placed p s i ≡ true → Meets c i → ⊥) → (i : ℕ) → i < n → (b : Bool) → placed p s i ≡ b
          → (b && either (hits p l ds s (get_or ds k.row 0) (puts p l ds s k)) i) ≡ false
      free f i h false e = refl
      free f i h true e = neither (hits p l ds s (get_or ds k.row 0) (puts p l ds s k)) i (apart one) (apart two)
        where
          apart : (c : Crossing) → hits p l ds s (get_or ds k.row 0) (puts p l ds s k) c i ≡ false
          apart c = is_false _ (λ m. f c i h e (meets_slot p l _ _ m))

      back : ((c : Crossing) (i : ℕ) → i < n → placed p s i ≡ true → Meets c i → ⊥)
          → not (some (in_the_way p l ds s (get_or ds k.row 0) (puts p l ds s k)) n) ≡ true
      back f = ap not (some_none _ n (λ i h. free f i h (placed p s i) refl))
