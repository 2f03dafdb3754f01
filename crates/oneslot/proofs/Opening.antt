-- When an offset is open to a row beside rows with given starts: none of them is near, and one row more is one more to be far from.
-- Assumes nothing.
use mathlib.Core.Path.{◌≡◌, refl, sym, ap, ◌∙◌, subst}
use mathlib.Core.Bool.{Bool, true, false, not, ◌&&◌, ◌||◌}
use mathlib.Core.List.{List, [], ◌∷◌, ◌++◌}
use Prim.Native.Nat.{ℕ, ◌<◌}
use native.Mathlib.Nat.{mul-one}
use native.Mathlib.Numerals.{add-one}
use lib.ListN.{length, get_or, length-append, get_or-append}
use lib.Seq.{get_or_at}
use borrow.Author.Tests.{not-true}
use Rattle.ground.specs.Least.{some}
use Rattle.ground.proofs.Minimum.{least_cong, none_has, some_none, some_more}
use Rattle.link.specs.Rows.{Crossing, one, two, second, near, either, first_near}
use Rattle.link.specs.Slots.{apartb}
use Rattle.link.proofs.Meeting.{neither, none_hit, nobody_none}
use Rattle.quick.specs.Ways.{open_to}

-- open to a row: none of the starts is near
module _ (p l d : ℕ) (us vs : List ℕ) (a : ℕ) where
  open_is : open_to p l d us vs 1 a ≡ not (some (either (near p l us vs a (second p d a))) (length us))
  unfolding open_to first_near
  open_is = rw mul-one (nobody_none (near p l us vs a (second p d a)) (length us))

  pub open_far : open_to p l d us vs 1 a ≡ true → (c : Crossing) (k : ℕ) → k < length us → near p l us vs a (second p d a) c k ≡ false
  open_far e c k h =
      none_hit (near p l us vs a (second p d a)) c k
      (none_has (either (near p l us vs a (second p d a))) (length us) (not-true _ (sym open_is ∙ e)) k h)

  pub far_open : ((c : Crossing) (k : ℕ) → k < length us → near p l us vs a (second p d a) c k ≡ false) → open_to p l d us vs 1 a ≡ true
  far_open f = open_is ∙ ap not (some_none _ (length us) (λ k h. neither _ k (f one k h) (f two k h)))

-- one row more
module _ (p l d : ℕ) (us vs : List ℕ) (same : length us ≡ length vs) (a b y : ℕ) where
  front : (zs : List ℕ) (z k : ℕ) → k < length zs → get_or (zs ++ (z ∷ [])) k 0 ≡ get_or zs k 0
  front zs z k h = get_or-append zs (z ∷ []) 0 k h

  nearer : (k : ℕ) → k < length us
      → either (near p l (us ++ (a ∷ [])) (vs ++ (b ∷ [])) y (second p d y)) k ≡ either (near p l us vs y (second p d y)) k
  unfolding either near
  nearer k h = rw (front us a k h, front vs b k (subst (λ (n : ℕ). k < n) same h))

  last : either (near p l (us ++ (a ∷ [])) (vs ++ (b ∷ [])) y (second p d y)) (length us)
      ≡ (not (apartb p l a y) || not (apartb p l b (second p d y)))
  unfolding either near
  last = rw (get_or_at us a [] 0 (length us) refl, get_or_at vs b [] 0 (length us) (sym same))

  pub open_more : open_to p l d (us ++ (a ∷ [])) (vs ++ (b ∷ [])) 1 y
      ≡ (open_to p l d us vs 1 y && (apartb p l a y && apartb p l b (second p d y)))
  open_more =
      open_is p l d (us ++ (a ∷ [])) (vs ++ (b ∷ [])) y
      ∙ rw (length-append us (a ∷ []), add-one (length us), some_more _ (length us), last, least_cong _ _ (length us) nearer)
      (go (some (either (near p l us vs y (second p d y))) (length us)) (apartb p l a y) (apartb p l b (second p d y)))
      ∙ ap (λ (t : Bool). t && (apartb p l a y && apartb p l b (second p d y))) (sym (open_is p l d us vs y))
    where
      go : (s u v : Bool) → not (s || (not u || not v)) ≡ (not s && (u && v))
      go true u v = refl
      go false true true = refl
      go false true false = refl
      go false false v = refl
