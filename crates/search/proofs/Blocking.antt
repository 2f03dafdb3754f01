-- The code's test of a candidate is the definition's: over lists of starts, with the test of two starts that needs no slots.
-- Assumes nothing.
use mathlib.Core.Path.{◌≡◌, refl, ap, ◌∙◌}
use mathlib.Core.Bool.{Bool, true, false, ◌&&◌, ◌||◌, not}
use mathlib.Core.List.{List}
use Prim.Native.Nat.{ℕ, ◌<◌}
use native.Mathlib.Omega.{arith}
use lib.Dec.{ltb}
use lib.ListN.{get_or}
use borrow.Author.Tests.{ltb-true}
use Rattle.link.specs.Slots.{apartb, meets}
use Rattle.ground.specs.Least.{some}
use Rattle.link.specs.Rows.{second, start, hits, either}
use Rattle.link.proofs.OnCircle.{meets_apart}
use Rattle.ground.proofs.Minimum.{least_cong}
use Rattle.link.proofs.Meeting.{second_low}
use Rattle.search.specs.Steps.{Step, placed, puts, in_the_way, good}
use Rattle.search.specs.Search.{Table, Starts, blocked, unblocked}

module _ (p l : ℕ) (ds : List ℕ) (n : ℕ) (t : Table p l ds n) (xs ys : List ℕ) (st : Starts p ds n xs ys) (d a b : ℕ) (ha : a < p)
    (hb : b ≡ second p d a) where
  same : (i : ℕ) → i < n → blocked p l a b (get_or xs i 0) (get_or ys i 0) ≡ in_the_way p l ds xs d a i
  unfolding blocked in_the_way placed either hits start
  same i h = go (ltb (get_or xs i 0) p) refl
    where
      go : (z : Bool) → ltb (get_or xs i 0) p ≡ z → (z && (not (apartb p l (get_or xs i 0) a) || not (apartb p l (get_or ys i 0) b)))
          ≡ (z && (meets p l (get_or xs i 0) a || meets p l (second p (get_or ds i 0) (get_or xs i 0)) (second p d a)))
      go false e = refl
      go true e =
          let q : get_or xs i 0 < p = ltb-true _ _ e in
          rw (
            meets_apart p l (get_or xs i 0) a q ha t.span,
            st.seconds i h q,
            hb,
            meets_apart p l (second p (get_or ds i 0) (get_or xs i 0)) (second p d a) (second_low p _ _ (omega arith))
                (second_low p d a (omega arith)) t.span,
          )

  pub unblocked_free : unblocked p l xs ys n a b ≡ not (some (in_the_way p l ds xs d a) n)
  unfolding unblocked
  unblocked_free = ap (λ (x : ℕ). not (ltb x n)) (least_cong _ _ n same)

pub unblocked_good : (p l : ℕ) (ds : List ℕ) (n : ℕ) → Table p l ds n → (xs ys : List ℕ) → Starts p ds n xs ys
    → (k : Step) (a b : ℕ) (r : Bool)
    → a < p → a ≡ puts p l ds xs k → b ≡ second p (get_or ds k.row 0) a → r ≡ unblocked p l xs ys n a b → r ≡ good p l ds n xs k
unfolding good
unblocked_good p l ds n t xs ys st k a b r ha ea hb e =
    e ∙ unblocked_free p l ds n t xs ys st (get_or ds k.row 0) a b ha hb
    ∙ ap (λ (x : ℕ). not (some (in_the_way p l ds xs (get_or ds k.row 0) x) n)) ea
