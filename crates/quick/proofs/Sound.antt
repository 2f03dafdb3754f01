-- `placed` gives each row its least free offset, and is stuck exactly at the first row that has none. Assumes nothing.
use mathlib.Core.Path.{◌≡◌, refl, ap, ◌∙◌, subst}
use mathlib.Core.Bool.{Bool, true, false, cond}
use mathlib.Core.List.{List, [], ◌∷◌, ◌++◌}
use mathlib.Core.Logic.{⊎_elim}
use Prim.Native.Nat.{ℕ, zero, suc, ◌*◌, ◌≤◌, ◌<◌}
use native.Mathlib.Omega.{arith}
use native.Mathlib.Numerals.{add-one}
use lib.ListN.{length, get_or, take, length-append, get_or-append}
use lib.Seq.{get_or_at, get_or-take, take-suc, take-length}
use borrow.Author.Tests.{ltb-true}
use Rattle.ground.specs.Least.{least, some}
use Rattle.ground.proofs.Bools.{lt_or_ge}
use Rattle.link.proofs.Clearness.{free_cong}
use Rattle.ground.proofs.Minimum.{least_is, least_at, none_has, some_none, some_has, some_at}
use Rattle.quick.specs.Plan.{free_at, Progress, rows, stuck, place, placed}
use Rattle.quick.specs.Right.{LeastFree, Placed, Stuck}
use Rattle.quick.proofs.Placing.{stays}

module _ (p l : ℕ) (ds : List ℕ) (step count : ℕ) where
  -- whether a candidate is free goes by the rows before
  free_same : (os ps : List ℕ) (j c : ℕ) → ((i : ℕ) → i < j → get_or os i 0 ≡ get_or ps i 0)
      → free_at p l ds os j step c ≡ free_at p l ds ps j step c
  unfolding free_at
  free_same os ps j c h = free_cong p l ds os ps j (get_or ds j 0) (c * step) h

  least_same : (os ps : List ℕ) (j c : ℕ) → ((i : ℕ) → i < j → get_or os i 0 ≡ get_or ps i 0) → LeastFree p l ds step count ps j c
      → LeastFree p l ds step count os j c
  least_same os ps j c h f =
      record {
        candidate = f.candidate;
        is_free = free_same os ps j c h ∙ f.is_free;
        least = λ i q. free_same os ps j i h ∙ f.least i q;
      }

  -- one row more
  module _ (ps : List ℕ) (n c : ℕ) (w : Placed p l ds step count n ps) (f : LeastFree p l ds step count ps n c) where
    front : (i : ℕ) → i < n → get_or (ps ++ (c * step ∷ [])) i 0 ≡ get_or ps i 0
    front i q = get_or-append ps (c * step ∷ []) 0 i (omega (arith, w.as_many))

    here : (j : ℕ) → j < suc n
        → (c' : ℕ) × (get_or (ps ++ (c * step ∷ [])) j 0 ≡ c' * step) × LeastFree p l ds step count (ps ++ (c * step ∷ [])) j c'
    here j q =
        ⊎_elim
        (λ m. let e = w.each j m in (e.0, front j m ∙ e.1, least_same _ ps j e.0 (λ i z. front i (omega arith)) e.2))
        (λ m. let e : j ≡ n = omega arith in rw e (c, get_or_at ps (c * step) [] 0 n w.as_many, least_same _ ps n c front f))
        (lt_or_ge j n)

    longer : Placed p l ds step count (suc n) (ps ++ (c * step ∷ []))
    longer = record { as_many = length-append ps (c * step ∷ []) ∙ rw w.as_many (add-one n); each = here }

  -- what `placed` says, read by cases
  pub data Says (n : ℕ) : Progress → Type 0 where
    all : (os : List ℕ) → Placed p l ds step count n os → Says n (rows os)
    some_row : (j : ℕ) → j < n → Stuck p l ds step count j → Says n (stuck j)

  pub says : (n : ℕ) → Says n (placed p l ds step count n)
  unfolding placed place
  says zero = all [] (record { as_many = refl; each = λ j q. absurd (omega arith) })
  says (suc n) = go (placed p l ds step count n) (says n)
    where
      free : List ℕ → ℕ → Bool
      free ps = free_at p l ds ps n step

      pick : (ps : List ℕ) → Placed p l ds step count n ps → (b : Bool) → some (free ps) count ≡ b
          → Says (suc n) (cond b (rows (ps ++ (least (free ps) count * step ∷ []))) (stuck n))
      pick ps w true e =
          all _ (longer ps n (least (free ps) count) w
          (record { candidate = ltb-true _ _ e; is_free = some_has (free ps) count e; least = (least_is (free ps) count).before }))
      pick ps w false e = some_row n (omega arith) (record { offsets = ps; before = w; none = none_has (free ps) count e })

      go : (o : Progress) → Says n o → Says (suc n) (place p l ds step count n o)
      go o (all ps w) = pick ps w (some (free ps) count) refl
      go o (some_row j h s) = some_row j (omega arith) s

  -- the other way round: rows placed right are what `placed` gives
  pub placed_is : (os : List ℕ) (n : ℕ) → n ≤ length os
      → ((j : ℕ) → j < n → (c : ℕ) × (get_or os j 0 ≡ c * step) × LeastFree p l ds step count os j c)
      → placed p l ds step count n ≡ rows (take n os)
  unfolding placed place
  placed_is os zero h each = refl
  placed_is os (suc n) h each =
      let before = placed_is os n (omega arith) (λ j q. each j (omega arith)) in
      rw (before, some_at q count c f.candidate f.is_free, at, take-suc os n 0 h, (each n (omega arith)).1)
    where
      q : ℕ → Bool
      q = free_at p l ds (take n os) n step

      c : ℕ
      c = (each n (omega arith)).0

      f : LeastFree p l ds step count (take n os) n c
      f = least_same (take n os) os n c (λ i z. get_or-take n os i 0 z) (each n (omega arith)).2

      at : least q count ≡ c
      at = least_at q count c (omega (arith, f.candidate)) f.least (λ _. f.is_free)

  pub all_is : (os : List ℕ) (n : ℕ) → Placed p l ds step count n os → placed p l ds step count n ≡ rows os
  all_is os n w =
      placed_is os n (omega (arith, w.as_many)) w.each
      ∙ ap rows (subst (λ (m : ℕ). take m os ≡ os) w.as_many (take-length os))

  pub stuck_is : (j n : ℕ) → j < n → Stuck p l ds step count j → placed p l ds step count n ≡ stuck j
  unfolding placed place
  stuck_is j n h s =
      stays p l ds step count (suc j) j n
      (rw (all_is s.offsets j s.before, some_none (free_at p l ds s.offsets j step) count s.none)) (omega arith)
