-- Clear offsets stay clear with a shorter message, and with rows taken out. Assumes nothing.
use mathlib.Core.Path.{◌≡◌, refl, ap}
use mathlib.Core.List.{List, ◌∷◌}
use Prim.Native.Nat.{ℕ, zero, suc, ◌<◌, ◌≤◌}
use native.Mathlib.Omega.{arith}
use lib.ListN.{length, get_or}
use Rattle.link.proofs.OnCircle.{Apart}
use Rattle.search.specs.Answer.{Fewer, empty, keep, take_out}
use Rattle.search.proofs.Completeness.{Plan}

-- where each row of xs stands in ys
record Within (xs ys : List ℕ) : Type 0 where
  at : ℕ → ℕ
  low : (i : ℕ) → i < length xs → at i < length ys
  apart : (i j : ℕ) → i < length xs → j < length xs → at i ≡ at j → i ≡ j
  same : (i : ℕ) → i < length xs → get_or xs i 0 ≡ get_or ys (at i) 0

places : {xs ys : List ℕ} → Fewer xs ys → Within xs ys
places empty = record { at = λ i. i; low = λ i h. absurd (omega arith); apart = λ i j h k e. e; same = λ i h. refl }
places (keep {x = x} {xs = xs} {ys = ys} f) = go (places f)
  where
    go : Within xs ys → Within (x ∷ xs) (x ∷ ys)
    go w = record { at = to; low = low; apart = apart; same = same }
      where
        to : ℕ → ℕ
        to zero = 0
        to (suc i) = suc (w.at i)

        low : (i : ℕ) → i < length (x ∷ xs) → to i < length (x ∷ ys)
        low zero h = omega arith
        low (suc i) h = omega (arith, w.low i (omega arith))

        apart : (i j : ℕ) → i < length (x ∷ xs) → j < length (x ∷ xs) → to i ≡ to j → i ≡ j
        apart zero zero h k e = refl
        apart zero (suc j) h k e = absurd (omega arith)
        apart (suc i) zero h k e = absurd (omega arith)
        apart (suc i) (suc j) h k e = ap suc (w.apart i j (omega arith) (omega arith) (omega arith))

        same : (i : ℕ) → i < length (x ∷ xs) → get_or (x ∷ xs) i 0 ≡ get_or (x ∷ ys) (to i) 0
        same zero h = refl
        same (suc i) h = w.same i (omega arith)
places (take_out {y = y} {xs = xs} {ys = ys} f) =
    let w = places f in
    record {
      at = λ i. suc (w.at i);
      low = λ i h. omega (arith, w.low i h);
      apart = λ i j h k e. w.apart i j h k
          (omega arith);
      same = w.same;
    }

module _ (p : ℕ) where
  -- "the same table with shorter messages"
  pub shorter_plan : (l m : ℕ) (ds : List ℕ) (n : ℕ) (A : ℕ → ℕ) → m ≤ l → Plan p l ds n A → Plan p m ds n A
  shorter_plan l m ds n A h a = record { inside = a.inside; apart = λ c i j hi hj q. let w = a.apart c i j hi hj q in less _ _ w }
    where
      less : (x y : ℕ) → Apart p l x y → Apart p m x y
      less x y w = omega arith

  -- "with rows taken out"
  pub fewer_plan : (l : ℕ) (xs ys : List ℕ) (A : ℕ → ℕ) → Fewer xs ys → Plan p l ys (length ys) A
      → (B : ℕ → ℕ) × Plan p l xs (length xs) B
  fewer_plan l xs ys A f a =
      let w = places f in (
        λ i. A (w.at i),
        record {
          inside = λ i h. a.inside (w.at i) (w.low i h);
          apart = λ c i j hi hj q. rw (w.same i hi, w.same j hj)
              (a.apart c (w.at i) (w.at j) (w.low i hi) (w.low j hj) (λ e. q (w.apart i j hi hj e)));
        },
      )
