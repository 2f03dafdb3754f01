-- A list that is written block by block, each from its front: block i holds what was written there, and the rest is kept. Assumes nothing.
use mathlib.Core.Path.{◌≡◌, sym, ap, ◌∙◌}
use mathlib.Core.List.{List, ◌++◌}
use mathlib.Core.Logic.{⊎_elim}
use Prim.Native.Nat.{ℕ, zero, suc, ◌+◌, ◌-◌, ◌*◌, ◌≤◌, ◌<◌}
use native.Mathlib.Nat.{mul-suc}
use native.Mathlib.Omega.{arith}
use lib.ListN.{length, take, drop, length-append, length-drop}
use lib.Seq.{length-take-le, take_at, drop_at, take-take, take-add, drop-drop, take-append-add, drop-append-add}
use Rattle.ground.specs.Lent.{on_front, block}
use Rattle.ground.proofs.Bools.{lt_or_ge}

-- a part behind m places is the same of the front
part_of_front : (m n : ℕ) (xs : List ℕ) → m ≤ length xs → drop m (take (m + n) xs) ≡ take n (drop m xs)
part_of_front m n xs h =
    ap (drop m) (take-add m n xs) ∙ drop_at (take m xs) (take n (drop m xs)) m (length-take-le m xs h)

-- lists with the same front of c places have the same parts in it
same_part : (a w c : ℕ) (xs ys : List ℕ) → a + w ≤ c → a ≤ length xs → a ≤ length ys → take c xs ≡ take c ys
    → take w (drop a xs) ≡ take w (drop a ys)
same_part a w c xs ys h k l e =
    sym (part_of_front a w xs k) ∙ ap (drop a) (sym (take-take (a + w) c xs h) ∙ ap (take (a + w)) e ∙ take-take (a + w) c ys h)
    ∙ part_of_front a w ys l

-- the list from the place a on has g in front
module _ (a w : ℕ) (xs g : List ℕ) (room : a + w ≤ length xs) (fits : length g ≤ w) where
  abbrev written : List ℕ
  written = take a xs ++ on_front g (drop a xs)

  before_it : take a written ≡ take a xs
  before_it = take_at (take a xs) (on_front g (drop a xs)) a (length-take-le a xs (omega arith))

  from_it : drop a written ≡ on_front g (drop a xs)
  from_it = drop_at (take a xs) (on_front g (drop a xs)) a (length-take-le a xs (omega arith))

  rest : ℕ
  rest = w - length g

  behind_it : drop (a + w) written ≡ drop (a + w) xs
  unfolding rest
  behind_it =
      let n : length g + rest ≡ w = omega arith in
      sym (drop-drop w a written) ∙ ap (drop w) from_it ∙ ap (λ (m : ℕ). drop m (on_front g (drop a xs))) (sym n)
      ∙ drop-append-add g (drop (length g) (drop a xs)) rest ∙ drop-drop rest (length g) (drop a xs)
      ∙ ap (λ (m : ℕ). drop m (drop a xs)) n ∙ drop-drop w a xs

  in_it : take w (drop a written) ≡ on_front g (take w (drop a xs))
  unfolding rest
  in_it =
      let n : length g + rest ≡ w = omega arith in
      let l : length g ≤ length (drop a xs) = omega (arith, length-drop a xs) in
      ap (take w) from_it ∙ ap (λ (m : ℕ). take m (on_front g (drop a xs))) (sym n)
      ∙ take-append-add g (drop (length g) (drop a xs)) rest
      ∙ ap (λ (ys : List ℕ). g ++ ys) (sym (part_of_front (length g) rest (drop a xs) l))
      ∙ ap (λ (m : ℕ). on_front g (take m (drop a xs))) n

  as_long : length written ≡ length xs
  as_long =
      omega (
        arith,
        length-append (take a xs) (on_front g (drop a xs)),
        length-append g (drop (length g) (drop a xs)),
        length-take-le a xs (omega arith),
        length-drop (length g) (drop a xs),
        length-drop a xs,
      )

-- s t is the list when the first t blocks are written, the next one with g t
pub record Series (w n : ℕ) (xs : List ℕ) (s g : ℕ → List ℕ) : Type 0 where
  pub start : s 0 ≡ xs
  pub step : (t : ℕ) → t < n → s (suc t) ≡ take (w * t) (s t) ++ on_front (g t) (drop (w * t) (s t))
  pub fits : (t : ℕ) → t < n → length (g t) ≤ w
  pub room : w * n ≤ length xs

module _ (w n : ℕ) (xs : List ℕ) (s g : ℕ → List ℕ) (b : Series w n xs s g) where
  -- block i ends where a later one begins, or before
  apart : (i j : ℕ) → i < j → w * i + w ≤ w * j
  apart i zero h = absurd (omega arith)
  apart i (suc j) h =
      ⊎_elim (λ l. omega (arith, apart i j l, mul-suc w j)) (λ l. let z : i ≡ j = omega arith in rw z (omega (arith, mul-suc w j)))
      (lt_or_ge i j)

  pub long : (t : ℕ) → t ≤ n → length (s t) ≡ length xs
  long zero h = ap length b.start
  long (suc t) h =
      let l = long t (omega arith) in
      let r = apart t n h in
      rw (b.step t h) (as_long (w * t) w (s t) (g t) (omega (arith, l, b.room)) (b.fits t h) ∙ l)

  inside : (t : ℕ) → t < n → w * t + w ≤ length (s t)
  inside t h = omega (arith, long t (omega arith), apart t n h, b.room)

  -- what stands behind the blocks that are written is as it was
  pub behind : (t : ℕ) → t ≤ n → drop (w * t) (s t) ≡ drop (w * t) xs
  behind zero h = ap (drop (w * 0)) b.start
  behind (suc t) h =
      rw (mul-suc w t, b.step t h)
      (behind_it (w * t) w (s t) (g t) (inside t h) (b.fits t h) ∙ sym (drop-drop w (w * t) (s t)) ∙ ap (drop w) (behind t (omega arith))
      ∙ drop-drop w (w * t) xs)

  -- a later block leaves block i alone
  stays : (i m : ℕ) → i < m → m < n → block w i (s (suc m)) ≡ block w i (s m)
  stays i m l h =
      let a = apart i m l in
      let r = inside m h in
      let k = b.step m h in
      same_part (w * i) w (w * m) (s (suc m)) (s m) a (omega (arith, long (suc m) h, long m (omega arith), r)) (omega arith)
      (rw k (before_it (w * m) w (s m) (g m) r (b.fits m h)))

  -- block i has what was written there in front, and is as it was behind that
  pub blocks : (i m : ℕ) → i < m → m ≤ n → block w i (s m) ≡ on_front (g i) (block w i xs)
  blocks i zero l h = absurd (omega arith)
  blocks i (suc m) l h =
      ⊎_elim (λ k. stays i m k h ∙ blocks i m k (omega arith))
      (λ k. let z : i ≡ m = omega arith in rw (z, b.step m h)
      (in_it (w * m) w (s m) (g m) (inside m h) (b.fits m h)
      ∙ ap (λ (ys : List ℕ). on_front (g m) (take w ys)) (behind m (omega arith)))) (lt_or_ge i m)
